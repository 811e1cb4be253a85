-- What was read begins with the item that was next.
use Rattle.std.proofs.Common.{◌≡◌, ℕ, true, false, List, [], ◌∷◌, ◌++◌, Option, refl, sym, ◌∙◌, ap}
use Rattle.starlark_lexer.specs.Tokens.{Lexeme}
use Rattle.starlark_lexer.specs.Lexer.{CodeLexeme}
use Rattle.starlark_lexer.specs.declared.kind.Kind.TheVariants as kinds
use Rattle.starlark_spec.specs.Items.{Ending, at_end}
use Rattle.starlark_spec.specs.Grammar.{Nonterminal, Derivation, RightSide, yield_of, side_yield}
use Rattle.starlark_spec.specs.Grammar.RightSide.{nothing, word, ◌⨾◌, marked, tokens_end}
use Rattle.starlark_spec.specs.Grammar.Nonterminal.{Module}
use Rattle.starlark_spec.specs.Trees.{begin_of}
use Rattle.starlark_spec.specs.Machine.States.{Place}
use Rattle.starlark_spec.specs.Machine.States.State.{read, done}
use Rattle.starlark_spec.specs.Machine.Sight.{Sight, token, ending, sight, look}
use Rattle.starlark_spec.specs.Machine.ReadParts.{seen_at}
use Rattle.starlark_spec.specs.Machine.Steps.{after_first}
use Rattle.starlark_spec.proofs.Complete.{starts, first}
use Rattle.starlark_parse_cursor.specs.Reading.{At, begin_at, begin_in}
use Rattle.starlark_parse_cursor.specs.Contract.{Goes}
use Rattle.starlark_parse_cursor.proofs.TokenRuns.{token_run, TokenRun}

-- what follows a part's tokens
after : (w : RightSide) (r s : List Lexeme) → side_yield w r ≡ side_yield w s → r ≡ s
after nothing r s h = h
after (word t z) r s h = ap after_first h
after (a ⨾ b) r s h = after b r s (after a _ _ h)
after (marked x a) r s h = after a r s h
after tokens_end r s h = h

begins_first : (z : Ending) (k : Sight) (ts rest : List Lexeme) (end : ℕ) → k ≡ sight z (ts ++ rest) → (ts ≡ [] → ⊥) → (r : List Lexeme)
    → begin_of (ts ++ r) ≡ begin_in k end
begins_first z k [] rest end h n r = absurd (n refl)
begins_first z k (x ∷ ts) rest end h n r = ap (λ y. begin_in y end) (sym h)

module _ {S : Type 0} {steps : S → Option CodeLexeme → S → Type 0} where
  seen_first : {n : Nonterminal} {a b : At S} (d : Derivation n) (p : Place Module n) (q : TokenRun steps (read n p) a (done d p) b) → (k : Sight) → k ≡ b.sight
      → (q.tokens ≡ [] → ⊥) → (r : List Lexeme) → begin_of (q.tokens ++ r) ≡ begin_at a
  seen_first {a = a} d p q (token x) h n r = begins_first at_end a.sight q.tokens (x ∷ []) a.end (q.saw at_end (x ∷ []) (sym h)) n r
  seen_first {a = a} d p q (ending z) h n r = begins_first z a.sight q.tokens [] a.end (q.saw z [] (sym h)) n r

  -- a derivation that was read begins with the item that was next
  pub begin_read : {n : Nonterminal} {a b : At S} (d : Derivation n) (p : Place Module n) → starts n kinds.End ≡ false → Goes steps (read n p) a (done d p) b
      → (rest : List Lexeme) → begin_of (yield_of d rest) ≡ begin_at a
  begin_read {n = n} {a = a} {b = b} d p none g rest =
      let q = token_run g in
      let tells : (r : List Lexeme) → yield_of d r ≡ q.tokens ++ r = λ r. after (seen_at p) (yield_of d r) (q.tokens ++ r) (q.yields r) in
      let some : q.tokens ≡ [] → ⊥ = λ e. nothing_first (first at_end d []) (tells [] ∙ ap (λ ts. ts ++ []) e) in
      ap begin_of (tells rest) ∙ seen_first d p q b.sight refl some rest
    where
      nothing_first : starts n (look at_end (yield_of d [])).kind ≡ true → yield_of d [] ≡ [] → ⊥
      nothing_first f e = let w : true ≡ false = sym f ∙ ap (λ ts. starts n (look at_end ts).kind) e ∙ none in cc
