-- The lexemes of a module's source derive the module again.
use Rattle.std.proofs.Common.{◌≡◌, List as Seq, [], ◌∷◌, map, String, Global, Result, Ok, Err, refl, sym, ap, ◌∙◌, append-nil}
use Rattle.std.specs.Prelude.{IfOk, string_bytes}
use Rattle.starlark_lexer.specs.Tokens.{Text, Lexeme}
use Rattle.starlark_lexer.specs.Lexemes.{lexemes}
use Rattle.starlark_tree.specs.Ast.{no_payload, Statement}
use Rattle.starlark_spec.specs.Grammar.{Derivation, Derives, right_side, yield_of}
use Rattle.starlark_spec.specs.Grammar.Nonterminal.{Module}
use Rattle.starlark_spec.specs.Trees.{module_tree, tree}
use Rattle.starlark_source.specs.Lines.{module_source, source_of}
use Rattle.starlark_source.specs.SourceTokens.{tokens_of, terminals, source_tokens, with_last_newline}
use Rattle.starlark_source.specs.Unspanned.{unspanned_statement}
use Rattle.starlark_source.specs.ReadsBack.{IsOrderly, ReadsBack}
use Rattle.starlark_source.specs.declared.error.SourceError.{SourceError}
use Rattle.starlark_source.proofs.ReadBack.Writing.{side_tokens, IsFine, fine_closed, open_nowhere}
use Rattle.starlark_source.proofs.ReadBack.Derived.{said_sayable}
use Rattle.starlark_source.proofs.ReadBack.Modules.{ReadsModule, sayable_back}
use Rattle.starlark_source.proofs.SourceLexemes.Modules.{source_lexed}
use Rattle.starlark_source.proofs.Spans.Moves.{unplaced, Moved}
use Rattle.starlark_source.proofs.Spans.Derivations.{moved}
use Rattle.starlark_source.proofs.Spans.Trees.{seen, seen_unplaced, block_same}
use Rattle.starlark_source.proofs.Spans.LastNewline.{ended}
use Rattle.starlark_source.proofs.Spans.Rules.{fine_too}

-- derivations that are equal apart from spans have trees that are
pub alike : (d e : Derivation Module) → unplaced d ≡ unplaced e → seen Module (tree d) ≡ seen Module (tree e)
alike d e is = seen_unplaced d ∙ ap (λ x. seen Module (tree x)) is ∙ sym (seen_unplaced e)

pub same_module : (d e : Derivation Module) → seen Module (tree d) ≡ seen Module (tree e) → unspanned_statement (module_tree d)
    ≡ unspanned_statement (module_tree e)
same_module d e is = block_same _ _ (tree d) (tree e) is

none_left : (ls : Seq Lexeme) → terminals ls ≡ [] → ls ≡ []
none_left [] is = refl
none_left (l ∷ ls) is = absurd (cc)

-- the lexemes of a text derive this module again, apart from spans, and no node breaks a rule except those of types
pub record Returns (m : Statement no_payload) (text : Text) : Type 0 where
  pub lexemes_of : Seq Lexeme
  pub all : lexemes text ≡ map (λ l. Ok l) lexemes_of
  pub derivation : Derivation Module
  pub fine : IsFine (right_side derivation)
  pub derives : Derives Module lexemes_of [] derivation
  pub looks : unspanned_statement (module_tree derivation) ≡ unspanned_statement m

pub source_returns : (m : Statement no_payload) (text : Text) → source_of m ≡ Ok text → IsOrderly m → Returns m text
source_returns m text is o =
    let lexed = source_lexed m text is in
    let r = sayable_back m (said_sayable (module_source m) text is) o in
    let e = ended r.derivation r.writes.fine in
    let tokens_are : side_tokens (right_side r.derivation) [] ≡ source_tokens m = r.writes.tokens [] ∙ ap tokens_of (append-nil (module_source m)) in
    let here : terminals lexed.0 ≡ side_tokens (right_side e.derivation) [] = lexed.2 ∙ sym (e.tokens ∙ ap with_last_newline tokens_are) in
    let d : Moved e.derivation lexed.0 [] = (moved e.derivation).moves (fine_closed (right_side e.derivation) e.fine) lexed.0 [] here in
    record {
      lexemes_of = lexed.0;
      all = lexed.1;
      derivation = d.derivation;
      fine = fine_too d.derivation e.derivation d.same e.fine;
      derives = (d.yields ∙ ap (λ x. yield_of d.derivation x) (none_left d.rest d.left), open_nowhere (right_side d.derivation) [] _ d.closed tt);
      looks = same_module d.derivation e.derivation (alike d.derivation e.derivation d.same) ∙ same_module e.derivation r.derivation e.looks ∙ r.looks;
    }

-- ---- any lexemes with the tokens of a source

derives_there : (m : Statement no_payload) (r : ReadsModule m) → ReadsBack m
derives_there m r ls is =
    let closed = fine_closed (right_side r.derivation) r.writes.fine in
    let tokens_are : side_tokens (right_side r.derivation) [] ≡ source_tokens m = r.writes.tokens [] ∙ ap tokens_of (append-nil (module_source m)) in
    let d : Moved r.derivation ls [] = (moved r.derivation).moves closed ls [] (is ∙ sym tokens_are) in (
      d.derivation,
      (d.yields ∙ ap (λ x. yield_of d.derivation x) (none_left d.rest d.left), open_nowhere (right_side d.derivation) [] _ d.closed tt),
      same_module d.derivation r.derivation (alike d.derivation r.derivation d.same) ∙ r.looks,
    )

-- the source of an orderly module is read as that module again
pub read_if_ok : (m : Statement no_payload) (r : Result (String Global) SourceError) → IfOk r (λ text. source_of m ≡ Ok (string_bytes text))
    → IfOk r (λ text. IsOrderly m → ReadsBack m)
read_if_ok m (Ok text) is = λ o. derives_there m (sayable_back m (said_sayable (module_source m) (string_bytes text) is) o)
read_if_ok m (Err e) is = tt
