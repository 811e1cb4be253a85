-- Atoms of one token, and what is not an atom, in the form in which the code's answers cite them.
use Rattle.std.proofs.Common.{◌≡◌, ℕ, true, false, List, ◌∷◌, Option, Result, Ok, Err, MatchResult, refl, sym, ◌∙◌, ap, subst}
use Rattle.starlark_lexer.specs.Tokens.{Span, Lexeme, lexeme, Terminal}
use Rattle.starlark_lexer.specs.Tokens as tokens
use Rattle.starlark_lexer.specs.Lexer.{CodeLexeme}
use Rattle.starlark_lexer.specs.declared.dialect.DialectTypes.{DialectTypes}
use Rattle.starlark_lexer.specs.declared.kind.Kind.{Kind}
use Rattle.starlark_lexer.specs.declared.kind.Kind.TheVariants as kinds
use Rattle.starlark_spec.specs.Answers.{Answer}
use Rattle.starlark_spec.specs.Grammar.{Nonterminal, Derivation, right_side, yield_of}
use Rattle.starlark_spec.specs.Grammar.Nonterminal.{Module, Atom}
use Rattle.starlark_spec.specs.Grammar.Derivation.{atom_name, atom_int, atom_float, atom_string, atom_bytes, atom_ellipsis}
use Rattle.starlark_spec.specs.Trees.{tree, begin_of, end_of_last}
use Rattle.starlark_lexer.specs.Kinds.{is, kind_of}
use Rattle.starlark_spec.specs.Machine.States.{Place}
use Rattle.starlark_spec.specs.Machine.States.State.{read, done}
use Rattle.starlark_spec.specs.Machine.Sight.{token, look_at}
use Rattle.starlark_spec.specs.Machine.Firsts.{is_leaf}
use Rattle.starlark_spec.specs.Machine.Moves.{Take, Fail, move_atom}
use Rattle.starlark_spec.specs.Machine.Faults.{Moves, ruled}
use Rattle.starlark_parse_held.specs.Held.{expression_of}
use Rattle.starlark_parse_held.specs.declared.expression.HeldExpr.{HeldExpr}
use Rattle.starlark_spec.specs.declared.refusal.Refusal.{Refusal}
use Rattle.starlark_spec.specs.declared.refusal.Refusal.TheVariants as refusals
use Rattle.starlark_parse_cursor.specs.Reading.{At, Advances, stop_at}
use Rattle.starlark_parse_cursor.specs.Contract.{Goes.stays, Goes.takes, FailsFrom, Parses}
use Rattle.starlark_parse_cursor.proofs.Paths.{begin_seen, due, wants_memory}
use Rattle.starlark_parse.specs.Expr.Expressions.{IsAtom, leaf_expression}
use Rattle.starlark_spec.proofs.Constructors.{not_false, not_true}

no_atom : {b : Nonterminal} (p : Place b Atom) (x : Lexeme) (k : Kind) → is k kinds.OpeningRound ≡ false → is k kinds.OpeningSquare ≡ false
    → is k kinds.OpeningCurly ≡ false → is k kinds.FStringStart ≡ false → is_leaf k ≡ false → move_atom p x k ≡ Fail
no_atom p x kinds.Identifier f g i j h = not_false h
no_atom p x kinds.Int f g i j h = not_false h
no_atom p x kinds.Float f g i j h = not_false h
no_atom p x kinds.String f g i j h = not_false h
no_atom p x kinds.Bytes f g i j h = not_false h
no_atom p x kinds.Ellipsis f g i j h = not_false h
no_atom p x kinds.OpeningRound f g i j h = not_false f
no_atom p x kinds.OpeningSquare f g i j h = not_false g
no_atom p x kinds.OpeningCurly f g i j h = not_false i
no_atom p x kinds.FStringStart f g i j h = not_false j
no_atom p x k f g i j h = refl

-- the atom that a token is
pub record Leaf (x : Terminal) (s : Span) : Type 0 where
  pub derivation : Derivation Atom
  pub means : leaf_expression x s ≡ tree derivation
  pub takes_it : (p : Place Module Atom) (y : DialectTypes) → ruled y (read Atom p) (look_at (token (lexeme x s))) ≡ Moves (Take (done derivation p))
  pub spells : (rest : List Lexeme) → yield_of derivation rest ≡ lexeme x s ∷ rest
  pub ends : (before : ℕ) → end_of_last (right_side derivation) before ≡ s.end

pub leaf_is : (x : Terminal) (s : Span) → is_leaf (kind_of x) ≡ true → Leaf x s
leaf_is (tokens.Identifier text) s h = record {
  derivation = atom_name text s;
  means = refl;
  takes_it = λ p y. refl;
  spells = λ rest. refl;
  ends = λ before. refl;
}
leaf_is (tokens.Int n) s h = record { derivation = atom_int n s; means = refl; takes_it = λ p y. refl; spells = λ rest. refl; ends = λ before. refl }
leaf_is (tokens.Float text) s h = record { derivation = atom_float text s; means = refl; takes_it = λ p y. refl; spells = λ rest. refl; ends = λ before. refl }
leaf_is (tokens.String text) s h = record {
  derivation = atom_string text s;
  means = refl;
  takes_it = λ p y. refl;
  spells = λ rest. refl;
  ends = λ before. refl;
}
leaf_is (tokens.Bytes text) s h = record { derivation = atom_bytes text s; means = refl; takes_it = λ p y. refl; spells = λ rest. refl; ends = λ before. refl }
leaf_is tokens.Ellipsis s h = record { derivation = atom_ellipsis s; means = refl; takes_it = λ p y. refl; spells = λ rest. refl; ends = λ before. refl }
leaf_is x s h = not_true h

module _ {S : Type 0} {steps : S → Option CodeLexeme → S → Type 0} where
  pub atom_refused : {a m n o b : At S} {r : Answer} → is_leaf (look_at a.sight).kind ≡ false → (is (look_at a.sight).kind kinds.OpeningRound ≡ false) × (m ≡ a)
      → (is (look_at m.sight).kind kinds.OpeningSquare ≡ false) × (n ≡ m) → (is (look_at n.sight).kind kinds.OpeningCurly ≡ false) × (o ≡ n)
      → (is (look_at o.sight).kind kinds.FStringStart ≡ false) × (b ≡ o) → r ≡ stop_at b → FailsFrom steps (λ (p : Place Module Atom). read Atom p) a b r
  atom_refused {a = a} {b = b} h f g k j e =
      let same : b ≡ a = j.1 ∙ k.1 ∙ g.1 ∙ f.1 in
      let no_square : is (look_at a.sight).kind kinds.OpeningSquare ≡ false = subst (λ (x : At S). is (look_at x.sight).kind kinds.OpeningSquare ≡ false) f.1
      g.0 in
      let no_curly : is (look_at a.sight).kind kinds.OpeningCurly ≡ false = subst (λ (x : At S). is (look_at x.sight).kind kinds.OpeningCurly ≡ false)
      (g.1 ∙ f.1) k.0 in
      let no_quote : is (look_at a.sight).kind kinds.FStringStart ≡ false = subst (λ (x : At S). is (look_at x.sight).kind kinds.FStringStart ≡ false)
      (k.1 ∙ g.1 ∙ f.1) j.0 in
      due (λ p. read Atom p) same e (λ p. stays) (λ p. ap (λ m. Moves m) (no_atom p (look_at a.sight).first (look_at a.sight).kind f.0 no_square no_curly
      no_quote h))

  -- ---- atoms of one token

  pub leaf_parses : (a b : At S) (r : Result HeldExpr Refusal) (x : Terminal) (s : Span) → Advances steps a (lexeme x s) b → is_leaf (kind_of x) ≡ true
      → MatchResult r (λ e. expression_of e ≡ leaf_expression x s) (λ e. e ≡ refusals.Memory) → Parses steps Atom IsAtom a r b
  leaf_parses a b (Ok e) x s v k h = let l = leaf_is x s k in record {
    derivation = l.derivation;
    means = h ∙ l.means;
    begin_is = λ rest. ap begin_of (l.spells rest) ∙ begin_seen v;
    end_is = λ before. v.end_is ∙ sym (l.ends before);
    goes = λ p. takes v (l.takes_it p a.types) stays;
  }
  leaf_parses a b (Err e) x s v k h = let l = leaf_is x s k in wants_memory (λ p. done l.derivation p) h (λ p. takes v (l.takes_it p a.types) stays)
