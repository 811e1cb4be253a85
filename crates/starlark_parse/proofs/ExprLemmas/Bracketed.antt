-- The machine's paths through delimiters around a list, in the form in which the code's answers cite them.
use Rattle.std.proofs.Common.{◌≡◌, ℕ, Bool, true, false, if◌then◌else◌, List, [], Option, None, Result, Ok, Err, MatchResult, refl, sym, ◌∙◌, ap, subst, ◌⊎◌}
use Rattle.std.proofs.Common.{inl, inr}
use Rattle.std.specs.Bool.{⊤}
use Rattle.starlark_lexer.specs.Tokens.{Span, from_to, Lexeme, lexeme}
use Rattle.starlark_lexer.specs.Lexer.{CodeLexeme}
use Rattle.starlark_lexer.specs.declared.dialect.DialectTypes.{DialectTypes}
use Rattle.starlark_tree.specs.Ast.{Expression, no_payload}
use Rattle.starlark_parse_held.specs.Held.{expression_of}
use Rattle.starlark_spec.specs.Trees.{Pair, tuple, list, dictionary, tree, begin_of, end_of_last, grouped}
use Rattle.starlark_parse_held.specs.declared.expression.HeldExpr.{HeldExpr}
use Rattle.starlark_lexer.specs.declared.kind.Kind.{Kind}
use Rattle.starlark_lexer.specs.declared.kind.Kind.TheVariants as kinds
use Rattle.starlark_parse.specs.declared.expr.listed.Listed.{Listed}
use Rattle.starlark_parse.specs.declared.expr.listed.Listed.TheVariants as listed
use Rattle.starlark_parse.specs.declared.expr.listed.ListedEntries.{ListedEntries}
use Rattle.starlark_parse.specs.declared.expr.listed.ListedEntries.TheVariants as listed_entry
use Rattle.starlark_spec.specs.Answers.{Answer}
use Rattle.starlark_spec.specs.Grammar.{Nonterminal, ElementKind, Derivation, right_side, yield_of}
use Rattle.starlark_spec.specs.Grammar.ElementKind.{elements, entries}
use Rattle.starlark_spec.specs.Grammar.Nonterminal.{Module, Atom, OptionalList}
use Rattle.starlark_spec.specs.Grammar.Derivation.{atom_round, atom_square, atom_curly}
use Rattle.starlark_lexer.specs.Kinds.{is, token_of}
use Rattle.starlark_spec.specs.Machine.States.{Place, State, Place.atom_round_at, Place.atom_square_at, Place.atom_curly_at}
use Rattle.starlark_spec.specs.Machine.States.State.{read, done, round_due, square_due, curly_due}
use Rattle.starlark_spec.specs.Machine.Sight.{Look, token, look_at}
use Rattle.starlark_spec.specs.Machine.Moves.{Move, Keep, Take, Fail, single, single_entry, after_first_element, after_first_entry}
use Rattle.starlark_spec.specs.Machine.Faults.{Moves, ruled}
use Rattle.starlark_spec.specs.declared.refusal.Refusal.{Refusal}
use Rattle.starlark_spec.specs.declared.refusal.Refusal.TheVariants as refusals
use Rattle.starlark_parse_cursor.specs.Reading.{At, Advances, stop_at}
use Rattle.starlark_parse_cursor.specs.Contract.{Goes, Goes.stays, Goes.keeps, Goes.takes, FailsFrom, Found, FoundOptionalList, ParsesFrom}
use Rattle.starlark_parse.specs.Expr.Expressions.{IsAtom, AreTests, AreEntries, in_parentheses}
use Rattle.starlark_parse_cursor.proofs.Paths.{after, further, due, wants_memory}

-- delimiters around a list: their place, the state in which the closing one is due, and the atom that they are
pub record Bracket (k : ElementKind) : Type 1 where
  pub closing : Kind
  pub into : Span → Place Module Atom → Place Module (OptionalList k)
  pub waits : Span → Derivation (OptionalList k) → Place Module Atom → State Module
  pub atom : Span → Derivation (OptionalList k) → Span → Derivation Atom
  -- no clauses come
  pub Lists : Derivation (OptionalList k) → Kind → Type 0
  pub listed : (o : Span) (d : Derivation (OptionalList k)) (p : Place Module Atom) (y : DialectTypes) (l : Look) → Lists d l.kind
      → ruled y (done d (into o p)) l ≡ Moves (Keep (waits o d p))
  pub stops : (o : Span) (d : Derivation (OptionalList k)) (p : Place Module Atom) (y : DialectTypes) (l : Look) → is l.kind closing ≡ false
      → ruled y (waits o d p) l ≡ Moves Fail
  pub closes : (o : Span) (d : Derivation (OptionalList k)) (c : Span) (p : Place Module Atom) (y : DialectTypes)
      → ruled y (waits o d p) (look_at (token (lexeme (token_of closing) c))) ≡ Moves (Take (done (atom o d c) p))
  pub begins : (o : Span) (d : Derivation (OptionalList k)) (c : Span) (rest : List Lexeme) → begin_of (yield_of (atom o d c) rest) ≡ o.begin
  pub ends_at : (o : Span) (d : Derivation (OptionalList k)) (c : Span) (before : ℕ) → end_of_last (right_side (atom o d c)) before ≡ c.end

either_way : {b : Nonterminal} (x : Bool) (u v : Move b) → u ≡ v → (if x then u else v) ≡ v
either_way true u v h = h
either_way false u v h = refl

pub square_listed : (o : Span) (d : Derivation (OptionalList elements)) (p : Place Module Atom) (y : DialectTypes) (l : Look) → (is l.kind kinds.For ≡ false)
    ⊎ (single d ≡ None) → ruled y (done d (atom_square_at o p)) l ≡ Moves (Keep (square_due o d p))
square_listed o d p y l (inl h) = rw h refl
square_listed o d p y l (inr n) = ap (λ m. Moves m) (either_way (is l.kind kinds.For) _ (Keep (square_due o d p)) (ap (after_first_element o d p) n))

pub curly_listed : (o : Span) (d : Derivation (OptionalList entries)) (p : Place Module Atom) (y : DialectTypes) (l : Look) → (is l.kind kinds.For ≡ false)
    ⊎ (single_entry d ≡ None) → ruled y (done d (atom_curly_at o p)) l ≡ Moves (Keep (curly_due o d p))
curly_listed o d p y l (inl h) = rw h refl
curly_listed o d p y l (inr n) = ap (λ m. Moves m) (either_way (is l.kind kinds.For) _ (Keep (curly_due o d p)) (ap (after_first_entry o d p) n))

abbrev pub in_round : Bracket elements
in_round = record {
  closing = kinds.ClosingRound;
  into = λ o p. atom_round_at o p;
  waits = λ o d p. round_due o d p;
  atom = λ o d c. atom_round o d c;
  Lists = λ d l. ⊤;
  listed = λ o d p y l h. refl;
  stops = λ o d p y l h. rw h refl;
  closes = λ o d c p y. refl;
  begins = λ o d c rest. refl;
  ends_at = λ o d c before. refl;
}

abbrev pub in_square : Bracket elements
in_square = record {
  closing = kinds.ClosingSquare;
  into = λ o p. atom_square_at o p;
  waits = λ o d p. square_due o d p;
  atom = λ o d c. atom_square o d c;
  Lists = λ d l. (is l kinds.For ≡ false) ⊎ (single d ≡ None);
  listed = λ o d p y l h. square_listed o d p y l h;
  stops = λ o d p y l h. rw h refl;
  closes = λ o d c p y. refl;
  begins = λ o d c rest. refl;
  ends_at = λ o d c before. refl;
}

abbrev pub in_curly : Bracket entries
in_curly = record {
  closing = kinds.ClosingCurly;
  into = λ o p. atom_curly_at o p;
  waits = λ o d p. curly_due o d p;
  atom = λ o d c. atom_curly o d c;
  Lists = λ d l. (is l kinds.For ≡ false) ⊎ (single_entry d ≡ None);
  listed = λ o d p y l h. curly_listed o d p y l h;
  stops = λ o d p y l h. rw h refl;
  closes = λ o d c p y. refl;
  begins = λ o d c rest. refl;
  ends_at = λ o d c before. refl;
}

module _ {S : Type 0} {steps : S → Option CodeLexeme → S → Type 0} {k : ElementKind} (x : Bracket k) {m : At S} (o : Span) where
  pub list_fails : {b : At S} {r : Answer} → FailsFrom steps (λ (p : Place Module (OptionalList k)). read (OptionalList k) p) m b r
      → FailsFrom steps (λ (p : Place Module Atom). read (OptionalList k) (x.into o p)) m b r
  list_fails f = further (x.into o) (λ p. stays) f

  module _ {q : At S} {Means : Derivation (OptionalList k) → Type 0} (d : FoundOptionalList steps Means m q) (h : x.Lists d.derivation (look_at q.sight).kind)
    where
      to_closing : (p : Place Module Atom) → Goes steps (read (OptionalList k) (x.into o p)) m (x.waits o d.derivation p) q
      to_closing p = after (d.goes (x.into o p)) (keeps (x.listed o d.derivation p q.types _ h) stays)

      pub left_open : {b : At S} {r : Answer} → (is (look_at q.sight).kind x.closing ≡ false) × (r ≡ stop_at b) × (b ≡ q)
          → FailsFrom steps (λ (p : Place Module Atom). read (OptionalList k) (x.into o p)) m b r
      left_open j = due (λ p. x.waits o d.derivation p) j.2 j.1 to_closing (λ p. x.stops o d.derivation p q.types _ j.0)

      module _ {b : At S} {c : Span} (v : Advances steps q (lexeme (token_of x.closing) c) b) where
        to_atom : (p : Place Module Atom) → Goes steps (read (OptionalList k) (x.into o p)) m (done (x.atom o d.derivation c) p) b
        to_atom p = after (to_closing p) (takes v (x.closes o d.derivation c p q.types) stays)

        closed : (e : HeldExpr) → expression_of e ≡ tree (x.atom o d.derivation c) → Found steps (λ (p : Place Module Atom). read (OptionalList k) (x.into o p))
            o.begin (IsAtom e) m b
        closed e h = record {
          derivation = x.atom o d.derivation c;
          means = h;
          begin_is = x.begins o d.derivation c;
          end_is = λ before. v.end_is ∙ sym (x.ends_at o d.derivation c before);
          goes = to_atom;
        }

        -- the delimiters are closed: the expression is made, or memory ran out for it
        pub closed_parses : (r : Result HeldExpr Refusal) {y : Expression no_payload} → MatchResult r (λ e. expression_of e ≡ y) (λ e. e ≡ refusals.Memory)
            → y ≡ tree (x.atom o d.derivation c)
            → ParsesFrom steps (λ (p : Place Module Atom). read (OptionalList k) (x.into o p)) o.begin IsAtom m r b
        closed_parses (Ok e) h same = closed e (h ∙ same)
        closed_parses (Err e) h same = wants_memory (λ p. done (x.atom o d.derivation c) p) h to_atom

-- ---- what the delimiters mean

pub parentheses_mean : (begin end : ℕ) (l : Listed) (d : Derivation (OptionalList elements)) → AreTests begin end l d → {s brackets : Span} → s ≡ brackets
    → in_parentheses s begin end l ≡ grouped brackets d (tree d)
parentheses_mean begin end listed.Nothing d h {brackets = brackets} same = ap (λ s. tuple s []) same
    ∙ sym (ap (λ (t : Derivation (OptionalList elements)). grouped brackets t (tree t)) h)
parentheses_mean begin end (listed.One e) d h {brackets = brackets} same = h.2
    ∙ sym (ap (λ (t : Derivation (OptionalList elements)). grouped brackets t (tree t)) h.1)
parentheses_mean begin end (listed.Many es) d h {brackets = brackets} same = ap (λ x. tuple (from_to begin end) x) (sym h.0) ∙ sym (h.2 brackets)

pub list_is : {s z : Span} {es ds : List (Expression no_payload)} → s ≡ z → es ≡ ds → list s es ≡ list z ds
list_is {z = z} {es = es} f g = ap (λ x. list x es) f ∙ ap (list z) g

pub dictionary_is : {s z : Span} {es ds : List Pair} → s ≡ z → es ≡ ds → dictionary s es ≡ dictionary z ds
dictionary_is {z = z} {es = es} f g = ap (λ x. dictionary x es) f ∙ ap (dictionary z) g

-- the expressions begin at the same offset
pub tests_from : {S : Type 0} {steps : S → Option CodeLexeme → S → Type 0} {x y : ℕ} (end : ℕ) (l : Listed) {a b : At S} → x ≡ y
    → FoundOptionalList steps (AreTests y end l) a b → FoundOptionalList steps (AreTests x end l) a b
tests_from {steps = steps} end l {a = a} {b = b} h d = subst (λ z. FoundOptionalList steps (AreTests z end l) a b) (sym h) d

-- `for` is not a closing delimiter
pub no_square_end : (k : Kind) → is k kinds.For ≡ true → is k kinds.ClosingSquare ≡ false
no_square_end kinds.ClosingSquare h = cc
no_square_end k h = refl

pub no_curly_end : (k : Kind) → is k kinds.For ≡ true → is k kinds.ClosingCurly ≡ false
no_curly_end kinds.ClosingCurly h = cc
no_curly_end k h = refl

-- nothing, or several, is not a single one
pub several : (begin end : ℕ) (l : Listed) (d : Derivation (OptionalList elements)) → AreTests begin end l d → ((e : HeldExpr) → l ≡ listed.One e → ⊥)
    → single d ≡ None
several begin end listed.Nothing d h n = ap (λ (t : Derivation (OptionalList elements)). single t) h
several begin end (listed.One e) d h n = absurd (n e refl)
several begin end (listed.Many es) d h n = h.1

pub several_entries : (l : ListedEntries) (d : Derivation (OptionalList entries)) → AreEntries l d → ((k v : HeldExpr) → l ≡ listed_entry.One k v → ⊥)
    → single_entry d ≡ None
several_entries (listed_entry.One k v) d h n = absurd (n k v refl)
several_entries (listed_entry.Many es) d h n = h.1
