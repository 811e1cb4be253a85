-- The machine's paths through the entries of a dictionary, in the form in which the code's answers cite them.
use Rattle.std.proofs.Common.{◌≡◌, ℕ, false, Option, refl, ◌∙◌, ap}
use Rattle.starlark_lexer.specs.Tokens.{Span, lexeme}
use Rattle.starlark_lexer.specs.Tokens as tokens
use Rattle.starlark_lexer.specs.Lexer.{CodeLexeme}
use Rattle.starlark_parse_held.specs.Held.{expression_of}
use Rattle.starlark_parse_held.specs.declared.expression.HeldExpr.{HeldExpr}
use Rattle.starlark_lexer.specs.declared.kind.Kind.TheVariants as kinds
use Rattle.starlark_spec.specs.Answers.{Answer}
use Rattle.starlark_spec.specs.Grammar.Nonterminal.{Module, Test, Entry}
use Rattle.starlark_spec.specs.Grammar.Derivation.{entry}
use Rattle.starlark_spec.specs.Trees.{tree}
use Rattle.starlark_lexer.specs.Kinds.{is}
use Rattle.starlark_spec.specs.Machine.States.{Place, Place.entry_key_at, Place.entry_value_at}
use Rattle.starlark_spec.specs.Machine.States.State.{read, value_due}
use Rattle.starlark_spec.specs.Machine.Sight.{look_at}
use Rattle.starlark_parse_cursor.specs.Reading.{At, Advances, stop_at}
use Rattle.starlark_parse_cursor.specs.Contract.{Goes, Goes.stays, Goes.keeps, Goes.takes, FailsFrom, Found}
use Rattle.starlark_parse.specs.Expr.Expressions.{IsTest, IsEntry}
use Rattle.starlark_parse_cursor.proofs.Paths.{after, further, due}

module _ {S : Type 0} {steps : S → Option CodeLexeme → S → Type 0} where
  to_key : {a : At S} (p : Place Module Entry) → Goes steps (read Entry p) a (read Test (entry_key_at p)) a
  to_key p = keeps refl stays

  pub key_fails : {a b : At S} {r : Answer} → FailsFrom steps (λ (p : Place Module Test). read Test p) a b r
      → FailsFrom steps (λ (p : Place Module Entry). read Entry p) a b r
  key_fails f = further (λ p. entry_key_at p) to_key f

  module _ {a q : At S} {begin : ℕ} (e : HeldExpr) (d : Found steps (λ (p : Place Module Test). read Test p) begin (IsTest e) a q) where
    to_value_due : (p : Place Module Entry) → Goes steps (read Entry p) a (value_due d.derivation p) q
    to_value_due p = after (to_key p) (after (d.goes (entry_key_at p)) (keeps refl stays))

    pub no_value : {b : At S} {r : Answer} → (is (look_at q.sight).kind kinds.Colon ≡ false) × (r ≡ stop_at b) × (b ≡ q)
        → FailsFrom steps (λ (p : Place Module Entry). read Entry p) a b r
    no_value h = due (λ p. value_due d.derivation p) h.2 h.1 to_value_due (λ p. rw h.0 refl)

    module _ {m : At S} {c : Span} (v : Advances steps q (lexeme tokens.Colon c) m) where
      to_value : (p : Place Module Entry) → Goes steps (read Entry p) a (read Test (entry_value_at d.derivation c p)) m
      to_value p = after (to_value_due p) (takes v refl stays)

      pub value_fails : {b : At S} {r : Answer} → FailsFrom steps (λ (p : Place Module Test). read Test p) m b r
          → FailsFrom steps (λ (p : Place Module Entry). read Entry p) a b r
      value_fails f = further (λ p. entry_value_at d.derivation c p) to_value f

      pub entry_found : {b : At S} {from : ℕ} (f : HeldExpr) → Found steps (λ (p : Place Module Test). read Test p) from (IsTest f) m b
          → Found steps (λ (p : Place Module Entry). read Entry p) begin (IsEntry (e, f)) a b
      entry_found f k = record {
        derivation = entry d.derivation c k.derivation;
        means = ap (λ x. (x, expression_of f)) d.means ∙ ap (λ x. (tree d.derivation, x)) k.means;
        begin_is = λ rest. d.begin_is _;
        end_is = λ before. k.end_is c.end;
        goes = λ p. after (to_value p) (after (k.goes (entry_value_at d.derivation c p)) (keeps refl stays));
      }
