-- The machine's paths through unary operators and conditional expressions, in the form in which the code's answers cite them.
use Rattle.std.proofs.Common.{◌≡◌, ℕ, true, false, Option, Some, None, Result, Ok, Err, refl, sym, ◌∙◌, ap, subst}
use Rattle.starlark_lexer.specs.Tokens.{Span, from_to, Lexeme, lexeme}
use Rattle.starlark_lexer.specs.Tokens as tokens
use Rattle.starlark_lexer.specs.Lexer.{CodeLexeme}
use Rattle.starlark_tree.specs.Ast.{Expression, expression, expression_span, no_payload}
use Rattle.starlark_tree.specs.Ast as t
use Rattle.starlark_parse_held.specs.Held.{expression_of}
use Rattle.starlark_parse_held.specs.declared.expression.HeldExpr.{HeldExpr}
use Rattle.starlark_lexer.specs.declared.kind.Kind.{Kind}
use Rattle.starlark_lexer.specs.declared.kind.Kind.TheVariants as kinds
use Rattle.starlark_spec.specs.declared.refusal.Refusal.{Refusal}
use Rattle.starlark_spec.specs.Items.{at_end, fails, out_of_memory}
use Rattle.starlark_spec.specs.Answers.{Answer}
use Rattle.starlark_spec.specs.Answers.Answer.{memory}
use Rattle.starlark_spec.specs.Grammar.{UnarySign, Derivation, right_side}
use Rattle.starlark_spec.specs.Grammar.PrecedenceLevel.{or_precedence}
use Rattle.starlark_spec.specs.Grammar.UnarySign.{plus_sign, minus_sign, tilde_sign}
use Rattle.starlark_spec.specs.Grammar.Nonterminal.{Module, Test, LeftAssociative, Unary, Primary}
use Rattle.starlark_spec.specs.Grammar.Derivation.{test_or, test_if, unary_sign, unary_primary}
use Rattle.starlark_spec.specs.Trees.{tree, end_of_last, signed}
use Rattle.starlark_lexer.specs.Kinds.{is}
use Rattle.starlark_spec.specs.Machine.States.{Place, State, Place.test_or_at, Place.test_if_at, Place.test_else_at, Place.unary_sign_at}
use Rattle.starlark_spec.specs.Machine.States.{Place.unary_primary_at}
use Rattle.starlark_spec.specs.Machine.States.State.{read, done, else_due}
use Rattle.starlark_spec.specs.Machine.Sight.{Sight, token, ending, look_at}
use Rattle.starlark_spec.specs.Machine.Firsts.{is_sign, unary_at}
use Rattle.starlark_spec.specs.Machine.Moves.{move_unary}
use Rattle.starlark_spec.specs.Machine.Faults.{Moves}
use Rattle.starlark_parse_cursor.specs.Reading.{At, Advances, IsToken, begin_at, stop_at}
use Rattle.starlark_parse_cursor.specs.Contract.{Goes, Goes.stays, Goes.keeps, Goes.takes, FailsFrom, Found, Parses}
use Rattle.starlark_parse.specs.Expr.Expressions.{IsTest, IsPrimary}
use Rattle.starlark_parse.specs.Expr.Operators.{IsUnary, after_operator}
use Rattle.starlark_parse_cursor.proofs.Paths.{after, further, due, begin_seen, wants}
use Rattle.starlark_spec.proofs.Constructors.{not_true}

-- ---- unary operators

-- the unary operator that a kind is
record Sign (l : Kind) : Type 0 where
  sign : UnarySign
  comes : unary_at l ≡ Some sign
  says : (s : Span) (e : Expression no_payload) → after_operator l s e ≡ signed sign s e

the_sign : (l : Kind) → is_sign l ≡ true → Sign l
the_sign kinds.Plus h = record { sign = plus_sign; comes = refl; says = λ s e. refl }
the_sign kinds.Minus h = record { sign = minus_sign; comes = refl; says = λ s e. refl }
the_sign kinds.Tilde h = record { sign = tilde_sign; comes = refl; says = λ s e. refl }
the_sign l h = not_true h

pub sign_is_token : (k : Sight) → is_sign (look_at k).kind ≡ true → IsToken k
sign_is_token (token x) h = tt
sign_is_token (ending at_end) h = cc
sign_is_token (ending (fails f)) h = cc
sign_is_token (ending out_of_memory) h = cc

no_sign : (l : Kind) → is_sign l ≡ false → unary_at l ≡ None
no_sign kinds.Plus h = cc
no_sign kinds.Minus h = cc
no_sign kinds.Tilde h = cc
no_sign l h = refl

module _ {S : Type 0} {steps : S → Option CodeLexeme → S → Type 0} where
  pub to_primary : {a : At S} → is_sign (look_at a.sight).kind ≡ false → (p : Place Module Unary)
      → Goes steps (read Unary p) a (read Primary (unary_primary_at p)) a
  to_primary {a = a} h p = keeps (ap (λ o. Moves (move_unary p (look_at a.sight).first.span o)) (no_sign (look_at a.sight).kind h)) stays

pub unary_of_primary : {S : Type 0} (steps : S → Option CodeLexeme → S → Type 0) (a b : At S) (r : Result HeldExpr Refusal) → is_sign (look_at a.sight).kind
    ≡ false → Parses steps Primary IsPrimary a r b → Parses steps Unary IsUnary a r b
unary_of_primary steps a b (Ok e) h d = record {
  derivation = unary_primary d.derivation;
  means = d.means;
  begin_is = λ rest. d.begin_is rest;
  end_is = λ before. d.end_is before;
  goes = λ p. after (to_primary h p) (after (d.goes (unary_primary_at p)) (keeps refl stays));
}
unary_of_primary steps a b (Err e) h f = further (λ p. unary_primary_at p) (to_primary h) f

module _ {S : Type 0} {steps : S → Option CodeLexeme → S → Type 0} where
  module _ {a m : At S} {x : Lexeme} (v : Advances steps a x m) (h : is_sign (look_at a.sight).kind ≡ true) where
    found_sign : Sign (look_at a.sight).kind
    found_sign = the_sign (look_at a.sight).kind h

    to_signed : (p : Place Module Unary) → Goes steps (read Unary p) a (read Unary (unary_sign_at found_sign.sign x.span p)) m
    to_signed p = takes v (ap (λ o. Moves (move_unary p x.span o)) (ap (λ k. unary_at (look_at k).kind) (sym v.sees) ∙ found_sign.comes)) stays

    pub signed_fails : {b : At S} {r : Answer} → FailsFrom steps (λ (p : Place Module Unary). read Unary p) m b r
        → FailsFrom steps (λ (p : Place Module Unary). read Unary p) a b r
    signed_fails f = further (λ p. unary_sign_at found_sign.sign x.span p) to_signed f

    module _ {b : At S} {begin : ℕ} {Means : Derivation Unary → Type 0} (d : Found steps (λ (p : Place Module Unary). read Unary p) begin Means m b) where
      signed_read : (p : Place Module Unary) → Goes steps (read Unary p) a (done (unary_sign found_sign.sign x.span d.derivation) p) b
      signed_read p = after (to_signed p) (after (d.goes (unary_sign_at found_sign.sign x.span p)) (keeps refl stays))

      pub signed_wants : FailsFrom steps (λ (p : Place Module Unary). read Unary p) a b memory
      signed_wants = wants (λ p. done (unary_sign found_sign.sign x.span d.derivation) p) signed_read

    pub signed_found : {b : At S} {begin : ℕ} (o e : HeldExpr) → Found steps (λ (p : Place Module Unary). read Unary p) begin (IsUnary o) m b
        → expression_of e ≡ after_operator (look_at a.sight).kind (from_to (begin_at a) b.end) (expression_of o)
        → Found steps (λ (p : Place Module Unary). read Unary p) (begin_at a) (IsUnary e) a b
    signed_found {b = b} o e d k = record {
      derivation = unary_sign found_sign.sign x.span d.derivation;
      means = k ∙ found_sign.says _ _ ∙ ap (λ y. signed found_sign.sign (from_to y b.end) (expression_of o)) (sym (begin_seen v))
          ∙ ap (λ y. signed found_sign.sign (from_to x.span.begin y) (expression_of o)) (d.end_is x.span.end)
          ∙ ap (signed found_sign.sign (from_to x.span.begin (end_of_last (right_side d.derivation) x.span.end))) d.means;
      begin_is = λ rest. begin_seen v;
      end_is = λ before. d.end_is x.span.end;
      goes = signed_read d;
    }

-- ---- conditional expressions

-- an expression that is not a lambda
abbrev pub or_due : Place Module Test → State Module
or_due p = read (LeftAssociative or_precedence) (test_or_at p)

module _ {S : Type 0} {steps : S → Option CodeLexeme → S → Type 0} where
  pub value_fails : {a b : At S} {r : Answer} → FailsFrom steps (λ (p : Place Module (LeftAssociative or_precedence)). read (LeftAssociative or_precedence) p)
      a b r → FailsFrom steps or_due a b r
  value_fails f = further (λ p. test_or_at p) (λ p. stays) f

  module _ {a q : At S} {Means : Derivation (LeftAssociative or_precedence) → Type 0}
      (d : Found steps (λ (p : Place Module (LeftAssociative or_precedence)). read (LeftAssociative or_precedence) p) (begin_at a) Means a q) where
    value_read : (p : Place Module Test) → Goes steps (or_due p) a (done d.derivation (test_or_at p)) q
    value_read p = d.goes (test_or_at p)

    pub value_found : {b : At S} (e : HeldExpr) → expression_of e ≡ tree d.derivation → (is (look_at q.sight).kind kinds.If ≡ false) × (b ≡ q)
        → Found steps or_due (begin_at a) (IsTest e) a b
    value_found e m h = record {
      derivation = test_or d.derivation;
      means = m;
      begin_is = d.begin_is;
      end_is = λ before. ap (λ (x : At S). x.end) h.1 ∙ d.end_is before;
      goes = λ p. subst (λ x. Goes steps (or_due p) a (done (test_or d.derivation) p) x) (sym h.1) (after (value_read p) (keeps (rw h.0 refl) stays));
    }

    module _ {m : At S} {i : Span} (v : Advances steps q (lexeme tokens.If i) m) where
      to_condition : (p : Place Module Test) → Goes steps (or_due p) a (read (LeftAssociative or_precedence) (test_if_at d.derivation i p)) m
      to_condition p = after (value_read p) (takes v refl stays)

      pub condition_fails : {b : At S} {r : Answer} → FailsFrom steps (λ (p : Place Module (LeftAssociative or_precedence)). read
          (LeftAssociative or_precedence) p) m b r → FailsFrom steps or_due a b r
      condition_fails f = further (λ p. test_if_at d.derivation i p) to_condition f

      module _ {n : At S} {begin : ℕ} {MeansCondition : Derivation (LeftAssociative or_precedence) → Type 0}
          (k : Found steps (λ (p : Place Module (LeftAssociative or_precedence)). read (LeftAssociative or_precedence) p) begin MeansCondition m n) where
        to_else : (p : Place Module Test) → Goes steps (or_due p) a (else_due d.derivation i k.derivation p) n
        to_else p = after (to_condition p) (after (k.goes (test_if_at d.derivation i p)) (keeps refl stays))

        pub no_else : {b : At S} {r : Answer} → (is (look_at n.sight).kind kinds.Else ≡ false) × (r ≡ stop_at b) × (b ≡ n) → FailsFrom steps or_due a b r
        no_else h = due (λ p. else_due d.derivation i k.derivation p) h.2 h.1 to_else (λ p. rw h.0 refl)

        module _ {l : At S} {o : Span} (w : Advances steps n (lexeme tokens.Else o) l) where
          to_other : (p : Place Module Test) → Goes steps (or_due p) a (read Test (test_else_at d.derivation i k.derivation o p)) l
          to_other p = after (to_else p) (takes w refl stays)

          pub other_fails : {b : At S} {r : Answer} → FailsFrom steps (λ (p : Place Module Test). read Test p) l b r → FailsFrom steps or_due a b r
          other_fails f = further (λ p. test_else_at d.derivation i k.derivation o p) to_other f

          module _ {b : At S} {last : ℕ} {MeansOther : Derivation Test → Type 0}
              (g : Found steps (λ (p : Place Module Test). read Test p) last MeansOther l b) where
            conditional_read : (p : Place Module Test) → Goes steps (or_due p) a (done (test_if d.derivation i k.derivation o g.derivation) p) b
            conditional_read p = after (to_other p) (after (g.goes (test_else_at d.derivation i k.derivation o p)) (keeps refl stays))

            pub conditional_wants : FailsFrom steps or_due a b memory
            conditional_wants = wants (λ p. done (test_if d.derivation i k.derivation o g.derivation) p) conditional_read

          pub conditional_found : {b : At S} {last : ℕ} (r e c f : HeldExpr) → expression_of e ≡ tree d.derivation → expression_of c ≡ tree k.derivation
              → Found steps (λ (p : Place Module Test). read Test p) last (IsTest f) l b
              → expression_of r ≡ expression (from_to (expression_span (expression_of e)).begin b.end)
              (t.If (expression_of c) (expression_of e) (expression_of f)) → Found steps or_due (begin_at a) (IsTest r) a b
          conditional_found {b = b} r e c f de ck g h = record {
            derivation = test_if d.derivation i k.derivation o g.derivation;
            means = h
                ∙ ap (λ x. expression (from_to (expression_span x).begin b.end) (t.If (expression_of c) x (expression_of f))) de
                ∙ ap (λ x. expression (from_to (expression_span (tree d.derivation)).begin b.end) (t.If x (tree d.derivation) (expression_of f))) ck
                ∙ ap (λ x. expression (from_to (expression_span (tree d.derivation)).begin b.end) (t.If (tree k.derivation) (tree d.derivation) x)) g.means
                ∙ ap (λ x. expression (from_to (expression_span (tree d.derivation)).begin x)
                (t.If (tree k.derivation) (tree d.derivation) (tree g.derivation))) (g.end_is o.end);
            begin_is = λ rest. d.begin_is _;
            end_is = λ before. g.end_is o.end;
            goes = conditional_read g;
          }
