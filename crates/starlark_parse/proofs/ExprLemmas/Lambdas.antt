-- The machine's paths through lambdas and their parameters, in the form in which the code's answers cite them.
use Rattle.std.proofs.Common.{◌≡◌, ℕ, false, List, Option, refl, sym, ◌∙◌, ap, subst}
use Rattle.starlark_lexer.specs.Tokens.{Span, from_to, span_of, Lexeme, lexeme}
use Rattle.starlark_lexer.specs.Tokens as tokens
use Rattle.starlark_lexer.specs.Lexer.{CodeLexeme}
use Rattle.starlark_tree.specs.Ast.{Word, Expression, Maybe, Parameter as AstParameter, no_payload, absent, present, no_type}
use Rattle.starlark_tree.specs.Ast as t
use Rattle.starlark_tree.specs.Views.{word}
use Rattle.starlark_lexer.specs.declared.span.Span.{Span as CodeSpan}
use Rattle.starlark_parse_held.specs.Held.{expression_of, parameter_of}
use Rattle.starlark_spec.specs.Trees.{lambda, tree}
use Rattle.starlark_parse_held.specs.declared.expression.HeldExpr.{HeldExpr}
use Rattle.starlark_parse_held.specs.declared.parameter.HeldParameter.{HeldParameter}
use Rattle.starlark_lexer.specs.declared.kind.Kind.{Kind}
use Rattle.starlark_lexer.specs.declared.kind.Kind.TheVariants as kinds
use Rattle.starlark_spec.specs.Answers.{Answer}
use Rattle.starlark_spec.specs.Answers.Answer.{memory}
use Rattle.starlark_spec.specs.Grammar.{Nonterminal, Derivation}
use Rattle.starlark_spec.specs.Grammar.ElementKind.{lambda_parameters}
use Rattle.starlark_spec.specs.Grammar.Nonterminal.{Module, Test, LambdaParam, OptionalList}
use Rattle.starlark_spec.specs.Grammar.Derivation.{test_lambda, lambda_param_slash, lambda_param_star, lambda_param_args, lambda_param_kwargs}
use Rattle.starlark_spec.specs.Grammar.Derivation.{lambda_param_name, lambda_param_default}
use Rattle.starlark_lexer.specs.Kinds.{is}
use Rattle.starlark_spec.specs.Machine.States.{Place, State, Place.lambda_parameters_at, Place.lambda_body_at, Place.lambda_param_default_at}
use Rattle.starlark_spec.specs.Machine.States.State.{read, done, lambda_due, kwargs_due, after_star, after_name}
use Rattle.starlark_spec.specs.Machine.Sight.{look_at}
use Rattle.starlark_spec.specs.Machine.Moves.{Fail, move_lambda_param}
use Rattle.starlark_spec.specs.Machine.Faults.{Moves}
use Rattle.starlark_parse_cursor.specs.Reading.{At, Advances, begin_at, stop_at}
use Rattle.starlark_parse_cursor.specs.Contract.{Goes, Goes.stays, Goes.keeps, Goes.takes, FailsFrom, Found, FoundOptionalList, CodeName}
use Rattle.starlark_parse.specs.Expr.Expressions.{IsTest, IsParameter}
use Rattle.starlark_parse_cursor.proofs.Paths.{after, further, due, begin_seen, wants}

no_kind : {b : Nonterminal} (p : Place b LambdaParam) (x : Lexeme) (k : Kind) → is k kinds.Slash ≡ false → is k kinds.Star ≡ false
    → is k kinds.StarStar ≡ false → is k kinds.Identifier ≡ false → move_lambda_param p x k ≡ Fail
no_kind p x kinds.Slash f g h i = cc
no_kind p x kinds.Star f g h i = cc
no_kind p x kinds.StarStar f g h i = cc
no_kind p x kinds.Identifier f g h i = cc
no_kind p x k f g h i = refl

-- where the spans begin
pub lambda_is : {e f : Expression no_payload} {b c n : ℕ} {ps qs : List (AstParameter no_payload)} → e ≡ lambda (from_to b n) ps f → b ≡ c → ps ≡ qs
    → e ≡ lambda (from_to c n) qs f
lambda_is {f = f} {c = c} {n = n} {ps = ps} h g k = h ∙ ap (λ x. lambda (from_to x n) ps f) g ∙ ap (λ x. lambda (from_to c n) x f) k

pub args_is : {x : AstParameter no_payload} {b c n : ℕ} {name : Word} → x ≡ t.Args (from_to b n) name tt no_type → b ≡ c
    → x ≡ t.Args (from_to c n) name tt no_type
args_is {n = n} {name = name} h g = h ∙ ap (λ y. t.Args (from_to y n) name tt no_type) g

pub kwargs_is : {x : AstParameter no_payload} {b c n : ℕ} {name : Word} → x ≡ t.KwArgs (from_to b n) name tt no_type → b ≡ c
    → x ≡ t.KwArgs (from_to c n) name tt no_type
kwargs_is {n = n} {name = name} h g = h ∙ ap (λ y. t.KwArgs (from_to y n) name tt no_type) g

pub normal_is : {x : AstParameter no_payload} {b c n : ℕ} {name : Word} {d : Maybe no_payload} → x ≡ t.Normal (from_to b n) name tt no_type d → b ≡ c
    → x ≡ t.Normal (from_to c n) name tt no_type d
normal_is {n = n} {name = name} {d = d} h g = h ∙ ap (λ y. t.Normal (from_to y n) name tt no_type d) g

-- what follows the name of a parameter
abbrev pub from_name : Word → Place Module LambdaParam → State Module
from_name name p = after_name name.text name.span p

-- the list of a lambda's parameters
abbrev pub past_lambda : Span → Place Module Test → State Module
past_lambda s p = read (OptionalList lambda_parameters) (lambda_parameters_at s p)

module _ {S : Type 0} {steps : S → Option CodeLexeme → S → Type 0} where
  pub parameters_fail : {m b : At S} {r : Answer} (s : Span)
      → FailsFrom steps (λ (p : Place Module (OptionalList lambda_parameters)). read (OptionalList lambda_parameters) p) m b r
      → FailsFrom steps (past_lambda s) m b r
  parameters_fail s f = further (λ p. lambda_parameters_at s p) (λ p. stays) f

  module _ {m q : At S} (s : Span) {ps : List (AstParameter no_payload)} (d : FoundOptionalList steps {k = lambda_parameters} (λ e. ps ≡ tree e) m q) where
    to_colon : (p : Place Module Test) → Goes steps (past_lambda s p) m (lambda_due s d.derivation p) q
    to_colon p = after (d.goes (lambda_parameters_at s p)) (keeps refl stays)

    pub no_colon : {b : At S} {r : Answer} → (is (look_at q.sight).kind kinds.Colon ≡ false) × (r ≡ stop_at b) × (b ≡ q) → FailsFrom steps (past_lambda s) m b r
    no_colon h = due (λ p. lambda_due s d.derivation p) h.2 h.1 to_colon (λ p. rw h.0 refl)

    module _ {n : At S} {c : Span} (v : Advances steps q (lexeme tokens.Colon c) n) where
      to_body : (p : Place Module Test) → Goes steps (past_lambda s p) m (read Test (lambda_body_at s d.derivation c p)) n
      to_body p = after (to_colon p) (takes v refl stays)

      pub body_fails : {b : At S} {r : Answer} → FailsFrom steps (λ (p : Place Module Test). read Test p) n b r → FailsFrom steps (past_lambda s) m b r
      body_fails f = further (λ p. lambda_body_at s d.derivation c p) to_body f

      module _ {b : At S} {begin : ℕ} {Means : Derivation Test → Type 0} (k : Found steps (λ (p : Place Module Test). read Test p) begin Means n b) where
        lambda_read : (p : Place Module Test) → Goes steps (past_lambda s p) m (done (test_lambda s d.derivation c k.derivation) p) b
        lambda_read p = after (to_body p) (after (k.goes (lambda_body_at s d.derivation c p)) (keeps refl stays))

        pub lambda_wants : FailsFrom steps (past_lambda s) m b memory
        lambda_wants = wants (λ p. done (test_lambda s d.derivation c k.derivation) p) lambda_read

      pub lambda_found : {b : At S} {begin : ℕ} (e f : HeldExpr) → Found steps (λ (p : Place Module Test). read Test p) begin (IsTest e) n b
          → expression_of f ≡ lambda (from_to s.begin b.end) ps (expression_of e) → Found steps (past_lambda s) s.begin (IsTest f) m b
      lambda_found {b = b} e f k h = record {
        derivation = test_lambda s d.derivation c k.derivation;
        means = h ∙ ap (λ x. lambda (from_to s.begin b.end) x (expression_of e)) d.means
            ∙ ap (λ x. lambda (from_to s.begin b.end) (tree d.derivation) x) k.means
            ∙ ap (λ x. lambda (from_to s.begin x) (tree d.derivation) (tree k.derivation)) (k.end_is c.end);
        begin_is = λ rest. refl;
        end_is = λ before. k.end_is c.end;
        goes = lambda_read k;
      }

  -- ---- parameters

  pub slash_found : {a b : At S} (s : CodeSpan) (x : HeldParameter) → parameter_of x ≡ t.Slash (span_of s)
      → Advances steps a (lexeme tokens.Slash (span_of s)) b
      → Found steps (λ (p : Place Module LambdaParam). read LambdaParam p) (begin_at a) (IsParameter x) a b
  slash_found s x h v = record {
    derivation = lambda_param_slash (span_of s);
    means = h;
    begin_is = λ rest. begin_seen v;
    end_is = λ before. v.end_is;
    goes = λ p. takes v refl stays;
  }

  pub bare_star : {m : At S} (s : CodeSpan) (x : HeldParameter) → parameter_of x ≡ t.NoArgs (span_of s) → is (look_at m.sight).kind kinds.Identifier ≡ false
      → m.end ≡ s.end.byte
      → Found steps (λ (p : Place Module LambdaParam). after_star (span_of s) p) s.begin.byte (IsParameter x) m m
  bare_star s x h none e = record {
    derivation = lambda_param_star (span_of s);
    means = h;
    begin_is = λ rest. refl;
    end_is = λ before. e;
    goes = λ p. keeps (rw none refl) stays;
  }

  pub no_parameter : {a m n o b : At S} {r : Answer} → (is (look_at a.sight).kind kinds.Slash ≡ false) × (m ≡ a)
      → (is (look_at m.sight).kind kinds.Star ≡ false) × (n ≡ m)
      → (is (look_at n.sight).kind kinds.StarStar ≡ false) × (o ≡ n) → (is (look_at o.sight).kind kinds.Identifier ≡ false) × (r ≡ stop_at b) × (b ≡ o)
      → FailsFrom steps (λ (p : Place Module LambdaParam). read LambdaParam p) a b r
  no_parameter {a = a} f g h i =
      let no_star : is (look_at a.sight).kind kinds.Star ≡ false = subst (λ (x : At S). is (look_at x.sight).kind kinds.Star ≡ false) f.1 g.0 in
      let no_stars : is (look_at a.sight).kind kinds.StarStar ≡ false = subst (λ (x : At S). is (look_at x.sight).kind kinds.StarStar ≡ false)
      (g.1 ∙ f.1) h.0 in
      let no_name : is (look_at a.sight).kind kinds.Identifier ≡ false = subst (λ (x : At S). is (look_at x.sight).kind kinds.Identifier ≡ false) (h.1 ∙ g.1
      ∙ f.1) i.0 in
      due (λ p. read LambdaParam p) (i.2 ∙ h.1 ∙ g.1 ∙ f.1) i.1 (λ p. stays)
      (λ p. ap (λ m. Moves m) (no_kind p (look_at a.sight).first (look_at a.sight).kind f.0 no_star no_stars no_name))

  module _ {m : At S} (s : Span) where
    module _ {b : At S} (name : CodeName) (v : Advances steps m (lexeme (tokens.Identifier (word name).text) (span_of name.span)) b) (x : HeldParameter) where
      pub args_found : parameter_of x ≡ t.Args (from_to s.begin b.end) (word name) tt no_type
          → Found steps (λ (p : Place Module LambdaParam). after_star s p) s.begin (IsParameter x) m b
      args_found h = record {
        derivation = lambda_param_args s (word name).text (span_of name.span);
        means = h ∙ ap (λ y. t.Args (from_to s.begin y) (word name) tt no_type) v.end_is;
        begin_is = λ rest. refl;
        end_is = λ before. v.end_is;
        goes = λ p. takes v refl stays;
      }

      pub kwargs_found : parameter_of x ≡ t.KwArgs (from_to s.begin b.end) (word name) tt no_type
          → Found steps (λ (p : Place Module LambdaParam). kwargs_due s p) s.begin (IsParameter x) m b
      kwargs_found h = record {
        derivation = lambda_param_kwargs s (word name).text (span_of name.span);
        means = h ∙ ap (λ y. t.KwArgs (from_to s.begin y) (word name) tt no_type) v.end_is;
        begin_is = λ rest. refl;
        end_is = λ before. v.end_is;
        goes = λ p. takes v refl stays;
      }

    pub no_kwargs : {b : At S} {r : Answer} → (is (look_at m.sight).kind kinds.Identifier ≡ false) × (r ≡ stop_at b) × (b ≡ m)
        → FailsFrom steps (λ (p : Place Module LambdaParam). kwargs_due s p) m b r
    no_kwargs h = due (λ p. kwargs_due s p) h.2 h.1 (λ p. stays) (λ p. rw h.0 refl)

  module _ {m : At S} (name : Word) where
    pub name_found : {b : At S} (x : HeldParameter) → (is (look_at m.sight).kind kinds.Equal ≡ false) × (b ≡ m) → m.end ≡ name.span.end
        → parameter_of x ≡ t.Normal (from_to name.span.begin b.end) name tt no_type absent → Found steps (from_name name) name.span.begin (IsParameter x) m b
    name_found x h e k =
        let last = ap (λ (y : At S). y.end) h.1 ∙ e in record {
          derivation = lambda_param_name name.text name.span;
          means = k ∙ ap (λ y. t.Normal (from_to name.span.begin y) name tt no_type absent) last;
          begin_is = λ rest. refl;
          end_is = λ before. last;
          goes = λ p. subst (λ y. Goes steps (from_name name p) m (done (lambda_param_name name.text name.span) p) y) (sym h.1) (keeps (rw h.0 refl) stays);
        }

    module _ {n : At S} {i : Span} (v : Advances steps m (lexeme tokens.Equal i) n) where
      pub default_fails : {b : At S} {r : Answer} → FailsFrom steps (λ (p : Place Module Test). read Test p) n b r → FailsFrom steps (from_name name) m b r
      default_fails f = further (λ p. lambda_param_default_at name.text name.span i p) (λ p. takes v refl stays) f

      module _ {b : At S} {begin : ℕ} {Means : Derivation Test → Type 0} (d : Found steps (λ (p : Place Module Test). read Test p) begin Means n b) where
        default_read : (p : Place Module LambdaParam) → Goes steps (from_name name p) m (done (lambda_param_default name.text name.span i d.derivation) p) b
        default_read p = takes v refl (after (d.goes (lambda_param_default_at name.text name.span i p)) (keeps refl stays))

      pub default_found : {b : At S} {begin : ℕ} (e : HeldExpr) (x : HeldParameter) → Found steps (λ (p : Place Module Test). read Test p) begin (IsTest e) n b
          → parameter_of x ≡ t.Normal (from_to name.span.begin b.end) name tt no_type (present (expression_of e))
          → Found steps (from_name name) name.span.begin (IsParameter x) m b
      default_found {b = b} e x d h = record {
        derivation = lambda_param_default name.text name.span i d.derivation;
        means = h ∙ ap (λ y. t.Normal (from_to name.span.begin b.end) name tt no_type (present y)) d.means
            ∙ ap (λ y. t.Normal (from_to name.span.begin y) name tt no_type (present (tree d.derivation))) (d.end_is i.end);
        begin_is = λ rest. refl;
        end_is = λ before. d.end_is i.end;
        goes = default_read d;
      }
