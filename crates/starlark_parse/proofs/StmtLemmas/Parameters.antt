-- The machine's paths through the parameters of a `def`, in the form in which the code's answers cite them.
use Rattle.std.proofs.Common.{◌≡◌, ℕ, false, Option, refl, ◌∙◌, ap, subst}
use Rattle.starlark_lexer.specs.Tokens.{Span, from_to, span_of, Lexeme, lexeme}
use Rattle.starlark_lexer.specs.Tokens as tokens
use Rattle.starlark_lexer.specs.Lexer.{CodeLexeme}
use Rattle.starlark_lexer.specs.declared.span.Span.{Span as CodeSpan}
use Rattle.starlark_tree.specs.Ast.{Word, Maybe, Parameter as AstParameter, no_payload, absent, present}
use Rattle.starlark_tree.specs.Ast as t
use Rattle.starlark_parse_held.specs.declared.expression.HeldExpr.{HeldExpr}
use Rattle.starlark_parse_held.specs.declared.parameter.HeldParameter.{HeldParameter}
use Rattle.starlark_parse_held.specs.declared.annotation.HeldType.{HeldType}
use Rattle.starlark_parse_held.specs.Held.{expression_of, parameter_of, annotation_of}
use Rattle.starlark_lexer.specs.declared.kind.Kind.{Kind}
use Rattle.starlark_lexer.specs.declared.kind.Kind.TheVariants as kinds
use Rattle.starlark_spec.specs.Answers.{Answer}
use Rattle.starlark_spec.specs.Grammar.{Nonterminal, right_side}
use Rattle.starlark_spec.specs.Grammar.Nonterminal.{Module, Test, Annotation, DefParam}
use Rattle.starlark_spec.specs.Grammar.Derivation.{def_param_slash, def_param_star, def_param_args, def_param_kwargs, def_param_name, def_param_default}
use Rattle.starlark_spec.specs.Trees.{tree, end_of_last}
use Rattle.starlark_lexer.specs.Kinds.{is}
use Rattle.starlark_spec.specs.Machine.States.{Place, args_annotation_at, kwargs_annotation_at, def_param_annotation_at, def_param_default_at}
use Rattle.starlark_spec.specs.Machine.States.State.{read, done, after_def_param_star, def_param_kwargs_due}
use Rattle.starlark_spec.specs.Machine.Sight.{look_at}
use Rattle.starlark_spec.specs.Machine.Moves.{Fail, move_def_param}
use Rattle.starlark_spec.specs.Machine.Faults.{Moves}
use Rattle.starlark_parse_cursor.specs.Reading.{At, Advances, begin_at, stop_at}
use Rattle.starlark_parse_cursor.specs.Contract.{Goes, Goes.stays, Goes.keeps, Goes.takes, FailsFrom, Found, FoundPerhaps}
use Rattle.starlark_parse_cursor.proofs.Paths.{after, at_same, further, due, begin_seen}
use Rattle.starlark_parse.specs.Expr.Expressions.{IsTest}
use Rattle.starlark_parse.specs.Stmt.Lines.{IsAnnotation}
use Rattle.starlark_parse.specs.Stmt.Statements.{IsParam, type_due}

no_kind : {b : Nonterminal} (p : Place b DefParam) (x : Lexeme) (k : Kind) → is k kinds.Slash ≡ false → is k kinds.Star ≡ false → is k kinds.StarStar ≡ false
    → is k kinds.Identifier ≡ false → move_def_param p x k ≡ Fail
no_kind p x kinds.Slash f g h i = cc
no_kind p x kinds.Star f g h i = cc
no_kind p x kinds.StarStar f g h i = cc
no_kind p x kinds.Identifier f g h i = cc
no_kind p x k f g h i = refl

-- where the spans begin
pub args_is : {x : AstParameter no_payload} {b c n : ℕ} {name : Word} {type : t.MaybeType no_payload} → x ≡ t.Args (from_to b n) name tt type → b ≡ c
    → x ≡ t.Args (from_to c n) name tt type
args_is {n = n} {name = name} {type = type} h g = h ∙ ap (λ y. t.Args (from_to y n) name tt type) g

pub kwargs_is : {x : AstParameter no_payload} {b c n : ℕ} {name : Word} {type : t.MaybeType no_payload} → x ≡ t.KwArgs (from_to b n) name tt type → b ≡ c
    → x ≡ t.KwArgs (from_to c n) name tt type
kwargs_is {n = n} {name = name} {type = type} h g = h ∙ ap (λ y. t.KwArgs (from_to y n) name tt type) g

pub normal_is : {x : AstParameter no_payload} {b c n : ℕ} {name : Word} {type : t.MaybeType no_payload} {d : Maybe no_payload}
    → x ≡ t.Normal (from_to b n) name tt type d → b ≡ c → x ≡ t.Normal (from_to c n) name tt type d
normal_is {n = n} {name = name} {type = type} {d = d} h g = h ∙ ap (λ y. t.Normal (from_to y n) name tt type d) g

module _ {S : Type 0} {steps : S → Option CodeLexeme → S → Type 0} where
  pub slash_found : {a b : At S} (s : CodeSpan) (x : HeldParameter) → parameter_of x ≡ t.Slash (span_of s)
      → Advances steps a (lexeme tokens.Slash (span_of s)) b
      → Found steps (λ (p : Place Module DefParam). read DefParam p) (begin_at a) (IsParam x) a b
  slash_found s x h v = record {
    derivation = def_param_slash (span_of s);
    means = h;
    begin_is = λ rest. begin_seen v;
    end_is = λ before. v.end_is;
    goes = λ p. takes v refl stays;
  }

  pub no_parameter : {a m n o b : At S} {r : Answer} → (is (look_at a.sight).kind kinds.Slash ≡ false) × (m ≡ a)
      → (is (look_at m.sight).kind kinds.Star ≡ false) × (n ≡ m)
      → (is (look_at n.sight).kind kinds.StarStar ≡ false) × (o ≡ n) → (is (look_at o.sight).kind kinds.Identifier ≡ false) × (r ≡ stop_at b) × (b ≡ o)
      → FailsFrom steps (λ (p : Place Module DefParam). read DefParam p) a b r
  no_parameter {a = a} f g h i =
      let no_star : is (look_at a.sight).kind kinds.Star ≡ false = subst (λ (x : At S). is (look_at x.sight).kind kinds.Star ≡ false) f.1 g.0 in
      let no_stars : is (look_at a.sight).kind kinds.StarStar ≡ false = subst (λ (x : At S). is (look_at x.sight).kind kinds.StarStar ≡ false)
      (g.1 ∙ f.1) h.0 in
      let no_name : is (look_at a.sight).kind kinds.Identifier ≡ false = subst (λ (x : At S). is (look_at x.sight).kind kinds.Identifier ≡ false) (h.1 ∙ g.1
      ∙ f.1) i.0 in
      due (λ p. read DefParam p) (i.2 ∙ h.1 ∙ g.1 ∙ f.1) i.1 (λ p. stays)
      (λ p. ap (λ m. Moves m) (no_kind p (look_at a.sight).first (look_at a.sight).kind f.0 no_star no_stars no_name))

  module _ {m : At S} (s : Span) where
    pub bare_star : (x : HeldParameter) → parameter_of x ≡ t.NoArgs s → is (look_at m.sight).kind kinds.Identifier ≡ false → m.end ≡ s.end
        → Found steps (λ (p : Place Module DefParam). after_def_param_star s p) s.begin (IsParam x) m m
    bare_star x h none e = record {
      derivation = def_param_star s;
      means = h;
      begin_is = λ rest. refl;
      end_is = λ before. e;
      goes = λ p. keeps (rw none refl) stays;
    }

    module _ {q : At S} (name : Word) (v : Advances steps m (lexeme (tokens.Identifier name.text) name.span) q) where
      pub args_type_fails : {b : At S} {r : Answer} → FailsFrom steps (λ (p : Place Module Annotation). read Annotation p) q b r
          → FailsFrom steps (λ (p : Place Module DefParam). after_def_param_star s p) m b r
      args_type_fails f = further (λ p. args_annotation_at s name.text name.span p) (λ p. takes v refl stays) f

      pub kwargs_type_fails : {b : At S} {r : Answer} → FailsFrom steps (λ (p : Place Module Annotation). read Annotation p) q b r
          → FailsFrom steps (λ (p : Place Module DefParam). def_param_kwargs_due s p) m b r
      kwargs_type_fails f = further (λ p. kwargs_annotation_at s name.text name.span p) (λ p. takes v refl stays) f

      module _ {b : At S} (type : Option HeldType) (d : FoundPerhaps steps (IsAnnotation type) q b) where
        last : b.end ≡ end_of_last (right_side d.derivation) name.span.end
        last = d.end_is ∙ ap (end_of_last (right_side d.derivation)) v.end_is

        args_goes : (p : Place Module DefParam) → Goes steps (after_def_param_star s p) m (done (def_param_args s name.text name.span d.derivation) p) b
        args_goes p = takes v refl (after (d.goes (args_annotation_at s name.text name.span p)) (keeps refl stays))

        kwargs_goes : (p : Place Module DefParam) → Goes steps (def_param_kwargs_due s p) m (done (def_param_kwargs s name.text name.span d.derivation) p) b
        kwargs_goes p = takes v refl (after (d.goes (kwargs_annotation_at s name.text name.span p)) (keeps refl stays))

        pub args_found : (x : HeldParameter) → parameter_of x ≡ t.Args (from_to s.begin b.end) name tt (annotation_of type)
            → Found steps (λ (p : Place Module DefParam). after_def_param_star s p) s.begin (IsParam x) m b
        args_found x h = record {
          derivation = def_param_args s name.text name.span d.derivation;
          means = h ∙ ap (λ y. t.Args (from_to s.begin y) name tt (annotation_of type)) last
              ∙ ap (λ y. t.Args (from_to s.begin (end_of_last (right_side d.derivation) name.span.end)) name tt y) d.means;
          begin_is = λ rest. refl;
          end_is = λ before. last;
          goes = args_goes;
        }

        pub kwargs_found : (x : HeldParameter) → parameter_of x ≡ t.KwArgs (from_to s.begin b.end) name tt (annotation_of type)
            → Found steps (λ (p : Place Module DefParam). def_param_kwargs_due s p) s.begin (IsParam x) m b
        kwargs_found x h = record {
          derivation = def_param_kwargs s name.text name.span d.derivation;
          means = h ∙ ap (λ y. t.KwArgs (from_to s.begin y) name tt (annotation_of type)) last
              ∙ ap (λ y. t.KwArgs (from_to s.begin (end_of_last (right_side d.derivation) name.span.end)) name tt y) d.means;
          begin_is = λ rest. refl;
          end_is = λ before. last;
          goes = kwargs_goes;
        }

    pub no_kwargs : {b : At S} {r : Answer} → (is (look_at m.sight).kind kinds.Identifier ≡ false) × (r ≡ stop_at b) × (b ≡ m)
        → FailsFrom steps (λ (p : Place Module DefParam). def_param_kwargs_due s p) m b r
    no_kwargs h = due (λ p. def_param_kwargs_due s p) h.2 h.1 (λ p. stays) (λ p. rw h.0 refl)

  -- ---- after a name

  module _ {m : At S} (name : Word) where
    pub type_fails : {b : At S} {r : Answer} → FailsFrom steps (λ (p : Place Module Annotation). read Annotation p) m b r
        → FailsFrom steps (type_due name) m b r
    type_fails f = further (λ p. def_param_annotation_at name.text name.span p) (λ p. stays) f

    module _ {q : At S} (type : Option HeldType) (d : FoundPerhaps steps (IsAnnotation type) m q) (e : m.end ≡ name.span.end) where
      to_default : (p : Place Module DefParam) → Goes steps (type_due name p) m (done d.derivation (def_param_annotation_at name.text name.span p)) q
      to_default p = d.goes (def_param_annotation_at name.text name.span p)

      module _ {b : At S} (h : (is (look_at q.sight).kind kinds.Equal ≡ false) × (b ≡ q)) where
        name_goes : (p : Place Module DefParam) → Goes steps (type_due name p) m (done (def_param_name name.text name.span d.derivation) p) b
        name_goes p = at_same h.1 (after (to_default p) (keeps (rw h.0 refl) stays))

        name_last : b.end ≡ end_of_last (right_side d.derivation) name.span.end
        name_last = ap (λ (x : At S). x.end) h.1 ∙ d.end_is ∙ ap (end_of_last (right_side d.derivation)) e

        pub name_found : (x : HeldParameter) → parameter_of x ≡ t.Normal (from_to name.span.begin b.end) name tt (annotation_of type) absent
            → Found steps (type_due name) name.span.begin (IsParam x) m b
        name_found x k = record {
          derivation = def_param_name name.text name.span d.derivation;
          means = k ∙ ap (λ y. t.Normal (from_to name.span.begin y) name tt (annotation_of type) absent) name_last
              ∙ ap (λ y. t.Normal (from_to name.span.begin (end_of_last (right_side d.derivation) name.span.end)) name tt y absent) d.means;
          begin_is = λ rest. refl;
          end_is = λ before. name_last;
          goes = name_goes;
        }

      module _ {n : At S} {i : Span} (v : Advances steps q (lexeme tokens.Equal i) n) where
        pub default_fails : {b : At S} {r : Answer} → FailsFrom steps (λ (p : Place Module Test). read Test p) n b r → FailsFrom steps (type_due name) m b r
        default_fails f = further (λ p. def_param_default_at name.text name.span d.derivation i p) (λ p. after (to_default p) (takes v refl stays)) f

        module _ {b : At S} {begin : ℕ} (value : HeldExpr) (k : Found steps (λ (p : Place Module Test). read Test p) begin (IsTest value) n b) where
          default_goes : (p : Place Module DefParam) → Goes steps (type_due name p) m
              (done (def_param_default name.text name.span d.derivation i k.derivation) p) b
          default_goes p = after (to_default p) (takes v refl (after (k.goes (def_param_default_at name.text name.span d.derivation i p)) (keeps refl stays)))

          pub default_found : (x : HeldParameter) → parameter_of x ≡ t.Normal (from_to name.span.begin b.end) name tt (annotation_of type)
              (present (expression_of value)) → Found steps (type_due name) name.span.begin (IsParam x) m b
          default_found x h = record {
            derivation = def_param_default name.text name.span d.derivation i k.derivation;
            means = h ∙ ap (λ y. t.Normal (from_to name.span.begin y) name tt (annotation_of type) (present (expression_of value))) (k.end_is i.end)
                ∙ ap (λ y. t.Normal (from_to name.span.begin (end_of_last (right_side k.derivation) i.end)) name tt y (present (expression_of value))) d.means
                ∙ ap (λ y. t.Normal (from_to name.span.begin (end_of_last (right_side k.derivation) i.end)) name tt (tree d.derivation) (present y)) k.means;
            begin_is = λ rest. refl;
            end_is = λ before. k.end_is i.end;
            goes = default_goes;
          }
