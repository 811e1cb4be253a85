-- The machine's paths through types, in the form in which the code's answers cite them.
use Rattle.std.proofs.Common.{◌≡◌, false, Option, None, refl, sym, ◌∙◌, ap, subst}
use Rattle.starlark_lexer.specs.Tokens.{Span, lexeme, nowhere}
use Rattle.starlark_lexer.specs.Tokens as tokens
use Rattle.starlark_lexer.specs.Lexer.{CodeLexeme}
use Rattle.starlark_lexer.specs.declared.dialect.DialectTypes.{DialectTypes}
use Rattle.starlark_tree.specs.Ast.{Expression, expression_span, no_payload, MaybeType, typed, no_type}
use Rattle.starlark_lexer.specs.declared.kind.Kind.TheVariants as kinds
use Rattle.starlark_spec.specs.Answers.{Answer}
use Rattle.starlark_spec.specs.Grammar.Nonterminal.{Module, Test, Annotation, Note}
use Rattle.starlark_spec.specs.Grammar.Derivation.{module_none, annotation_none, annotation_note, note_test}
use Rattle.starlark_spec.specs.Trees.{tree}
use Rattle.starlark_lexer.specs.Kinds.{is}
use Rattle.starlark_spec.specs.Machine.States.{Place, module_root, Place.top, Place.module_stmt_at, Place.if_test_at, Place.note_test_at}
use Rattle.starlark_spec.specs.Machine.States.{Place.annotation_note_at}
use Rattle.starlark_spec.specs.Machine.States.State.{read, done}
use Rattle.starlark_spec.specs.Machine.Sight.{look_at}
use Rattle.starlark_spec.specs.Machine.Faults.{type_fault, note_fault}
use Rattle.starlark_parse_cursor.specs.Reading.{At, Advances, begin_at}
use Rattle.starlark_parse_cursor.specs.Contract.{Goes, Goes.stays, Goes.keeps, Goes.takes, FailsFrom, Found, FoundPerhaps}
use Rattle.starlark_parse_cursor.proofs.Paths.{after, further}
use Rattle.starlark_spec.specs.declared.refusal.Refusal.{Refusal}
use Rattle.starlark_parse_build.specs.Check.Checks.{Names}
use Rattle.starlark_parse.specs.Expr.Contract.{checked}
use Rattle.starlark_parse.proofs.ExprLemmas.Checked.{check_fails}
use Rattle.starlark_parse.proofs.StmtLemmas.Rules.{passes, same_types}
use Rattle.starlark_parse.proofs.StmtLemmas.TestLists.{FoundTest}

-- an expression that is read as a type
abbrev pub FoundNote : {S : Type 0} → (S → Option CodeLexeme → S → Type 0) → DialectTypes → MaybeType no_payload → At S → At S → Type 0
FoundNote steps types t a b = Found steps (λ (p : Place Module Note). read Note p) (begin_at a) (λ d. (t ≡ typed (expression_span (tree d)) (tree d) tt)
    × (note_fault types d ≡ None)) a b

-- a type after `:`, or its absence
abbrev pub FoundAnnotation : {S : Type 0} → (S → Option CodeLexeme → S → Type 0) → MaybeType no_payload → At S → At S → Type 0
FoundAnnotation steps t a b = FoundPerhaps steps {n = Annotation} (λ d. t ≡ tree d) a b

-- where an expression is allowed
a_test : Place Module Test
a_test = if_test_at nowhere (module_stmt_at module_none (top module_root))

module _ {S : Type 0} {steps : S → Option CodeLexeme → S → Type 0} where
  to_type : {a : At S} (p : Place Module Note) → Goes steps (read Note p) a (read Test (note_test_at p)) a
  to_type p = keeps refl stays

  pub type_fails : {a b : At S} {r : Answer} → FailsFrom steps (λ (p : Place Module Test). read Test p) a b r
      → FailsFrom steps (λ (p : Place Module Note). read Note p) a b r
  type_fails f = further (λ p. note_test_at p) to_type f

  module _ {a b : At S} {e : Expression no_payload} (d : FoundTest steps e a b) where
    to_note : (p : Place Module Note) → Goes steps (read Note p) a (done (note_test d.derivation) p) b
    to_note p = after (to_type p) (after (d.goes (note_test_at p)) (keeps refl stays))

    is_type : type_fault b.types e ≡ note_fault b.types (note_test d.derivation)
    is_type = ap (type_fault b.types) d.means

    pub type_found : {t : MaybeType no_payload} → None ≡ type_fault b.types e → t ≡ typed (expression_span e) e tt → FoundNote steps a.types t a b
    type_found h k = record {
      derivation = note_test d.derivation;
      means = (
        k ∙ ap (λ x. typed (expression_span x) x tt) d.means,
        ap (λ y. note_fault y (note_test d.derivation)) (sym (same_types (d.goes a_test)))
            ∙ sym is_type ∙ sym h,
      );
      begin_is = d.begin_is;
      end_is = d.end_is;
      goes = to_note;
    }

    pub type_breaks : {r : Answer} (x : Refusal) → Names (type_fault b.types e) x → r ≡ checked x b
        → FailsFrom steps (λ (p : Place Module Note). read Note p) a b r
    type_breaks x h k = check_fails x (note_test d.derivation) (λ p. p) h k (sym is_type) to_note

  -- ---- after `:`, or absent

  pub no_type_found : {a b : At S} → (is (look_at a.sight).kind kinds.Colon ≡ false) × (b ≡ a) → FoundAnnotation steps no_type a b
  no_type_found {a = a} h = record {
    derivation = annotation_none;
    means = refl;
    end_is = ap (λ (x : At S). x.end) h.1;
    goes = λ p. subst (λ x. Goes steps (read Annotation p) a (done annotation_none p) x) (sym h.1) (keeps (rw h.0 refl) stays);
  }

  module _ {a m : At S} {c : Span} (v : Advances steps a (lexeme tokens.Colon c) m) where
    pub annotation_fails : {b : At S} {r : Answer} → FailsFrom steps (λ (p : Place Module Note). read Note p) m b r
        → FailsFrom steps (λ (p : Place Module Annotation). read Annotation p) a b r
    annotation_fails f = further (λ p. annotation_note_at c p) (λ p. takes v refl stays) f

    pub annotation_found : {b : At S} {t : MaybeType no_payload} → FoundNote steps m.types t m b → FoundAnnotation steps t a b
    annotation_found d = record {
      derivation = annotation_note c d.derivation;
      means = d.means.0;
      end_is = d.end_is _;
      goes = λ p. takes v refl (after (d.goes (annotation_note_at c p))
          (passes (ap (λ t. note_fault t d.derivation) (same_types (d.goes (annotation_note_at c p))) ∙ d.means.1) refl stays));
    }
