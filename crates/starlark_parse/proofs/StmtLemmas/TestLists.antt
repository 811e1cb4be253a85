-- The machine's paths through lists without delimiters, in the form in which the code's answers cite them.
use Rattle.std.proofs.Common.{◌≡◌, Bool, true, false, if◌then◌else◌, List, [], ◌∷◌, ◌++◌, Option, None, refl, sym, ◌∙◌, ap, subst}
use Rattle.starlark_lexer.specs.Tokens.{Span, from_to, Lexeme, lexeme}
use Rattle.starlark_lexer.specs.Tokens as tokens
use Rattle.starlark_lexer.specs.Lexer.{CodeLexeme}
use Rattle.starlark_tree.specs.Ast.{Expression, no_payload}
use Rattle.starlark_lexer.specs.declared.kind.Kind.TheVariants as kinds
use Rattle.starlark_spec.specs.declared.error.GrammarError.TheVariants.{UnparenthesizedTupleTrailingComma}
use Rattle.starlark_spec.specs.Faults as rule
use Rattle.starlark_spec.specs.Answers.{Answer}
use Rattle.starlark_spec.specs.Answers.Answer.{memory, broken_rule}
use Rattle.starlark_spec.specs.Grammar.{Derivation, yield_of}
use Rattle.starlark_spec.specs.Grammar.ElementKind.{elements}
use Rattle.starlark_spec.specs.Grammar.ElementOf.{of_elements}
use Rattle.starlark_spec.specs.Grammar.Nonterminal.{Module, Test, TestList, CommaList}
use Rattle.starlark_spec.specs.Grammar.Derivation.{list_plain, list_comma, comma_list_one, comma_list_more}
use Rattle.starlark_spec.specs.Trees.{tree, begin_of, derivation_span, tuple, one_or_tuple}
use Rattle.starlark_lexer.specs.Kinds.{is}
use Rattle.starlark_spec.specs.Machine.States.{Place, Place.list_elements_at, Place.comma_list_one_at, Place.comma_list_more_at}
use Rattle.starlark_spec.specs.Machine.States.State.{read, done, after_list_comma}
use Rattle.starlark_spec.specs.Machine.Sight.{look_at}
use Rattle.starlark_spec.specs.Machine.Firsts.{starts_test}
use Rattle.starlark_spec.specs.Machine.Faults.{list_fault}
use Rattle.starlark_parse_cursor.specs.Reading.{At, Advances, begin_at}
use Rattle.starlark_parse_cursor.specs.Contract.{Goes, Goes.stays, Goes.keeps, FailsFrom, Found}
use Rattle.starlark_parse_cursor.proofs.Looks.{same_spans}
use Rattle.starlark_parse_cursor.proofs.Paths.{after, at_same, further, wants}
use Rattle.starlark_parse.specs.Stmt.Lines.{has_several}
use Rattle.starlark_parse.proofs.StmtLemmas.Rules.{passes, passes_token, rule_breaks}

-- there are elements, so that with another they are a tuple
are_tuple : (d : Derivation (CommaList elements)) (e : Expression no_payload) (s : Span) → one_or_tuple s (tree d ++ e ∷ []) ≡ tuple s (tree d ++ e ∷ [])
are_tuple (comma_list_one of_elements d) e s = refl
are_tuple (comma_list_more of_elements d c f) e s = go (tree d)
  where
    go : (xs : List (Expression no_payload)) → one_or_tuple s ((xs ++ tree f ∷ []) ++ e ∷ []) ≡ tuple s ((xs ++ tree f ∷ []) ++ e ∷ [])
    go [] = refl
    go (x ∷ []) = refl
    go (x ∷ y ∷ xs) = refl

-- elements were read, with a comma after each
pub record Elements {S : Type 0} (steps : S → Option CodeLexeme → S → Type 0) (a b : At S) (es : List (Expression no_payload)) : Type 0 where
  pub derivation : Derivation (CommaList elements)
  pub comma : Span
  pub means : tree derivation ≡ es
  pub begin_is : (rest : List Lexeme) → begin_of (yield_of derivation rest) ≡ begin_at a
  pub end_is : b.end ≡ comma.end
  pub goes : (p : Place Module TestList) → Goes steps (read TestList p) a (after_list_comma derivation comma p) b

-- an expression, as the parser of those reads it
abbrev pub FoundTest : {S : Type 0} → (S → Option CodeLexeme → S → Type 0) → Expression no_payload → At S → At S → Type 0
FoundTest steps e a b = Found steps (λ (p : Place Module Test). read Test p) (begin_at a) (λ d. e ≡ tree d) a b

-- a list without delimiters, which does not end in a comma
abbrev pub FoundList : {S : Type 0} → (S → Option CodeLexeme → S → Type 0) → Expression no_payload → Bool → At S → At S → Type 0
FoundList steps e several a b = Found steps (λ (p : Place Module TestList). read TestList p) (begin_at a) (λ d. (e ≡ tree d) × (list_fault d ≡ None)
    × (several ≡ has_several d)) a b

module _ {S : Type 0} {steps : S → Option CodeLexeme → S → Type 0} where
  to_first : {a : At S} (p : Place Module TestList) → Goes steps (read TestList p) a (read Test (comma_list_one_at of_elements (list_elements_at p))) a
  to_first p = keeps refl (keeps refl stays)

  pub first_fails : {a b : At S} {r : Answer} → FailsFrom steps (λ (p : Place Module Test). read Test p) a b r
      → FailsFrom steps (λ (p : Place Module TestList). read TestList p) a b r
  first_fails f = further (λ p. comma_list_one_at of_elements (list_elements_at p)) to_first f

  module _ {a q : At S} {e : Expression no_payload} (d : FoundTest steps e a q) where
    to_items : (p : Place Module TestList) → Goes steps (read TestList p) a (done (comma_list_one of_elements d.derivation) (list_elements_at p)) q
    to_items p = after (to_first p) (after (d.goes (comma_list_one_at of_elements (list_elements_at p))) (passes refl refl stays))

    pub one_found : {b : At S} → (is (look_at q.sight).kind kinds.Comma ≡ false) × (b ≡ q) → FoundList steps e false a b
    one_found {b = b} h = record {
      derivation = list_plain (comma_list_one of_elements d.derivation);
      means = (d.means, refl, refl);
      begin_is = d.begin_is;
      end_is = λ before. ap (λ (x : At S). x.end) h.1 ∙ d.end_is before;
      goes = λ p. subst (λ x. Goes steps (read TestList p) a (done (list_plain (comma_list_one of_elements d.derivation)) p) x) (sym h.1)
          (after (to_items p) (passes refl (rw h.0 refl) stays));
    }

    pub one_element : {b : At S} {c : Span} → Advances steps q (lexeme tokens.Comma c) b → Elements steps a b (e ∷ [])
    one_element {c = c} v = record {
      derivation = comma_list_one of_elements d.derivation;
      comma = c;
      means = ap (λ x. x ∷ []) (sym d.means);
      begin_is = d.begin_is;
      end_is = v.end_is;
      goes = λ p. after (to_items p) (passes_token v refl refl stays);
    }

  module _ {a q : At S} {es : List (Expression no_payload)} (g : Elements steps a q es) where
    -- the same for equal values
    pub elements_as : {ds : List (Expression no_payload)} → ds ≡ es → Elements steps a q ds
    elements_as h = subst (λ x. Elements steps a q x) (sym h) g

    -- no memory to hold what is listed
    pub elements_want : FailsFrom steps (λ (p : Place Module TestList). read TestList p) a q memory
    elements_want = wants (λ p. after_list_comma g.derivation g.comma p) g.goes

    pub comma_breaks : {r : Answer} {span : Span} → starts_test (look_at q.sight).kind ≡ false → span ≡ from_to (begin_at a) q.end
        → r ≡ (if (look_at q.sight).no_memory then memory else broken_rule (rule.grammar_fault UnparenthesizedTupleTrailingComma span))
        → FailsFrom steps (λ (p : Place Module TestList). read TestList p) a q r
    comma_breaks {span = span} h s k =
        let same : span ≡ derivation_span (list_comma g.derivation g.comma) = s ∙ sym (same_spans (g.begin_is _) (sym g.end_is)) in
        rule_breaks (rule.grammar_fault UnparenthesizedTupleTrailingComma (derivation_span (list_comma g.derivation g.comma)))
        (list_comma g.derivation g.comma) (λ p. p)
        (k ∙ ap (λ x. if (look_at q.sight).no_memory then memory else broken_rule (rule.grammar_fault UnparenthesizedTupleTrailingComma x)) same)
        refl (λ p. after (g.goes p) (keeps (rw h refl) stays))

    module _ (h : starts_test (look_at q.sight).kind ≡ true) where
      to_next : (p : Place Module TestList) → Goes steps (read TestList p) a
          (read Test (comma_list_more_at of_elements g.derivation g.comma (list_elements_at p))) q
      to_next p = after (g.goes p) (keeps (rw h refl) stays)

      pub next_fails : {b : At S} {r : Answer} → FailsFrom steps (λ (p : Place Module Test). read Test p) q b r
          → FailsFrom steps (λ (p : Place Module TestList). read TestList p) a b r
      next_fails f = further (λ p. comma_list_more_at of_elements g.derivation g.comma (list_elements_at p)) to_next f

      module _ {m : At S} {e : Expression no_payload} (d : FoundTest steps e q m) where
        to_more : (p : Place Module TestList) → Goes steps (read TestList p) a (done (comma_list_more of_elements g.derivation g.comma d.derivation)
            (list_elements_at p)) m
        to_more p = after (to_next p) (after (d.goes (comma_list_more_at of_elements g.derivation g.comma (list_elements_at p))) (passes refl refl stays))

        are_more : tree (comma_list_more of_elements g.derivation g.comma d.derivation) ≡ es ++ e ∷ []
        are_more = ap (λ x. x ++ tree d.derivation ∷ []) g.means ∙ ap (λ x. es ++ x ∷ []) (sym d.means)

        -- no memory to hold this one
        pub more_wants : FailsFrom steps (λ (p : Place Module TestList). read TestList p) a m memory
        more_wants = wants (λ p. done (comma_list_more of_elements g.derivation g.comma d.derivation) (list_elements_at p)) to_more

        pub several_want : {b : At S} → b ≡ m → FailsFrom steps (λ (p : Place Module TestList). read TestList p) a b memory
        several_want same = wants (λ p. done (comma_list_more of_elements g.derivation g.comma d.derivation) (list_elements_at p))
            (λ p. at_same same (to_more p))

        pub more_elements : {b : At S} {c : Span} → Advances steps m (lexeme tokens.Comma c) b → Elements steps a b (es ++ e ∷ [])
        more_elements {c = c} v = record {
          derivation = comma_list_more of_elements g.derivation g.comma d.derivation;
          comma = c;
          means = are_more;
          begin_is = λ rest. g.begin_is _;
          end_is = v.end_is;
          goes = λ p. after (to_more p) (passes_token v refl refl stays);
        }

        pub several_found : {b : At S} {v : Expression no_payload} {span : Span} → (is (look_at m.sight).kind kinds.Comma ≡ false) × (b ≡ m)
            → v ≡ tuple span (es ++ e ∷ []) → span ≡ from_to (begin_at a) b.end → FoundList steps v true a b
        several_found {b = b} {v = v} {span = span} j x s = record {
          derivation = list_plain (comma_list_more of_elements g.derivation g.comma d.derivation);
          means = (
            x ∙ ap (λ y. tuple y (es ++ e ∷ [])) (s ∙ same_spans (sym (g.begin_is _)) (ap (λ (y : At S). y.end) j.1 ∙ d.end_is _))
                ∙ ap (λ y. tuple (derivation_span (list_plain (comma_list_more of_elements g.derivation g.comma d.derivation))) y) (sym are_more)
                ∙ sym (are_tuple g.derivation (tree d.derivation) _),
            refl,
            refl,
          );
          begin_is = λ rest. g.begin_is _;
          end_is = λ before. ap (λ (y : At S). y.end) j.1 ∙ d.end_is _;
          goes = λ p. subst (λ y. Goes steps (read TestList p) a (done (list_plain (comma_list_more of_elements g.derivation g.comma d.derivation)) p) y)
              (sym j.1) (after (to_more p) (passes refl (rw j.0 refl) stays));
        }
