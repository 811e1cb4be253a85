-- The names of arguments, one after another.
use Rattle.std.proofs.Common.{◌≡◌, ℕ, ◌<◌, ◌+◌, List as Seq, [], ◌∷◌, ◌++◌, map, length, take, drop, get_or, Bool, true, false, cond, ◌||◌, Some, None}
use Rattle.std.proofs.Common.{String, Global, suc, drop-cons, refl, ap, sym, ◌∙◌}
use Rattle.std.specs.List.{list_any}
use Rattle.std.specs.Option.{option_or}
use Rattle.std.specs.Str.{bytes_eq}
use Rattle.std.proofs.lemmas.List.{map-append, take_more, take-append-drop}
use Rattle.std.proofs.lemmas.List.Folds.{list_any-append}
use Rattle.starlark_lexer.specs.Tokens.{Text, Span, span_of}
use Rattle.starlark_lexer.specs.declared.span.Spanned.{Spanned}
use Rattle.starlark_tree.specs.Ast as t
use Rattle.starlark_tree.specs.Ast.{Payloads, Argument}
use Rattle.starlark_tree.specs.Views.{argument_of, argument_seen, payloads, word}
use Rattle.starlark_tree.specs.declared.ast.ArgumentP
use Rattle.starlark_tree.specs.declared.ast.ExprP.{ExprP}
use Rattle.starlark_checks.specs.Calls.{has_name, repeated}
use Rattle.starlark_checks.specs.Faults.{fault_if, first_fault, miscalled}
use Rattle.starlark_spec.specs.declared.error.CallError.TheVariants as rule
use Rattle.starlark_checks.proofs.FaultLemmas.{fault_after}

-- what a set contains after an insertion
pub inserted : (b c : Bool) → cond b true c ≡ (c || (b || false))
inserted true true = refl
inserted true false = refl
inserted false true = refl
inserted false false = refl

module _ {P : Payloads} where
  named_twice : (before : Seq (Argument P)) (s : Span) (w : t.Word) (e : t.Expression P) (rest : Seq (Argument P)) → first_fault repeated [] before ≡ None
      → list_any (has_name w.text) before ≡ true → first_fault repeated [] (before ++ t.Named s w e ∷ rest) ≡ Some (miscalled rule.RepeatedName w.span)
  named_twice before s w e rest none is =
      fault_after repeated [] before (t.Named s w e ∷ rest) none
      ∙ ap (λ b. option_or (fault_if b (miscalled rule.RepeatedName w.span)) (first_fault repeated (before ++ t.Named s w e ∷ []) rest)) is

  one_more : (before : Seq (Argument P)) (x : Argument P) → first_fault repeated [] before ≡ None → repeated before x ≡ None
      → first_fault repeated [] (before ++ x ∷ []) ≡ None
  one_more before x none is = fault_after repeated [] before (x ∷ []) none ∙ ap (λ r. option_or r None) is

module _ {P A B C D E : Type 0} (xs : Seq (Spanned (ArgumentP.ArgumentP P A B C D E))) (i : ℕ) (a : Spanned (ArgumentP.ArgumentP P A B C D E))
    (within : i < length xs) (is : a ≡ get_or xs i a) where
  more_seen : map argument_of (take (i + 1) xs) ≡ map argument_of (take i xs) ++ argument_of a ∷ []
  more_seen = ap (map argument_of) (take_more xs i a within) ∙ map-append argument_of (take i xs) (get_or xs i a ∷ [])
      ∙ ap (λ b. map argument_of (take i xs) ++ argument_of b ∷ []) (sym is)

  whole_seen : map argument_of xs ≡ map argument_of (take i xs) ++ (argument_of a ∷ map argument_of (drop (suc i) xs))
  whole_seen =
      ap (map argument_of) (sym (take-append-drop i xs)) ∙ map-append argument_of (take i xs) (drop i xs)
      ∙ ap (λ ys. map argument_of (take i xs) ++ map argument_of ys) (drop-cons xs i a within ∙ ap (λ b. b ∷ drop (suc i) xs) (sym is))

  module _ (name : Spanned (String Global)) (e : Spanned (ExprP P A B C D E)) (named : a.node ≡ ArgumentP.Named name e) where
    seen_named : argument_of a ≡ argument_seen (span_of a.span) (ArgumentP.Named name e)
    seen_named = ap (argument_seen (span_of a.span)) named

    pub twice : first_fault repeated [] (map argument_of (take i xs)) ≡ None → list_any (has_name (word name).text) (map argument_of (take i xs)) ≡ true
        → first_fault repeated [] (map argument_of xs) ≡ Some (miscalled rule.RepeatedName (span_of name.span))
    twice none known =
        ap (first_fault repeated []) (whole_seen ∙ ap (λ x. map argument_of (take i xs) ++ (x ∷ map argument_of (drop (suc i) xs))) seen_named)
        ∙ named_twice (map argument_of (take i xs)) (span_of a.span) (word name) _ (map argument_of (drop (suc i) xs)) none known

    pub once : first_fault repeated [] (map argument_of (take i xs)) ≡ None → list_any (has_name (word name).text) (map argument_of (take i xs)) ≡ false
        → first_fault repeated [] (map argument_of (take (i + 1) xs)) ≡ None
    once none known =
        ap (first_fault repeated []) (more_seen ∙ ap (λ x. map argument_of (take i xs) ++ x ∷ []) seen_named)
        ∙ one_more (map argument_of (take i xs)) (argument_seen (span_of a.span) (ArgumentP.Named name e)) none
        (ap (λ b. fault_if b (miscalled rule.RepeatedName (span_of name.span))) known)

    pub known_with : (text : Text) → list_any (has_name text) (map argument_of (take (i + 1) xs)) ≡ cond (bytes_eq (word name).text text) true
        (list_any (has_name text) (map argument_of (take i xs)))
    known_with text =
        ap (list_any (has_name text)) (more_seen ∙ ap (λ x. map argument_of (take i xs) ++ x ∷ []) seen_named)
        ∙ list_any-append (has_name text) (map argument_of (take i xs)) (argument_seen (span_of a.span) (ArgumentP.Named name e) ∷ [])
        ∙ sym (inserted (bytes_eq (word name).text text) (list_any (has_name text) (map argument_of (take i xs))))

  -- an argument that has no name
  module _ (unnamed : (text : Text) → has_name text (argument_of a) ≡ false) (fits : repeated (map argument_of (take i xs)) (argument_of a) ≡ None) where
    pub still_none : first_fault repeated [] (map argument_of (take i xs)) ≡ None → first_fault repeated [] (map argument_of (take (i + 1) xs)) ≡ None
    still_none none = ap (first_fault repeated []) more_seen ∙ one_more (map argument_of (take i xs)) (argument_of a) none fits

    pub still_known : (text : Text) → list_any (has_name text) (map argument_of (take (i + 1) xs)) ≡ list_any (has_name text) (map argument_of (take i xs))
    still_known text =
        ap (list_any (has_name text)) more_seen ∙ list_any-append (has_name text) (map argument_of (take i xs)) (argument_of a ∷ [])
        ∙ ap (λ b. list_any (has_name text) (map argument_of (take i xs)) || (b || false)) (unnamed text)
        ∙ sym (inserted false (list_any (has_name text) (map argument_of (take i xs))))

module _ {P A B C D E : Type 0} (s : Span) where
  pub no_name : (node : ArgumentP.ArgumentP P A B C D E) → ((name : Spanned (String Global)) (e : Spanned (ExprP P A B C D E)) → node ≡ ArgumentP.Named name e
      → ⊥)
      → (text : Text) → has_name text (argument_seen s node) ≡ false
  no_name (ArgumentP.Positional' e r) other text = refl
  no_name (ArgumentP.Named' name e r) other text = absurd (other name (record { node = e; span = r }) refl)
  no_name (ArgumentP.Args' e r) other text = refl
  no_name (ArgumentP.KwArgs' e r) other text = refl

  pub never_repeated : (node : ArgumentP.ArgumentP P A B C D E) → ((name : Spanned (String Global)) (e : Spanned (ExprP P A B C D E))
      → node ≡ ArgumentP.Named name e → ⊥)
      → (before : Seq (Argument (payloads A B C D E))) → repeated before (argument_seen s node) ≡ None
  never_repeated (ArgumentP.Positional' e r) other before = refl
  never_repeated (ArgumentP.Named' name e r) other before = absurd (other name (record { node = e; span = r }) refl)
  never_repeated (ArgumentP.Args' e r) other before = refl
  never_repeated (ArgumentP.KwArgs' e r) other before = refl
