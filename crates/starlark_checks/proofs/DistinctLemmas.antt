-- Names that differ, and names none of which is repeated.
use Rattle.std.proofs.Common.{◌≡◌, List as Seq, [], ◌∷◌, ◌++◌, Bool, true, false, ◌||◌, Option, None, append_assoc, append-nil, refl, ap, subst, sym, ◌∙◌}
use Rattle.std.specs.List.{AllByRecursion, IsDistinct, list_any}
use Rattle.std.specs.Option.{option_or}
use Rattle.std.specs.Str.{bytes_eq}
use Rattle.starlark_lexer.specs.Tokens.{Text}
use Rattle.starlark_tree.specs.Ast as t
use Rattle.starlark_tree.specs.Ast.{Payloads, Argument}
use Rattle.starlark_checks.specs.Calls.{has_name, names, repeated}
use Rattle.starlark_spec.specs.Faults.{Fault}
use Rattle.starlark_checks.specs.Faults.{fault_if, first_fault, miscalled}
use Rattle.starlark_spec.specs.declared.error.CallError.TheVariants as rule

or_false : (b c : Bool) → (b || c) ≡ false → (b ≡ false) × (c ≡ false)
or_false true c is = absurd (cc)
or_false false c is = (refl, is)

no_fault : (b : Bool) (f : Fault) (r : Option Fault) → option_or (fault_if b f) r ≡ None → (b ≡ false) × (r ≡ None)
no_fault true f r is = absurd (cc)
no_fault false f r is = (refl, is)

all_push : {K : Type 0} (P : K → Type 0) (xs : Seq K) (y : K) → AllByRecursion P xs → P y → AllByRecursion P (xs ++ y ∷ [])
all_push P [] y all p = (p, tt)
all_push P (x ∷ xs) y (q, qs) p = (q, all_push P xs y qs p)

all_at : {K : Type 0} (P : K → Type 0) (xs : Seq K) (y : K) (ys : Seq K) → AllByRecursion P (xs ++ y ∷ ys) → P y
all_at P [] y ys (p, ps) = p
all_at P (x ∷ xs) y ys (q, qs) = all_at P xs y ys qs

one_name_more : (xs : Seq Text) (y : Text) → IsDistinct bytes_eq xs → list_any (λ x. bytes_eq x y) xs ≡ false → IsDistinct bytes_eq (xs ++ y ∷ [])
unfolding IsDistinct
one_name_more [] y d none = (tt, tt)
one_name_more (x ∷ xs) y d none =
    let parts = or_false (bytes_eq x y) (list_any (λ z. bytes_eq z y) xs) none in
    (all_push (λ z. bytes_eq x z ≡ false) xs y d.0 parts.0, one_name_more xs y d.1 parts.1)

apart : (xs : Seq Text) (y : Text) (ys : Seq Text) → IsDistinct bytes_eq (xs ++ y ∷ ys) → list_any (λ x. bytes_eq x y) xs ≡ false
unfolding IsDistinct
apart [] y ys d = refl
apart (x ∷ xs) y ys d = ap (λ b. b || list_any (λ z. bytes_eq z y) xs) (all_at (λ z. bytes_eq x z ≡ false) xs y ys d.0) ∙ apart xs y ys d.1

module _ {P : Payloads} where
  abbrev Distinct : Seq (Argument P) → Type 0
  Distinct xs = IsDistinct bytes_eq (names xs)

  name_known : (text : Text) (xs : Seq (Argument P)) → list_any (has_name text) xs ≡ list_any (λ n. bytes_eq n text) (names xs)
  name_known text [] = refl
  name_known text (t.Positional s e ∷ xs) = name_known text xs
  name_known text (t.Named s w e ∷ xs) = ap (λ b. bytes_eq w.text text || b) (name_known text xs)
  name_known text (t.Star s e ∷ xs) = name_known text xs
  name_known text (t.StarStar s e ∷ xs) = name_known text xs

  names-append : (xs ys : Seq (Argument P)) → names (xs ++ ys) ≡ names xs ++ names ys
  names-append [] ys = refl
  names-append (t.Positional s e ∷ xs) ys = names-append xs ys
  names-append (t.Named s w e ∷ xs) ys = ap (λ ns. w.text ∷ ns) (names-append xs ys)
  names-append (t.Star s e ∷ xs) ys = names-append xs ys
  names-append (t.StarStar s e ∷ xs) ys = names-append xs ys

  next_in : (before : Seq (Argument P)) (x : Argument P) (xs : Seq (Argument P)) → Distinct (before ++ x ∷ xs) → Distinct ((before ++ x ∷ []) ++ xs)
  next_in before x xs d = let D : Seq (Argument P) → Type 0 = λ ys. IsDistinct bytes_eq (names ys) in subst D (sym (append_assoc before (x ∷ []) xs)) d

  next_out : (before : Seq (Argument P)) (x : Argument P) (xs : Seq (Argument P)) → Distinct ((before ++ x ∷ []) ++ xs) → Distinct (before ++ x ∷ xs)
  next_out before x xs d = let D : Seq (Argument P) → Type 0 = λ ys. IsDistinct bytes_eq (names ys) in subst D (append_assoc before (x ∷ []) xs) d

  nameless_more : (before : Seq (Argument P)) (x : Argument P) → names (x ∷ []) ≡ [] → Distinct before → Distinct (before ++ x ∷ [])
  nameless_more before x is d =
      let D : Seq Text → Type 0 = λ ns. IsDistinct bytes_eq ns in
      subst D (sym (names-append before (x ∷ []) ∙ ap (λ ns. names before ++ ns) is ∙ append-nil (names before))) d

  distinct_after : (before xs : Seq (Argument P)) → Distinct before → first_fault repeated before xs ≡ None → Distinct (before ++ xs)
  distinct_after before [] d none = let D : Seq (Argument P) → Type 0 = λ ys. IsDistinct bytes_eq (names ys) in subst D (sym (append-nil before)) d
  distinct_after before (t.Positional s e ∷ xs) d none =
      next_out before (t.Positional s e) xs (distinct_after (before ++ t.Positional s e ∷ []) xs (nameless_more before (t.Positional s e) refl d) none)
  distinct_after before (t.Star s e ∷ xs) d none =
      next_out before (t.Star s e) xs (distinct_after (before ++ t.Star s e ∷ []) xs (nameless_more before (t.Star s e) refl d) none)
  distinct_after before (t.StarStar s e ∷ xs) d none =
      next_out before (t.StarStar s e) xs (distinct_after (before ++ t.StarStar s e ∷ []) xs (nameless_more before (t.StarStar s e) refl d) none)
  distinct_after before (t.Named s w e ∷ xs) d none =
      let D : Seq Text → Type 0 = λ ns. IsDistinct bytes_eq ns in
      let parts = no_fault (list_any (has_name w.text) before) (miscalled rule.RepeatedName w.span) (first_fault repeated (before ++ t.Named s w e ∷ []) xs)
      none in
      let more = one_name_more (names before) w.text d (sym (name_known w.text before) ∙ parts.0) in
      next_out before (t.Named s w e) xs
      (distinct_after (before ++ t.Named s w e ∷ []) xs (subst D (sym (names-append before (t.Named s w e ∷ []))) more) parts.1)

  pub distinct_names : (xs : Seq (Argument P)) → first_fault repeated [] xs ≡ None → IsDistinct bytes_eq (names xs)
  unfolding IsDistinct
  distinct_names xs none = distinct_after [] xs tt none

  none_after : (before xs : Seq (Argument P)) → Distinct (before ++ xs) → first_fault repeated before xs ≡ None
  none_after before [] d = refl
  none_after before (t.Positional s e ∷ xs) d = none_after (before ++ t.Positional s e ∷ []) xs (next_in before (t.Positional s e) xs d)
  none_after before (t.Star s e ∷ xs) d = none_after (before ++ t.Star s e ∷ []) xs (next_in before (t.Star s e) xs d)
  none_after before (t.StarStar s e ∷ xs) d = none_after (before ++ t.StarStar s e ∷ []) xs (next_in before (t.StarStar s e) xs d)
  none_after before (t.Named s w e ∷ xs) d =
      let D : Seq Text → Type 0 = λ ns. IsDistinct bytes_eq ns in
      let alone = name_known w.text before ∙ apart (names before) w.text (names xs) (subst D (names-append before (t.Named s w e ∷ xs)) d) in
      ap (λ b. option_or (fault_if b (miscalled rule.RepeatedName w.span)) (first_fault repeated (before ++ t.Named s w e ∷ []) xs)) alone
      ∙ none_after (before ++ t.Named s w e ∷ []) xs (next_in before (t.Named s w e) xs d)

  pub none_repeated : (xs : Seq (Argument P)) → IsDistinct bytes_eq (names xs) → first_fault repeated [] xs ≡ None
  none_repeated xs d = none_after [] xs d
