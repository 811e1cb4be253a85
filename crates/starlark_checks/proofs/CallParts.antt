-- The arguments of the tree in their four parts.
use Rattle.std.proofs.Math.ListN.{drop_of_length-le}
use Rattle.std.proofs.Common.{◌≡◌, ℕ, ◌<◌, ◌≤◌, List as Seq, [], ◌∷◌, ◌++◌, map, length, drop, get_or, slice_get, false, Option}
use Rattle.std.proofs.Common.{Some}
use Rattle.std.proofs.Common.{None, IfSome, Ok, Err, append-nil, drop-cons, refl, ap, subst, sym, ◌∙◌}
use Rattle.std.specs.Prelude.{option_map}
use Rattle.std.specs.List.{All, AllByRecursion, list_any}
use Rattle.std.specs.Option.{option_or}
use Rattle.std.proofs.lemmas.List.{map-append, nil_from_length}
use Rattle.std.proofs.lemmas.List.Elements.{recursion_from_All}
use Rattle.starlark_lexer.specs.Tokens.{Span, span_of}
use Rattle.starlark_lexer.specs.declared.span.Spanned.{Spanned}
use Rattle.starlark_tree.specs.Ast as t
use Rattle.starlark_tree.specs.Ast.{Payloads, Argument}
use Rattle.starlark_tree.specs.Views.{argument_of, argument_seen, payloads}
use Rattle.starlark_tree.specs.declared.ast.ArgumentP
use Rattle.starlark_checks.specs.Calls.{is_unpacked, rule_of, repeated, argument_fault, call_fault, checked, optional, HasParts, IsOfKind}
use Rattle.starlark_checks.specs.Calls.{Stops}
use Rattle.starlark_spec.specs.Faults.{Fault}
use Rattle.starlark_checks.specs.Faults.{first_fault, miscalled, unless_fault}
use Rattle.starlark_checks.specs.declared.call.ArgumentKind.{ArgumentKind}
use Rattle.starlark_checks.specs.declared.call.ArgumentKind.TheVariants as kind
use Rattle.starlark_checks.proofs.DistinctLemmas.{none_repeated}
use Rattle.starlark_checks.proofs.CallLemmas.{Is, fault_of_parts, none_starred, stars_fit, fault_after_stars, left_over}

module _ {P A B C D E : Type 0} where
  span_seen : (s : Span) (a : ArgumentP.ArgumentP P A B C D E) → t.argument_span (argument_seen s a) ≡ s
  span_seen s (ArgumentP.Positional' e r) = refl
  span_seen s (ArgumentP.Named' name e r) = refl
  span_seen s (ArgumentP.Args' e r) = refl
  span_seen s (ArgumentP.KwArgs' e r) = refl

  seen_by_recursion : (k : ArgumentKind) (xs : Seq (Spanned (ArgumentP.ArgumentP P A B C D E))) → AllByRecursion (IsOfKind k) xs
      → AllByRecursion (Is k) (map argument_of xs)
  seen_by_recursion k [] all = tt
  seen_by_recursion k (x ∷ xs) (p, ps) = (p, seen_by_recursion k xs ps)

  all_seen : (k : ArgumentKind) (xs : Seq (Spanned (ArgumentP.ArgumentP P A B C D E))) → All (IsOfKind k) xs → AllByRecursion (Is k) (map argument_of xs)
  all_seen k xs all = seen_by_recursion k xs (recursion_from_All (IsOfKind k) xs all)

  optional_seen : (o : Option (Spanned (ArgumentP.ArgumentP P A B C D E))) → map argument_of (optional o) ≡ optional (option_map argument_of o)
  optional_seen None = refl
  optional_seen (Some a) = refl

  some_seen : (k : ArgumentKind) (o : Option (Spanned (ArgumentP.ArgumentP P A B C D E))) → IfSome o (IsOfKind k) → IfSome (option_map argument_of o) (Is k)
  some_seen k None is = tt
  some_seen k (Some a) is = is

  none_seen : (o : Option (Spanned (ArgumentP.ArgumentP P A B C D E))) → option_map argument_of o ≡ None → o ≡ None
  none_seen None is = refl
  none_seen (Some a) is = absurd (cc)

  -- where the front of the kind ends
  pub stops_at : (k : ArgumentKind) (xs : Seq (Spanned (ArgumentP.ArgumentP P A B C D E))) (i : ℕ) (a : (Spanned (ArgumentP.ArgumentP P A B C D E)))
      → i < length xs → a ≡ get_or xs i a → (IsOfKind k a → ⊥) → Stops k (map argument_of (drop i xs))
  stops_at k xs i a within is other =
      let S : Seq (Spanned (ArgumentP.ArgumentP P A B C D E)) → Type 0 = λ ys. Stops k (map argument_of ys) in
      let H : (Spanned (ArgumentP.ArgumentP P A B C D E)) → Type 0 = λ b. IsOfKind k b → ⊥ in subst S (sym (drop-cons xs i a within)) (subst H is other)

  pub stops_first : (k : ArgumentKind) (xs : Seq (Spanned (ArgumentP.ArgumentP P A B C D E))) (a : (Spanned (ArgumentP.ArgumentP P A B C D E)))
      (rest : Seq (Spanned (ArgumentP.ArgumentP P A B C D E))) → xs ≡ a ∷ rest → (IsOfKind k a → ⊥) → Stops k (map argument_of xs)
  stops_first k xs a rest is other = let S : Seq (Spanned (ArgumentP.ArgumentP P A B C D E)) → Type 0 = λ ys. Stops k (map argument_of ys) in
      subst S (sym is) other

  pub stops_empty : (k : ArgumentKind) (xs : Seq (Spanned (ArgumentP.ArgumentP P A B C D E))) → length xs ≡ 0 → Stops k (map argument_of xs)
  stops_empty k xs is = let S : Seq (Spanned (ArgumentP.ArgumentP P A B C D E)) → Type 0 = λ ys. Stops k (map argument_of ys) in
      subst S (sym (nil_from_length xs is)) tt

  pub stops_end : (k : ArgumentKind) (xs : Seq (Spanned (ArgumentP.ArgumentP P A B C D E))) (i : ℕ) → length xs ≤ i → Stops k (map argument_of (drop i xs))
  stops_end k xs i past = let S : Seq (Spanned (ArgumentP.ArgumentP P A B C D E)) → Type 0 = λ ys. Stops k (map argument_of ys) in
      subst S (sym (drop_of_length-le xs past)) tt

  module _ (args pos named r1 r2 : Seq (Spanned (ArgumentP.ArgumentP P A B C D E))) (e1 : args ≡ pos ++ r1) (e2 : r1 ≡ named ++ r2)
      (p : All (IsOfKind kind.Positional) pos) (n : All (IsOfKind kind.Named) named) where
    r1_seen : map argument_of r1 ≡ map argument_of named ++ map argument_of r2
    r1_seen = ap (map argument_of) e2 ∙ map-append argument_of named r2

    args_seen : map argument_of args ≡ map argument_of pos ++ (map argument_of named ++ map argument_of r2)
    args_seen = ap (map argument_of) e1 ∙ map-append argument_of pos r1 ∙ ap (λ r. map argument_of pos ++ r) r1_seen

    fault_is : call_fault (map argument_of args)
        ≡ option_or (first_fault repeated [] (map argument_of named)) (first_fault argument_fault (map argument_of pos ++ map argument_of named)
        (map argument_of r2))
    fault_is = ap call_fault args_seen ∙ fault_of_parts (map argument_of pos) (map argument_of named) (all_seen kind.Positional pos p)
        (all_seen kind.Named named n) (map argument_of r2)

    pub name_refused : (f : Fault) → Some f ≡ first_fault repeated [] (map argument_of named) → checked (map argument_of args) ≡ Err f
    name_refused f is =
        ap (λ o. unless_fault o (map argument_of args))
        (fault_is ∙ ap (λ r. option_or r (first_fault argument_fault (map argument_of pos ++ map argument_of named) (map argument_of r2))) (sym is))

    module _ (r3 r4 : Seq (Spanned (ArgumentP.ArgumentP P A B C D E))) (star star_star : Option (Spanned (ArgumentP.ArgumentP P A B C D E)))
        (e3 : r2 ≡ optional star ++ r3) (e4 : r3 ≡ optional star_star ++ r4) (distinct : None ≡ first_fault repeated [] (map argument_of named))
        (one : IfSome star (IsOfKind kind.Star)) (two : IfSome star_star (IsOfKind kind.StarStar)) where
      abbrev before : Seq (Argument (payloads A B C D E))
      before = map argument_of pos ++ map argument_of named

      clean : list_any is_unpacked before ≡ false
      clean = none_starred (map argument_of pos) (map argument_of named) (all_seen kind.Positional pos p) (all_seen kind.Named named n)

      r3_seen : map argument_of r3 ≡ optional (option_map argument_of star_star) ++ map argument_of r4
      r3_seen = ap (map argument_of) e4 ∙ map-append argument_of (optional star_star) r4 ∙ ap (λ o. o ++ map argument_of r4) (optional_seen star_star)

      r2_seen : map argument_of r2 ≡ optional (option_map argument_of star) ++ (optional (option_map argument_of star_star) ++ map argument_of r4)
      r2_seen =
          ap (map argument_of) e3 ∙ map-append argument_of (optional star) r3 ∙ ap (λ o. o ++ map argument_of r3) (optional_seen star)
          ∙ ap (λ r. optional (option_map argument_of star) ++ r) r3_seen

      stars_fault : call_fault (map argument_of args)
          ≡ first_fault argument_fault before (optional (option_map argument_of star) ++ (optional (option_map argument_of star_star) ++ map argument_of r4))
      stars_fault = fault_is ∙ ap (λ r. option_or r (first_fault argument_fault before (map argument_of r2))) (sym distinct)
          ∙ ap (first_fault argument_fault before) r2_seen

      pub parts_join : r4 ≡ [] → args ≡ pos ++ (named ++ (optional star ++ optional star_star))
      parts_join is = e1 ∙ ap (λ r. pos ++ r) (e2 ∙ ap (λ r. named ++ r) (e3 ∙ ap (λ r. optional star ++ r) (e4 ∙ ap (λ r. optional star_star ++ r) is
          ∙ append-nil (optional star_star))))

      pub faultless : r4 ≡ [] → call_fault (map argument_of args) ≡ None
      faultless is =
          stars_fault
          ∙ ap (λ r. first_fault argument_fault before (optional (option_map argument_of star) ++ r))
          (ap (λ r. optional (option_map argument_of star_star) ++ map argument_of r) is ∙ append-nil (optional (option_map argument_of star_star)))
          ∙ stars_fit before clean (option_map argument_of star) (option_map argument_of star_star) (some_seen kind.Star star one)
          (some_seen kind.StarStar star_star two)

      module _ (x : (Spanned (ArgumentP.ArgumentP P A B C D E))) (rest : Seq (Spanned (ArgumentP.ArgumentP P A B C D E))) (e5 : r4 ≡ x ∷ rest)
          (s1 : Stops kind.Positional (map argument_of r1)) (s2 : Stops kind.Named (map argument_of r2))
          (s3 : star ≡ None → Stops kind.Star (map argument_of r3)) (s4 : star_star ≡ None → Stops kind.StarStar (map argument_of r4)) where
        r4_seen : map argument_of r4 ≡ argument_of x ∷ map argument_of rest
        r4_seen = ap (map argument_of) e5

        abbrev tail : Seq (Argument (payloads A B C D E))
        tail = argument_of x ∷ map argument_of rest

        r3_to : map argument_of r3 ≡ optional (option_map argument_of star_star) ++ tail
        r3_to = r3_seen ∙ ap (λ r. optional (option_map argument_of star_star) ++ r) r4_seen

        r2_to : map argument_of r2 ≡ optional (option_map argument_of star) ++ (optional (option_map argument_of star_star) ++ tail)
        r2_to = r2_seen ∙ ap (λ r. optional (option_map argument_of star) ++ (optional (option_map argument_of star_star) ++ r)) r4_seen

        pub argument_refused : checked (map argument_of args) ≡ Err (miscalled (rule_of (argument_of x)) (span_of x.span))
        argument_refused =
            let to : ArgumentKind → Seq (Argument (payloads A B C D E)) → Type 0 = Stops in
            let breaks = left_over (map argument_of pos) (map argument_of named) (option_map argument_of star) (option_map argument_of star_star)
            (argument_of x) (map argument_of rest)
            (all_seen kind.Named named n) (some_seen kind.Star star one) (some_seen kind.StarStar star_star two)
            (subst (to kind.Positional) (r1_seen ∙ ap (λ r. map argument_of named ++ r) r2_to) s1) (subst (to kind.Named) r2_to s2)
            (λ none. subst (to kind.Star) r3_to (s3 (none_seen star none))) (λ none. subst (to kind.StarStar) r4_seen (s4 (none_seen star_star none))) in
            ap (λ o. unless_fault o (map argument_of args))
            (stars_fault ∙ ap (λ r. first_fault argument_fault before (optional (option_map argument_of star)
            ++ (optional (option_map argument_of star_star) ++ r))) r4_seen
            ∙ fault_after_stars before clean (option_map argument_of star) (option_map argument_of star_star) (argument_of x) (map argument_of rest)
            (some_seen kind.Star star one) (some_seen kind.StarStar star_star two) breaks
            ∙ ap (λ s. Some (miscalled (rule_of (argument_of x)) s)) (span_seen (span_of x.span) x.node))

  -- what has the shape is not refused
  module _ (args : Seq (Spanned (ArgumentP.ArgumentP P A B C D E))) (shape : HasParts args) where
    shape_faultless : call_fault (map argument_of args) ≡ None
    shape_faultless =
        faultless args shape.pos shape.named (shape.named ++ (optional shape.star ++ optional shape.star_star))
        (optional shape.star ++ optional shape.star_star)
        shape.splits.joined refl shape.splits.positional shape.splits.by_name (optional shape.star_star) [] shape.star shape.star_star refl
        (sym (append-nil (optional shape.star_star)))
        (sym (none_repeated (map argument_of shape.named) shape.splits.distinct)) shape.splits.one_star shape.splits.one_star_star refl

    pub never_refused : (f : Fault) → checked (map argument_of args) ≡ Err f → ⊥
    never_refused f is = let clash : Ok (map argument_of args) ≡ Err f = ap (λ o. unless_fault o (map argument_of args)) (sym shape_faultless) ∙ is in cc

pub empty_from_none : {A : Type 0} (xs : Seq A) → None ≡ slice_get xs 0 → xs ≡ []
empty_from_none [] e = refl
empty_from_none (x ∷ xs) e = absurd (cc)

pub first_is : {A : Type 0} (x : A) (xs : Seq A) → Some x ≡ slice_get xs 0 → (ys : Seq A) × (xs ≡ x ∷ ys)
first_is x [] e = absurd (cc)
first_is x (y ∷ ys) e = let same : x ≡ y = cc in (ys, ap (λ z. z ∷ ys) (sym same))
