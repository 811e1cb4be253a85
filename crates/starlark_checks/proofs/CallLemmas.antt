-- The first fault of arguments in their four parts.
use Rattle.std.proofs.Common.{◌≡◌, List as Seq, [], ◌∷◌, ◌++◌, Bool, true, false, not, ◌||◌, Option, Some, None, IfSome, append_assoc, append-nil, refl, ap}
use Rattle.std.proofs.Common.{sym, ◌∙◌}
use Rattle.std.specs.List.{list_any, AllByRecursion}
use Rattle.std.specs.Option.{option_or}
use Rattle.std.proofs.lemmas.List.Folds.{list_any-append}
use Rattle.starlark_lexer.specs.Tokens.{Text}
use Rattle.starlark_tree.specs.Ast as t
use Rattle.starlark_tree.specs.Ast.{Payloads, Argument}
use Rattle.starlark_checks.specs.Calls.{kind_of, is_positional, is_unpacked, is_star_star, has_name, must_precede, rule_of, repeated}
use Rattle.starlark_checks.specs.Calls.{argument_fault, call_fault, optional, Stops}
use Rattle.starlark_checks.specs.Faults.{fault_if, first_fault, miscalled}
use Rattle.starlark_checks.specs.declared.call.ArgumentKind.{ArgumentKind}
use Rattle.starlark_checks.specs.declared.call.ArgumentKind.TheVariants as kind
use Rattle.starlark_spec.specs.declared.error.CallError.TheVariants as rule
use Rattle.starlark_checks.proofs.FaultLemmas.{first_fault-append, fault_after}

or_true : (b : Bool) → (b || true) ≡ true
or_true true = refl
or_true false = refl

module _ {P : Payloads} where
  abbrev pub Is : ArgumentKind → Argument P → Type 0
  Is k a = kind_of a ≡ k

  none_of : (k : ArgumentKind) (test : Argument P → Bool) → ((a : Argument P) → Is k a → test a ≡ false) → (xs : Seq (Argument P)) → AllByRecursion (Is k) xs
      → list_any test xs ≡ false
  none_of k test says [] all = refl
  none_of k test says (x ∷ xs) (p, ps) = ap (λ b. b || list_any test xs) (says x p) ∙ none_of k test says xs ps

  not_starred : (a : Argument P) → Is kind.Positional a → is_unpacked a ≡ false
  not_starred (t.Positional s e) is = refl
  not_starred (t.Named s w e) is = refl
  not_starred (t.Star s e) is = absurd (cc)
  not_starred (t.StarStar s e) is = absurd (cc)

  named_not_starred : (a : Argument P) → Is kind.Named a → is_unpacked a ≡ false
  named_not_starred (t.Positional s e) is = refl
  named_not_starred (t.Named s w e) is = refl
  named_not_starred (t.Star s e) is = absurd (cc)
  named_not_starred (t.StarStar s e) is = absurd (cc)

  nameless : (text : Text) (a : Argument P) → Is kind.Positional a → has_name text a ≡ false
  nameless text (t.Positional s e) is = refl
  nameless text (t.Named s w e) is = absurd (cc)
  nameless text (t.Star s e) is = refl
  nameless text (t.StarStar s e) is = refl

  abbrev is_other : Argument P → Bool
  is_other a = not (is_positional a)

  positional_faultless : (before xs : Seq (Argument P)) → list_any is_other before ≡ false → AllByRecursion (Is kind.Positional) xs
      → first_fault argument_fault before xs ≡ None
  positional_faultless before [] clean all = refl
  positional_faultless before (t.Positional s e ∷ xs) clean (p, ps) =
      ap (λ b. option_or (option_or (fault_if b (miscalled rule.PositionalAfterNonPositional s)) None)
      (first_fault argument_fault (before ++ t.Positional s e ∷ []) xs)) clean
      ∙ positional_faultless (before ++ t.Positional s e ∷ []) xs (list_any-append is_other before (t.Positional s e ∷ []) ∙ ap (λ b. b || false) clean) ps
  positional_faultless before (t.Named s w e ∷ xs) clean (p, ps) = absurd (cc)
  positional_faultless before (t.Star s e ∷ xs) clean (p, ps) = absurd (cc)
  positional_faultless before (t.StarStar s e ∷ xs) clean (p, ps) = absurd (cc)

  named_faults : (before xs : Seq (Argument P)) → list_any is_unpacked before ≡ false → AllByRecursion (Is kind.Named) xs
      → first_fault argument_fault before xs ≡ first_fault repeated before xs
  named_faults before [] clean all = refl
  named_faults before (t.Named s w e ∷ xs) clean (p, ps) =
      ap (λ b. option_or (option_or (fault_if b (miscalled rule.NamedAfterArgs s)) (repeated before (t.Named s w e)))
      (first_fault argument_fault (before ++ t.Named s w e ∷ []) xs)) clean
      ∙ ap (option_or (repeated before (t.Named s w e)))
      (named_faults (before ++ t.Named s w e ∷ []) xs (list_any-append is_unpacked before (t.Named s w e ∷ []) ∙ ap (λ b. b || false) clean) ps)
  named_faults before (t.Positional s e ∷ xs) clean (p, ps) = absurd (cc)
  named_faults before (t.Star s e ∷ xs) clean (p, ps) = absurd (cc)
  named_faults before (t.StarStar s e ∷ xs) clean (p, ps) = absurd (cc)

  repeated_after : (front before : Seq (Argument P)) (x : Argument P) → ((text : Text) → list_any (has_name text) front ≡ false)
      → repeated (front ++ before) x ≡ repeated before x
  repeated_after front before (t.Named s w e) none =
      ap (λ b. fault_if b (miscalled rule.RepeatedName w.span)) (list_any-append (has_name w.text) front before
      ∙ ap (λ b. b || list_any (has_name w.text) before) (none w.text))
  repeated_after front before (t.Positional s e) none = refl
  repeated_after front before (t.Star s e) none = refl
  repeated_after front before (t.StarStar s e) none = refl

  names_after : (front before xs : Seq (Argument P)) → ((text : Text) → list_any (has_name text) front ≡ false) → first_fault repeated (front ++ before) xs
      ≡ first_fault repeated before xs
  names_after front before [] none = refl
  names_after front before (x ∷ xs) none =
      ap (λ r. option_or r (first_fault repeated ((front ++ before) ++ x ∷ []) xs)) (repeated_after front before x none)
      ∙ ap (λ b. option_or (repeated before x) (first_fault repeated b xs)) (append_assoc front before (x ∷ []))
      ∙ ap (option_or (repeated before x)) (names_after front (before ++ x ∷ []) xs none)

  module _ (pos named : Seq (Argument P)) (p : AllByRecursion (Is kind.Positional) pos) (n : AllByRecursion (Is kind.Named) named) where
    -- the first fault is a repeated name, or is after the names
    pub fault_of_parts : (tail : Seq (Argument P)) → call_fault (pos ++ (named ++ tail)) ≡ option_or (first_fault repeated [] named)
        (first_fault argument_fault (pos ++ named) tail)
    fault_of_parts tail =
        fault_after argument_fault [] pos (named ++ tail) (positional_faultless [] pos refl p) ∙ first_fault-append argument_fault pos named tail
        ∙ ap (λ r. option_or r (first_fault argument_fault (pos ++ named) tail))
        (named_faults pos named (none_of kind.Positional is_unpacked not_starred pos p) n
        ∙ ap (λ b. first_fault repeated b named) (sym (append-nil pos))
        ∙ names_after pos [] named (λ text. none_of kind.Positional (has_name text) (nameless text) pos p))

    pub none_starred : list_any is_unpacked (pos ++ named) ≡ false
    none_starred =
        list_any-append is_unpacked pos named ∙ ap (λ b. b || list_any is_unpacked named) (none_of kind.Positional is_unpacked not_starred pos p)
        ∙ none_of kind.Named is_unpacked named_not_starred named n

  star_fits : (before : Seq (Argument P)) (x : Argument P) → list_any is_unpacked before ≡ false → Is kind.Star x → argument_fault before x ≡ None
  star_fits before (t.Star s e) clean is = ap (λ b. option_or (fault_if b (miscalled rule.ArgsAfterArgs s)) None) clean
  star_fits before (t.Positional s e) clean is = absurd (cc)
  star_fits before (t.Named s w e) clean is = absurd (cc)
  star_fits before (t.StarStar s e) clean is = absurd (cc)

  star_star_fits : (before : Seq (Argument P)) (x : Argument P) → list_any is_star_star before ≡ false → Is kind.StarStar x → argument_fault before x ≡ None
  star_star_fits before (t.StarStar s e) clean is = ap (λ b. option_or (fault_if b (miscalled rule.MultipleKwargs s)) None) clean
  star_star_fits before (t.Positional s e) clean is = absurd (cc)
  star_star_fits before (t.Named s w e) clean is = absurd (cc)
  star_star_fits before (t.Star s e) clean is = absurd (cc)

  fewer : (xs : Seq (Argument P)) → list_any is_unpacked xs ≡ false → list_any is_star_star xs ≡ false
  fewer [] clean = refl
  fewer (t.Positional s e ∷ xs) clean = fewer xs clean
  fewer (t.Named s w e ∷ xs) clean = fewer xs clean
  fewer (t.Star s e ∷ xs) clean = absurd (cc)
  fewer (t.StarStar s e ∷ xs) clean = absurd (cc)

  star_alone : (a : Argument P) → Is kind.Star a → is_star_star a ≡ false
  star_alone (t.Star s e) is = refl
  star_alone (t.Positional s e) is = refl
  star_alone (t.Named s w e) is = refl
  star_alone (t.StarStar s e) is = absurd (cc)

  module _ (before : Seq (Argument P)) (clean : list_any is_unpacked before ≡ false) where
    pub stars_fit : (star star_star : Option (Argument P)) → IfSome star (Is kind.Star) → IfSome star_star (Is kind.StarStar)
        → first_fault argument_fault before (optional star ++ optional star_star) ≡ None
    stars_fit None None one two = refl
    stars_fit None (Some b) one two = ap (λ r. option_or r None) (star_star_fits before b (fewer before clean) two)
    stars_fit (Some a) None one two = ap (λ r. option_or r None) (star_fits before a clean one)
    stars_fit (Some a) (Some b) one two =
        let still = list_any-append is_star_star before (a ∷ []) ∙ ap (λ x. x || (is_star_star a || false)) (fewer before clean)
        ∙ ap (λ x. x || false) (star_alone a one) in
        ap (λ r. option_or r (option_or (argument_fault (before ++ a ∷ []) b) None)) (star_fits before a clean one)
        ∙ ap (λ r. option_or r None) (star_star_fits (before ++ a ∷ []) b still two)

    -- an argument after the stars that is not allowed there
    pub fault_after_stars : (star star_star : Option (Argument P)) (x : Argument P) (rest : Seq (Argument P)) → IfSome star (Is kind.Star)
        → IfSome star_star (Is kind.StarStar)
        → list_any (must_precede x) (before ++ (optional star ++ optional star_star)) ≡ true
        → first_fault argument_fault before (optional star ++ (optional star_star ++ x ∷ rest)) ≡ Some (miscalled (rule_of x) (t.argument_span x))
    fault_after_stars star star_star x rest one two breaks =
        ap (first_fault argument_fault before) (sym (append_assoc (optional star) (optional star_star) (x ∷ rest)))
        ∙ fault_after argument_fault before (optional star ++ optional star_star) (x ∷ rest) (stars_fit star star_star one two)
        ∙ ap (λ b. option_or (option_or (fault_if b (miscalled (rule_of x) (t.argument_span x))) (repeated (before ++ (optional star ++ optional star_star)) x))
        (first_fault argument_fault ((before ++ (optional star ++ optional star_star)) ++ x ∷ []) rest)) breaks

  after_star_star : (x b : Argument P) → Is kind.StarStar b → must_precede x b ≡ true
  after_star_star x (t.Positional s e) is = absurd (cc)
  after_star_star x (t.Named s w e) is = absurd (cc)
  after_star_star x (t.Star s e) is = absurd (cc)
  after_star_star (t.Positional r d) (t.StarStar s e) is = refl
  after_star_star (t.Named r w d) (t.StarStar s e) is = refl
  after_star_star (t.Star r d) (t.StarStar s e) is = refl
  after_star_star (t.StarStar r d) (t.StarStar s e) is = refl

  after_star : (x a : Argument P) → (Is kind.StarStar x → ⊥) → Is kind.Star a → must_precede x a ≡ true
  after_star x (t.Positional s e) other is = absurd (cc)
  after_star x (t.Named s w e) other is = absurd (cc)
  after_star x (t.StarStar s e) other is = absurd (cc)
  after_star (t.Positional r d) (t.Star s e) other is = refl
  after_star (t.Named r w d) (t.Star s e) other is = refl
  after_star (t.Star r d) (t.Star s e) other is = refl
  after_star (t.StarStar r d) (t.Star s e) other is = absurd (other refl)

  after_named : (x a : Argument P) → (Is kind.Named x → ⊥) → (Is kind.Star x → ⊥) → (Is kind.StarStar x → ⊥) → Is kind.Named a → must_precede x a ≡ true
  after_named x (t.Positional s e) q r other is = absurd (cc)
  after_named x (t.Star s e) q r other is = absurd (cc)
  after_named x (t.StarStar s e) q r other is = absurd (cc)
  after_named (t.Positional o d) (t.Named s w e) q r other is = refl
  after_named (t.Named o v d) (t.Named s w e) q r other is = absurd (q refl)
  after_named (t.Star o d) (t.Named s w e) q r other is = absurd (r refl)
  after_named (t.StarStar o d) (t.Named s w e) q r other is = absurd (other refl)

  no_kind : (x : Argument P) → (Is kind.Positional x → ⊥) → (Is kind.Named x → ⊥) → (Is kind.Star x → ⊥) → (Is kind.StarStar x → ⊥) → ⊥
  no_kind (t.Positional s e) p n q r = p refl
  no_kind (t.Named s w e) p n q r = n refl
  no_kind (t.Star s e) p n q r = q refl
  no_kind (t.StarStar s e) p n q r = r refl

  -- what is left after the four parts, each as long as it can be, has to come before one of them
  pub left_over : (pos named : Seq (Argument P)) (star star_star : Option (Argument P)) (x : Argument P) (rest : Seq (Argument P))
      → AllByRecursion (Is kind.Named) named → IfSome star (Is kind.Star) → IfSome star_star (Is kind.StarStar)
      → Stops kind.Positional (named ++ (optional star ++ (optional star_star ++ x ∷ rest)))
      → Stops kind.Named (optional star ++ (optional star_star ++ x ∷ rest))
      → (star ≡ None → Stops kind.Star (optional star_star ++ x ∷ rest)) → (star_star ≡ None → Stops kind.StarStar (x ∷ rest))
      → list_any (must_precede x) ((pos ++ named) ++ (optional star ++ optional star_star)) ≡ true
  left_over pos named star (Some b) x rest n one two s1 s2 s3 s4 =
      list_any-append (must_precede x) (pos ++ named) (optional star ++ b ∷ [])
      ∙ ap (λ y. list_any (must_precede x) (pos ++ named) || y)
      (list_any-append (must_precede x) (optional star) (b ∷ []) ∙ ap (λ y. list_any (must_precede x) (optional star) || (y || false)) (after_star_star x b two)
      ∙ or_true (list_any (must_precede x) (optional star)))
      ∙ or_true (list_any (must_precede x) (pos ++ named))
  left_over pos named (Some a) None x rest n one two s1 s2 s3 s4 =
      list_any-append (must_precede x) (pos ++ named) (a ∷ [])
      ∙ ap (λ y. list_any (must_precede x) (pos ++ named) || (y || false)) (after_star x a (s4 refl) one) ∙ or_true (list_any (must_precede x) (pos ++ named))
  left_over pos [] None None x rest n one two s1 s2 s3 s4 = absurd (no_kind x s1 s2 (s3 refl) (s4 refl))
  left_over pos (y ∷ ys) None None x rest (n, ns) one two s1 s2 s3 s4 =
      list_any-append (must_precede x) (pos ++ (y ∷ ys)) []
      ∙ ap (λ b. b || false)
      (list_any-append (must_precede x) pos (y ∷ ys) ∙ ap (λ b. list_any (must_precede x) pos || (b || list_any (must_precede x) ys))
      (after_named x y s2 (s3 refl) (s4 refl) n)
      ∙ or_true (list_any (must_precede x) pos))
