-- What holds for parameters each of which is allowed where it is.
use Rattle.std.proofs.Common.{◌≡◌, ℕ, ◌+◌, ◌≤◌, List as Seq, [], ◌∷◌, ◌++◌, length, Bool, true, false, cond, not, ◌||◌, ◌&&◌, Option, Some, None, refl, ap}
use Rattle.std.proofs.Common.{sym, ◌∙◌, arith}
use Rattle.std.specs.Prelude.{if◌then◌else◌}
use Rattle.std.specs.List.{list_any, position_from}
use Rattle.std.specs.Option.{option_or}
use Rattle.std.proofs.lemmas.List.Folds.{list_any-append}
use Rattle.starlark_tree.specs.Ast as t
use Rattle.starlark_tree.specs.Ast.{Payloads, Parameter}
use Rattle.starlark_spec.specs.Faults.{Fault}
use Rattle.starlark_checks.specs.Faults.{fault_if, first_fault}
use Rattle.starlark_checks.specs.Parameters.{Named, entry_fault, is_kwargs, is_slash, is_starred, has_default, is_given, misdeclared, misplaced, mode}
use Rattle.starlark_checks.specs.Parameters.{named_after, positional, repeated, takes_args, takes_kwargs, unmarked}
use Rattle.starlark_checks.specs.Walks.Parameters.{among, misplaced_after, mode_after, with}
use Rattle.starlark_spec.specs.declared.error.ParamsError.TheVariants as rule
use Rattle.starlark_checks.specs.declared.def.Before.{Before}
use Rattle.starlark_checks.specs.declared.def.DefRegularParamMode.TheVariants.{PosOnly, PosOrName, NameOnly}

pub neither : {A : Type 0} (a b : Option A) → option_or a b ≡ None → (a ≡ None) × (b ≡ None)
neither None b is = (refl, is)
neither (Some x) b is = absurd (cc)

pub unbroken : (b : Bool) (f : Fault) → fault_if b f ≡ None → b ≡ false
unbroken true f is = absurd (cc)
unbroken false f is = refl

clash : (b : Bool) → b ≡ true → b ≡ false → ⊥
clash true is isnt = cc
clash false is isnt = cc

never_some : {A : Type 0} (k : A) → None ≡ Some k → ⊥
never_some k is = cc

pub or_true : (b c : Bool) → c ≡ true → (b || c) ≡ true
or_true true c is = refl
or_true false c is = is

unstarred : (a b c : Bool) → (a || (b || c)) ≡ false → b ≡ false
unstarred a false c is = refl
unstarred true true c is = absurd (cc)
unstarred false true c is = absurd (cc)

or_swap : (b c : Bool) → (b || (c || false)) ≡ (c || b)
or_swap true true = refl
or_swap true false = refl
or_swap false true = refl
or_swap false false = refl

or_more : (x y b c : Bool) → (b || c) ≡ true → ((x || b) || (y || c)) ≡ true
or_more true y b c is = refl
or_more false y true c is = refl
or_more false true false c is = refl
or_more false false false true is = refl
or_more false false false false is = absurd (cc)

closed_more : (x y z a b c : Bool) → (a || (b || c)) ≡ true → ((x || a) || ((y || b) || (z || c))) ≡ true
closed_more true y z a b c is = refl
closed_more false y z true b c is = refl
closed_more false y z false b c is = or_more y z b c is

-- `*`, `*name` or `**name`
abbrev pub rest : Before → Bool
rest b = b.starred || b.kwargs

abbrev closed : Before → Bool
closed b = b.slash || (b.starred || b.kwargs)

abbrev pub one : Option ℕ → ℕ
one None = 0
one (Some k) = 1

one_more : (b : Bool) (n m : ℕ) (o : Option ℕ) → one o ≤ m → one (cond b (Some n) o) ≤ m + 1
one_more true n m o is = omega arith
one_more false n m o is = omega arith

choose : (s u : Bool) (a b : Bool) → s ≡ a → u ≡ b → (if a then PosOnly else (if b then NameOnly else PosOrName))
    ≡ (if s then PosOnly else (if u then NameOnly else PosOrName))
choose s u a b p q = ap (λ y. if y then PosOnly else (if b then NameOnly else PosOrName)) (sym p)
    ∙ ap (λ y. if s then PosOnly else (if y then NameOnly else PosOrName)) (sym q)

module _ {P : Payloads} where
  pub any_more : (test : Parameter P → Bool) (before : Seq (Parameter P)) (p : Parameter P) → (test p || list_any test before)
      ≡ list_any test (before ++ p ∷ [])
  any_more test before p = sym (list_any-append test before (p ∷ []) ∙ or_swap (list_any test before) (test p))

  pub misplaced_among : (before : Seq (Parameter P)) (p : Parameter P) → misplaced_after (among before) p ≡ misplaced before p
  misplaced_among before (t.Normal s w q ty v) = refl
  misplaced_among before (t.NoArgs s) = refl
  misplaced_among before (t.Args s w q ty) = refl
  misplaced_among before (t.Slash s) = refl
  misplaced_among before (t.KwArgs s w q ty) = refl

  pub with_among : (before : Seq (Parameter P)) (p : Parameter P) → with (among before) p ≡ among (before ++ p ∷ [])
  with_among before p = λ i. record {
    slash = any_more is_slash before p i;
    starred = any_more is_starred before p i;
    kwargs = any_more is_kwargs before p i;
    default = any_more has_default before p i;
  }

  module _ (before : Seq (Parameter P)) (x : Parameter P) where
    next : (test : Before → Bool) (b : Bool) → test (with (among before) x) ≡ b → test (among (before ++ x ∷ [])) ≡ b
    next test b is = ap test (sym (with_among before x)) ∙ is

    closed_next : closed (among before) ≡ true → closed (among (before ++ x ∷ [])) ≡ true
    closed_next is = next closed true (closed_more (is_slash x) (is_starred x) (is_kwargs x) (list_any is_slash before) (list_any is_starred before)
        (list_any is_kwargs before) is)

    rest_next : rest (among before) ≡ true → rest (among (before ++ x ∷ [])) ≡ true
    rest_next is = next rest true (or_more (is_starred x) (is_kwargs x) (list_any is_starred before) (list_any is_kwargs before) is)

    module _ (xs : Seq (Parameter P)) (none : first_fault entry_fault before (x ∷ xs) ≡ None) where
      pub after : first_fault entry_fault (before ++ x ∷ []) xs ≡ None
      after = (neither (entry_fault before x) (first_fault entry_fault (before ++ x ∷ []) xs) none).1

      fits : misplaced before x ≡ None
      fits = (neither (repeated before x) (misplaced before x) (neither (entry_fault before x) (first_fault entry_fault (before ++ x ∷ []) xs) none).0).1

  no_slash : (before xs : Seq (Parameter P)) → closed (among before) ≡ true → first_fault entry_fault before xs ≡ None → list_any is_slash xs ≡ false
  no_slash before [] is none = refl
  no_slash before (t.Slash s ∷ xs) is none = absurd (clash (closed (among before)) is (unbroken (closed (among before)) (misdeclared rule.MultipleSlash s)
      (fits before (t.Slash s) xs none)))
  no_slash before (t.Normal s w q ty v ∷ xs) is none = let x : Parameter P = t.Normal s w q ty v in
      no_slash (before ++ x ∷ []) xs (closed_next before x is) (after before x xs none)
  no_slash before (t.NoArgs s ∷ xs) is none = let x : Parameter P = t.NoArgs s in
      no_slash (before ++ x ∷ []) xs (closed_next before x is) (after before x xs none)
  no_slash before (t.Args s w q ty ∷ xs) is none = let x : Parameter P = t.Args s w q ty in
      no_slash (before ++ x ∷ []) xs (closed_next before x is) (after before x xs none)
  no_slash before (t.KwArgs s w q ty ∷ xs) is none = let x : Parameter P = t.KwArgs s w q ty in
      no_slash (before ++ x ∷ []) xs (closed_next before x is) (after before x xs none)

  -- `*name` does not come after `*`, `*name` or `**name`
  no_args : (before xs : Seq (Parameter P)) (n : ℕ) → rest (among before) ≡ true → first_fault entry_fault before xs ≡ None
      → position_from takes_args n (named_after before xs) ≡ None
  no_args before [] n is none = refl
  no_args before (t.Args s w q ty ∷ xs) n is none = absurd
      (clash (rest (among before)) is (unbroken (rest (among before)) (misdeclared rule.ArgsAfterArgs s) (fits before (t.Args s w q ty) xs none)))
  no_args before (t.Slash s ∷ xs) n is none = let x : Parameter P = t.Slash s in
      no_args (before ++ x ∷ []) xs n (rest_next before x is) (after before x xs none)
  no_args before (t.Normal s w q ty v ∷ xs) n is none = let x : Parameter P = t.Normal s w q ty v in
      no_args (before ++ x ∷ []) xs (n + 1) (rest_next before x is) (after before x xs none)
  no_args before (t.NoArgs s ∷ xs) n is none = let x : Parameter P = t.NoArgs s in
      no_args (before ++ x ∷ []) xs n (rest_next before x is) (after before x xs none)
  no_args before (t.KwArgs s w q ty ∷ xs) n is none = let x : Parameter P = t.KwArgs s w q ty in
      no_args (before ++ x ∷ []) xs (n + 1) (rest_next before x is) (after before x xs none)

  rest_from : (before : Seq (Parameter P)) → (among before).kwargs ≡ true → rest (among before) ≡ true
  rest_from before is = or_true (list_any is_starred before) (list_any is_kwargs before) is

  -- after `**name` there is nothing
  nothing : (before xs : Seq (Parameter P)) → (among before).kwargs ≡ true → first_fault entry_fault before xs ≡ None → xs ≡ []
  nothing before [] is none = refl
  nothing before (t.Slash s ∷ xs) is none =
      absurd (clash (closed (among before)) (or_true (list_any is_slash before) (rest (among before)) (rest_from before is))
      (unbroken (closed (among before)) (misdeclared rule.MultipleSlash s) (fits before (t.Slash s) xs none)))
  nothing before (t.Normal s w q ty v ∷ xs) is none =
      absurd (clash (list_any is_kwargs before) is (unbroken (list_any is_kwargs before) (misdeclared rule.AfterKwargs s)
      (neither (fault_if (list_any is_kwargs before) (misdeclared rule.AfterKwargs s))
      (fault_if (not (is_given v) && (list_any has_default before && not (list_any is_starred before))) (misdeclared rule.PositionalAfterNonPositional s))
      (fits before (t.Normal s w q ty v) xs none)).0))
  nothing before (t.NoArgs s ∷ xs) is none = absurd (clash (rest (among before)) (rest_from before is)
      (unbroken (rest (among before)) (misdeclared rule.ArgsAfterArgs s) (fits before (t.NoArgs s) xs none)))
  nothing before (t.Args s w q ty ∷ xs) is none = absurd
      (clash (rest (among before)) (rest_from before is) (unbroken (rest (among before)) (misdeclared rule.ArgsAfterArgs s)
      (fits before (t.Args s w q ty) xs none)))
  nothing before (t.KwArgs s w q ty ∷ xs) is none = absurd
      (clash (list_any is_kwargs before) is (unbroken (list_any is_kwargs before) (misdeclared rule.MultipleKwargs s)
      (fits before (t.KwArgs s w q ty) xs none)))

  -- the index of `*name` is after the positional ones
  pub args_at : (before xs : Seq (Parameter P)) (n k : ℕ) → rest (among before) ≡ false → first_fault entry_fault before xs ≡ None
      → position_from takes_args n (named_after before xs) ≡ Some k → k ≡ n + positional xs
  args_at before [] n k clear none is = absurd (cc)
  args_at before (t.Normal s w q ty v ∷ xs) n k clear none is =
      let x : Parameter P = t.Normal s w q ty v in
      let more : k ≡ (n + 1) + positional xs = args_at (before ++ x ∷ []) xs (n + 1) k (next before x rest false clear) (after before x xs none) is in
      omega arith
  args_at before (t.Slash s ∷ xs) n k clear none is = let x : Parameter P = t.Slash s in
      args_at (before ++ x ∷ []) xs n k (next before x rest false clear) (after before x xs none) is
  args_at before (t.NoArgs s ∷ xs) n k clear none is =
      let x : Parameter P = t.NoArgs s in let never = no_args (before ++ x ∷ []) xs n (next before x rest true refl) (after before x xs none) in
      absurd (never_some k (sym never ∙ is))
  args_at before (t.Args s w q ty ∷ xs) n k clear none is = let same : n ≡ k = cc in omega arith
  args_at before (t.KwArgs s w q ty ∷ xs) n k clear none is =
      let x : Parameter P = t.KwArgs s w q ty in
      let never = no_args (before ++ x ∷ []) xs (n + 1) (next before x rest true (or_true (list_any is_starred before) true refl)) (after before x xs none) in
      absurd (never_some k (sym never ∙ is))

  -- the index of `**name` is the last
  pub kwargs_at : (before xs : Seq (Parameter P)) (n k : ℕ) → first_fault entry_fault before xs ≡ None → position_from takes_kwargs n (named_after before xs)
      ≡ Some k → k + 1 ≡ n + length (named_after before xs)
  kwargs_at before [] n k none is = absurd (cc)
  kwargs_at before (t.KwArgs s w q ty ∷ xs) n k none is =
      let x : Parameter P = t.KwArgs s w q ty in
      let same : n ≡ k = cc in
      let last : length (named_after (before ++ x ∷ []) xs) ≡ 0 = ap (λ ys. length (named_after (before ++ x ∷ []) ys))
      (nothing (before ++ x ∷ []) xs (next before x (λ b. b.kwargs) true refl) (after before x xs none)) in omega arith
  kwargs_at before (t.Normal s w q ty v ∷ xs) n k none is =
      let x : Parameter P = t.Normal s w q ty v in let more : k + 1 ≡ (n + 1) + length (named_after (before ++ x ∷ []) xs) =
      kwargs_at (before ++ x ∷ []) xs (n + 1) k (after before x xs none) is in omega arith
  kwargs_at before (t.Args s w q ty ∷ xs) n k none is =
      let x : Parameter P = t.Args s w q ty in let more : k + 1 ≡ (n + 1) + length (named_after (before ++ x ∷ []) xs) =
      kwargs_at (before ++ x ∷ []) xs (n + 1) k (after before x xs none) is in omega arith
  kwargs_at before (t.Slash s ∷ xs) n k none is = let x : Parameter P = t.Slash s in kwargs_at (before ++ x ∷ []) xs n k (after before x xs none) is
  kwargs_at before (t.NoArgs s ∷ xs) n k none is = let x : Parameter P = t.NoArgs s in kwargs_at (before ++ x ∷ []) xs n k (after before x xs none) is

  nowhere : (xs : Seq (Parameter P)) (n : ℕ) → list_any is_slash xs ≡ false → position_from is_slash n xs ≡ None
  nowhere [] n is = refl
  nowhere (t.Slash s ∷ xs) n is = absurd (cc)
  nowhere (t.Normal s w q ty v ∷ xs) n is = nowhere xs (n + 1) is
  nowhere (t.NoArgs s ∷ xs) n is = nowhere xs (n + 1) is
  nowhere (t.Args s w q ty ∷ xs) n is = nowhere xs (n + 1) is
  nowhere (t.KwArgs s w q ty ∷ xs) n is = nowhere xs (n + 1) is

  -- what is before the `/` is positional
  pub slash_at : (before xs : Seq (Parameter P)) (n k : ℕ) → first_fault entry_fault before xs ≡ None → position_from is_slash n xs ≡ Some k
      → k ≤ n + positional xs
  slash_at before [] n k none is = absurd (cc)
  slash_at before (t.Normal s w q ty v ∷ xs) n k none is =
      let x : Parameter P = t.Normal s w q ty v in let more : k ≤ (n + 1) + positional xs =
      slash_at (before ++ x ∷ []) xs (n + 1) k (after before x xs none) is in omega arith
  slash_at before (t.Slash s ∷ xs) n k none is = let same : n ≡ k = cc in omega arith
  slash_at before (t.NoArgs s ∷ xs) n k none is =
      let x : Parameter P = t.NoArgs s in
      let never = nowhere xs (n + 1) (no_slash (before ++ x ∷ []) xs (next before x closed true (or_true (list_any is_slash before) true refl))
      (after before x xs none)) in absurd (never_some k (sym never ∙ is))
  slash_at before (t.Args s w q ty ∷ xs) n k none is =
      let x : Parameter P = t.Args s w q ty in
      let never = nowhere xs (n + 1) (no_slash (before ++ x ∷ []) xs (next before x closed true (or_true (list_any is_slash before) true refl))
      (after before x xs none)) in absurd (never_some k (sym never ∙ is))
  slash_at before (t.KwArgs s w q ty ∷ xs) n k none is =
      let x : Parameter P = t.KwArgs s w q ty in
      let never = nowhere xs (n + 1) (no_slash (before ++ x ∷ []) xs
      (next before x closed true (or_true (list_any is_slash before) (list_any is_starred before || true) (or_true (list_any is_starred before) true refl)))
      (after before x xs none)) in absurd (never_some k (sym never ∙ is))

  -- each of the indices is one of the list
  one_within : (test : Named P → Bool) (xs : Seq (Named P)) (n : ℕ) → one (position_from test n xs) ≤ length xs
  one_within test [] n = omega arith
  one_within test (x ∷ xs) n = let more = one_more (test x) n (length xs) (position_from test (n + 1) xs) (one_within test xs (n + 1)) in omega arith

  two_within : (before xs : Seq (Parameter P)) (m n : ℕ)
      → one (position_from takes_args m (named_after before xs)) + one (position_from takes_kwargs n (named_after before xs)) ≤ length (named_after before xs)
  two_within before [] m n = omega arith
  two_within before (t.Slash s ∷ xs) m n = two_within (before ++ t.Slash s ∷ []) xs m n
  two_within before (t.NoArgs s ∷ xs) m n = two_within (before ++ t.NoArgs s ∷ []) xs m n
  two_within before (t.Normal s w q ty v ∷ xs) m n = let more = two_within (before ++ t.Normal s w q ty v ∷ []) xs (m + 1) (n + 1) in omega arith
  two_within before (t.Args s w q ty ∷ xs) m n = let more = one_within takes_kwargs (named_after (before ++ t.Args s w q ty ∷ []) xs) (n + 1) in omega arith
  two_within before (t.KwArgs s w q ty ∷ xs) m n = let more = one_within takes_args (named_after (before ++ t.KwArgs s w q ty ∷ []) xs) (m + 1) in omega arith

  pub room : (before xs : Seq (Parameter P)) (m n : ℕ)
      → positional xs + (one (position_from takes_args m (named_after before xs)) + one (position_from takes_kwargs n (named_after before xs))) ≤ length
      (named_after before xs)
  room before [] m n = omega arith
  room before (t.Slash s ∷ xs) m n = room (before ++ t.Slash s ∷ []) xs m n
  room before (t.Normal s w q ty v ∷ xs) m n = let more = room (before ++ t.Normal s w q ty v ∷ []) xs (m + 1) (n + 1) in omega arith
  room before (t.NoArgs s ∷ xs) m n = let more = two_within before (t.NoArgs s ∷ xs) m n in omega arith
  room before (t.Args s w q ty ∷ xs) m n = let more = two_within before (t.Args s w q ty ∷ xs) m n in omega arith
  room before (t.KwArgs s w q ty ∷ xs) m n = let more = two_within before (t.KwArgs s w q ty ∷ xs) m n in omega arith

  -- no entry becomes more than one
  pub no_more : (before xs : Seq (Parameter P)) → length (named_after before xs) ≤ length xs
  no_more before [] = omega arith
  no_more before (t.Slash s ∷ xs) = let more = no_more (before ++ t.Slash s ∷ []) xs in omega arith
  no_more before (t.NoArgs s ∷ xs) = let more = no_more (before ++ t.NoArgs s ∷ []) xs in omega arith
  no_more before (t.Normal s w q ty v ∷ xs) = let more = no_more (before ++ t.Normal s w q ty v ∷ []) xs in omega arith
  no_more before (t.Args s w q ty ∷ xs) = let more = no_more (before ++ t.Args s w q ty ∷ []) xs in omega arith
  no_more before (t.KwArgs s w q ty ∷ xs) = let more = no_more (before ++ t.KwArgs s w q ty ∷ []) xs in omega arith

  -- how plain parameters are passed after one more entry
  pub mode_next : (before : Seq (Parameter P)) (x : Parameter P) (xs : Seq (Parameter P)) → first_fault entry_fault before (x ∷ xs) ≡ None
      → mode_after (mode before (x ∷ xs)) x ≡ mode (before ++ x ∷ []) xs
  mode_next before (t.Normal s w q ty v) xs none = let x : Parameter P = t.Normal s w q ty v in
      choose (list_any is_slash xs) (list_any is_starred (before ++ x ∷ [])) (list_any is_slash xs) (list_any is_starred before) refl
      (sym (any_more is_starred before x))
  mode_next before (t.KwArgs s w q ty) xs none = let x : Parameter P = t.KwArgs s w q ty in
      choose (list_any is_slash xs) (list_any is_starred (before ++ x ∷ [])) (list_any is_slash xs) (list_any is_starred before) refl
      (sym (any_more is_starred before x))
  mode_next before (t.NoArgs s) xs none =
      let x : Parameter P = t.NoArgs s in
      choose (list_any is_slash xs) (list_any is_starred (before ++ x ∷ [])) false true
      (no_slash (before ++ x ∷ []) xs (next before x closed true (or_true (list_any is_slash before) true refl)) (after before x xs none))
      (sym (any_more is_starred before x))
  mode_next before (t.Args s w q ty) xs none =
      let x : Parameter P = t.Args s w q ty in
      choose (list_any is_slash xs) (list_any is_starred (before ++ x ∷ [])) false true
      (no_slash (before ++ x ∷ []) xs (next before x closed true (or_true (list_any is_slash before) true refl)) (after before x xs none))
      (sym (any_more is_starred before x))
  mode_next before (t.Slash s) xs none =
      let x : Parameter P = t.Slash s in
      choose (list_any is_slash xs) (list_any is_starred (before ++ x ∷ [])) false false (no_slash (before ++ x ∷ []) xs (next before x closed true refl)
      (after before x xs none))
      (sym (any_more is_starred before x) ∙ unstarred (list_any is_slash before) (list_any is_starred before) (list_any is_kwargs before)
      (unbroken (closed (among before)) (misdeclared rule.MultipleSlash s) (fits before x xs none)))

  -- it matters only for plain ones, and these leave it unchanged
  pub mode_same : (before : Seq (Parameter P)) (x : Parameter P) (xs : Seq (Parameter P)) → unmarked (mode (before ++ x ∷ []) xs) x
      ≡ unmarked (mode before xs) x
  mode_same before (t.Normal s w q ty v) xs =
      let x : Parameter P = t.Normal s w q ty v in ap (λ m. unmarked m x)
      (sym (choose (list_any is_slash xs) (list_any is_starred (before ++ x ∷ [])) (list_any is_slash xs) (list_any is_starred before) refl
      (sym (any_more is_starred before x))))
  mode_same before (t.Slash s) xs = refl
  mode_same before (t.NoArgs s) xs = refl
  mode_same before (t.Args s w q ty) xs = refl
  mode_same before (t.KwArgs s w q ty) xs = refl
