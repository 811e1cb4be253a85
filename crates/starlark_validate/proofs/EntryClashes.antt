-- Entries of a list, each compared with each before it: if none clashes there is no fault.
use Rattle.std.proofs.Common.{◌≡◌, ◌<◌, ◌≤◌, ◌+◌, ◌^◌, ◌-◌, ℕ, arith, List, [], ◌∷◌, ◌++◌, get_or, length, map, take, subst, Bool, true, false, not, ◌&&◌}
use Rattle.std.proofs.Common.{◌||◌, Option, Some, None, is_some, Box, Global, refl, ap, ◌∙◌}
use Rattle.std.specs.Prelude.{nat_lt, option_to_list, string_bytes}
use Rattle.std.specs.List.{flat_map, list_all, list_any}
use Rattle.std.specs.Option.{option_or}
use Rattle.std.proofs.lemmas.Bool.Decides.{nat_tests}
use Rattle.starlark_lexer.specs.Tokens.{Span}
use Rattle.starlark_lexer.specs.declared.span.Spanned.{Spanned}
use Rattle.starlark_lexer.specs.declared.dialect.Dialect.{Dialect}
use Rattle.starlark_tree.specs.Ast as t
use Rattle.starlark_tree.specs.Ast.{Argument, Parameter, Payloads}
use Rattle.starlark_tree.specs.Views.{assign_word, expression_of, parameter_seen, payloads, type_of}
use Rattle.starlark_tree.specs.declared.ast.AssignIdentP.{AssignIdentP}
use Rattle.starlark_tree.specs.declared.ast.ExprP.{ExprP}
use Rattle.starlark_tree.specs.declared.ast.ParameterP as parameter
use Rattle.starlark_tree.specs.declared.ast.TypeExprP.{TypeExprP}
use Rattle.starlark_checks.specs.Calls as calls
use Rattle.starlark_spec.specs.Faults.{Fault}
use Rattle.starlark_checks.specs.Faults.{fault_if, first_fault, miscalled}
use Rattle.starlark_checks.specs.Parameters as parameters
use Rattle.starlark_checks.specs.Parameters.{entry_fault, is_given, is_plain, misdeclared, params_fault, slash_first, star_fault, too_many, whole}
use Rattle.starlark_spec.specs.declared.error.CallError.TheVariants as call_rule
use Rattle.starlark_spec.specs.declared.error.ParamsError.TheVariants as rule
use Rattle.starlark_checks.proofs.FaultLemmas.{fault_after}
use Rattle.starlark_validate.specs.KeptTreeFaults.{listed_if}
use Rattle.starlark_validate.specs.Validity.{params_faults, slash_faults, star_faults}
use Rattle.starlark_validate.specs.Clean.{clashes, misfits}
use Rattle.starlark_validate.proofs.AddedExpressions.{grown_by_one}
use Rattle.starlark_validate.proofs.FaultlessParts.{both}

-- ---- tests

pub neither_left : (a b : Bool) → (a || b) ≡ false → a ≡ false
neither_left true b h = absurd (cc)
neither_left false b h = refl

pub neither_right : (a b : Bool) → (a || b) ≡ false → b ≡ false
neither_right true b h = absurd (cc)
neither_right false b h = h

neither : (a b : Bool) → a ≡ false → b ≡ false → (a || b) ≡ false
neither true b p q = absurd (cc)
neither false b p q = q

pub and_left : (a b : Bool) → (a && b) ≡ true → a ≡ true
and_left true b h = refl
and_left false b h = absurd (cc)

pub and_right : (a b : Bool) → (a && b) ≡ true → b ≡ true
and_right true b h = h
and_right false b h = absurd (cc)

both_true : (a b : Bool) → a ≡ true → b ≡ true → (a && b) ≡ true
both_true true b p q = q
both_true false b p q = absurd (cc)

none_push : {A : Type 0} (p : A → Bool) (xs : List A) (x : A) → list_any p xs ≡ false → p x ≡ false → list_any p (xs ++ x ∷ []) ≡ false
none_push p [] x h here = neither (p x) false here refl
none_push p (y ∷ xs) x h here = neither (p y) (list_any p (xs ++ x ∷ [])) (neither_left (p y) (list_any p xs) h)
    (none_push p xs x (neither_right (p y) (list_any p xs) h) here)

any_weaker : {A : Type 0} (f g : A → Bool) → ((x : A) → f x ≡ false → g x ≡ false) → (xs : List A) → list_any f xs ≡ false → list_any g xs ≡ false
any_weaker f g weaker [] h = refl
any_weaker f g weaker (x ∷ xs) h =
    neither (g x) (list_any g xs) (weaker x (neither_left (f x) (list_any f xs) h)) (any_weaker f g weaker xs (neither_right (f x) (list_any f xs) h))

no_fault : (b : Bool) (f : Fault) → b ≡ false → fault_if b f ≡ None
no_fault true f h = absurd (cc)
no_fault false f h = refl

neither_fault : (a b : Option Fault) → a ≡ None → b ≡ None → option_or a b ≡ None
neither_fault a b p q = ap (λ o. option_or o b) p ∙ q

pub none_listed : (b : Bool) (f : Fault) → b ≡ true → listed_if (not b) f ≡ []
none_listed true f h = refl
none_listed false f h = absurd (cc)

pub none_listed_if : (b : Bool) (f : Fault) → b ≡ false → listed_if b f ≡ []
none_listed_if true f h = absurd (cc)
none_listed_if false f h = refl

-- one more entry, which has no fault after those before it
pub first_more : {A : Type 0} (f : List A → A → Option Fault) (xs : List A) (x : A) → first_fault f [] xs ≡ None → f xs x ≡ None
    → first_fault f [] (xs ++ x ∷ []) ≡ None
first_more f xs x none here = fault_after f [] xs (x ∷ []) none ∙ neither_fault (f xs x) None here refl

all_push : {A : Type 0} (p : A → Bool) (xs : List A) (x : A) → list_all p xs ≡ true → p x ≡ true → list_all p (xs ++ x ∷ []) ≡ true
all_push p [] x h here = ap (λ b. b && true) here
all_push p (y ∷ xs) x h here = both_true (p y) (list_all p (xs ++ x ∷ [])) (and_left (p y) (list_all p xs) h)
    (all_push p xs x (and_right (p y) (list_all p xs) h) here)

-- a step of a loop over a list
module _ {K A : Type 0} (seen : K → A) (xs : List K) (i : ℕ) (x : K) (within : i < length xs) (is : x ≡ get_or xs i x) where
  pub first_grows : (f : List A → A → Option Fault) → first_fault f [] (map seen (take i xs)) ≡ None → f (map seen (take i xs)) (seen x) ≡ None
      → first_fault f [] (map seen (take (i + 1) xs)) ≡ None
  first_grows f none here = subst (λ ys. first_fault f [] ys ≡ None) (grown_by_one seen xs i x within is)
      (first_more f (map seen (take i xs)) (seen x) none here)

  pub all_grows : (p : A → Bool) → list_all p (map seen (take i xs)) ≡ true → p (seen x) ≡ true → list_all p (map seen (take (i + 1) xs)) ≡ true
  all_grows p all here = subst (λ ys. list_all p ys ≡ true) (grown_by_one seen xs i x within is) (all_push p (map seen (take i xs)) (seen x) all here)

  pub any_grows : (p : A → Bool) → list_any p (map seen (take i xs)) ≡ false → p (seen x) ≡ false → list_any p (map seen (take (i + 1) xs)) ≡ false
  any_grows p none here = subst (λ ys. list_any p ys ≡ false) (grown_by_one seen xs i x within is) (none_push p (map seen (take i xs)) (seen x) none here)

-- ---- arguments

module _ {P : Payloads} where
  pub unclashing : (before : List (Argument P)) (a : Argument P) → list_any (clashes a) before ≡ false → calls.argument_fault before a ≡ None
  unclashing before (t.Positional s e) h =
      neither_fault (calls.misplaced before (t.Positional s e)) None
      (no_fault (list_any (calls.must_precede (t.Positional s e)) before) (miscalled call_rule.PositionalAfterNonPositional s)
      (any_weaker (clashes (t.Positional s e)) (calls.must_precede (t.Positional s e)) (λ b n. n) before h)) refl
  unclashing before (t.Named s w e) h =
      neither_fault (calls.misplaced before (t.Named s w e)) (calls.repeated before (t.Named s w e))
      (no_fault (list_any (calls.must_precede (t.Named s w e)) before) (miscalled call_rule.NamedAfterArgs s)
      (any_weaker (clashes (t.Named s w e)) (calls.must_precede (t.Named s w e)) (λ b n. neither_left (calls.is_unpacked b) (calls.has_name w.text b) n)
      before h))
      (no_fault (list_any (calls.has_name w.text) before) (miscalled call_rule.RepeatedName w.span)
      (any_weaker (clashes (t.Named s w e)) (calls.has_name w.text) (λ b n. neither_right (calls.is_unpacked b) (calls.has_name w.text b) n) before h))
  unclashing before (t.Star s e) h =
      neither_fault (calls.misplaced before (t.Star s e)) None
      (no_fault (list_any (calls.must_precede (t.Star s e)) before) (miscalled call_rule.ArgsAfterArgs s)
      (any_weaker (clashes (t.Star s e)) (calls.must_precede (t.Star s e)) (λ b n. n) before h)) refl
  unclashing before (t.StarStar s e) h =
      neither_fault (calls.misplaced before (t.StarStar s e)) None
      (no_fault (list_any (calls.must_precede (t.StarStar s e)) before) (miscalled call_rule.MultipleKwargs s)
      (any_weaker (clashes (t.StarStar s e)) (calls.must_precede (t.StarStar s e)) (λ b n. n) before h)) refl

-- ---- parameters

and_false : (a b c : Bool) → (a && b) ≡ false → (a && (b && c)) ≡ false
and_false true true c h = absurd (cc)
and_false true false c h = refl
and_false false b c h = refl

any_and : {A : Type 0} (a : Bool) (f : A → Bool) → (xs : List A) → list_any (λ x. a && f x) xs ≡ false → (a && list_any f xs) ≡ false
any_and true f xs h = h
any_and false f xs h = refl

module _ {P : Payloads} where
  -- a plain parameter is allowed after those with which it does not clash
  pub fitting : (before : List (Parameter P)) (s : _) (w : t.Word) (q : P.assign) (ty : t.MaybeType P) (v : t.Maybe P)
      → list_any (misfits w.text (is_given v)) before ≡ false → entry_fault before (t.Normal s w q ty v) ≡ None
  fitting before s w q ty v h =
      let parts = λ (b : Parameter P) (n : misfits w.text (is_given v) b ≡ false). neither_right (parameters.has_name w.text b)
      (parameters.is_kwargs b || (not (is_given v) && parameters.has_default b)) n in
      let named = any_weaker (misfits w.text (is_given v)) (parameters.has_name w.text)
      (λ b n. neither_left (parameters.has_name w.text b) (parameters.is_kwargs b || (not (is_given v) && parameters.has_default b)) n) before h in
      let kwargs = any_weaker (misfits w.text (is_given v)) parameters.is_kwargs
      (λ b n. neither_left (parameters.is_kwargs b) (not (is_given v) && parameters.has_default b) (parts b n)) before h in
      let default = any_weaker (misfits w.text (is_given v)) (λ b. not (is_given v) && parameters.has_default b)
      (λ b n. neither_right (parameters.is_kwargs b) (not (is_given v) && parameters.has_default b) (parts b n)) before h in
      neither_fault (parameters.repeated before (t.Normal s w q ty v)) (parameters.misplaced before (t.Normal s w q ty v))
      (no_fault (list_any (parameters.has_name w.text) before) (misdeclared rule.DuplicateName s) named)
      (neither_fault (fault_if (list_any parameters.is_kwargs before) (misdeclared rule.AfterKwargs s))
      (fault_if (not (is_given v) && (list_any parameters.has_default before && not (list_any parameters.is_starred before)))
      (misdeclared rule.PositionalAfterNonPositional s))
      (no_fault (list_any parameters.is_kwargs before) (misdeclared rule.AfterKwargs s) kwargs)
      (no_fault (not (is_given v) && (list_any parameters.has_default before && not (list_any parameters.is_starred before)))
      (misdeclared rule.PositionalAfterNonPositional s)
      (and_false (not (is_given v)) (list_any parameters.has_default before) (not (list_any parameters.is_starred before))
      (any_and (not (is_given v)) parameters.has_default before default))))

  stars_none : (d : Dialect) (ps : List (Parameter P)) → list_all is_plain ps ≡ true → flat_map (star_faults d) ps ≡ []
  stars_none d [] h = refl
  stars_none d (t.Normal s w q ty v ∷ ps) h = stars_none d ps h
  stars_none d (t.Slash s ∷ ps) h = absurd (cc)
  stars_none d (t.NoArgs s ∷ ps) h = absurd (cc)
  stars_none d (t.Args s w q ty ∷ ps) h = absurd (cc)
  stars_none d (t.KwArgs s w q ty ∷ ps) h = absurd (cc)

  slashes_none : (d : Dialect) (ps : List (Parameter P)) → list_all is_plain ps ≡ true → flat_map (slash_faults d) ps ≡ []
  slashes_none d [] h = refl
  slashes_none d (t.Normal s w q ty v ∷ ps) h = slashes_none d ps h
  slashes_none d (t.Slash s ∷ ps) h = absurd (cc)
  slashes_none d (t.NoArgs s ∷ ps) h = absurd (cc)
  slashes_none d (t.Args s w q ty ∷ ps) h = absurd (cc)
  slashes_none d (t.KwArgs s w q ty ∷ ps) h = absurd (cc)

  no_star : (ps : List (Parameter P)) → list_all is_plain ps ≡ true → star_fault ps ≡ None
  no_star [] h = refl
  no_star (t.Normal s w q ty v ∷ ps) h = no_star ps h
  no_star (t.Slash s ∷ ps) h = absurd (cc)
  no_star (t.NoArgs s ∷ ps) h = absurd (cc)
  no_star (t.Args s w q ty ∷ ps) h = absurd (cc)
  no_star (t.KwArgs s w q ty ∷ ps) h = absurd (cc)

  no_slash : (ps : List (Parameter P)) → list_all is_plain ps ≡ true → slash_first ps ≡ None
  no_slash [] h = refl
  no_slash (t.Normal s w q ty v ∷ ps) h = refl
  no_slash (t.Slash s ∷ ps) h = absurd (cc)
  no_slash (t.NoArgs s ∷ ps) h = refl
  no_slash (t.Args s w q ty ∷ ps) h = refl
  no_slash (t.KwArgs s w q ty ∷ ps) h = refl

  not_many : (ps : List (Parameter P)) → length ps ≤ 32 → too_many ps ≡ None
  not_many ps few = no_fault (nat_lt (2 ^ 32 - 1) (length ps)) (misdeclared rule.TooMany (whole ps)) (grind (arith, nat_tests))

  pub plain_clean : (d : Dialect) (ps : List (Parameter P)) → length ps ≤ 32 → list_all is_plain ps ≡ true → first_fault entry_fault [] ps ≡ None
      → params_faults d ps ≡ []
  plain_clean d ps few plain fits =
      both (stars_none d ps plain) (both (slashes_none d ps plain)
      (ap option_to_list (neither_fault (too_many ps) (option_or (slash_first ps) (option_or (first_fault entry_fault [] ps) (star_fault ps))) (not_many ps few)
      (neither_fault (slash_first ps) (option_or (first_fault entry_fault [] ps) (star_fault ps)) (no_slash ps plain)
      (neither_fault (first_fault entry_fault [] ps) (star_fault ps) fits (no_star ps plain))))))

module _ {P A B C D E : Type 0} (s : Span) (name : Spanned (AssignIdentP P A B C D E)) where
  pub normal_fits : (ty : Option (Box (Spanned (TypeExprP P A B C D E)) Global)) (default : Option (Box (Spanned (ExprP P A B C D E)) Global))
      (before : List (Parameter (payloads A B C D E)))
      → list_any (misfits (string_bytes name.node.ident) (is_some default)) before ≡ false
      → entry_fault before (parameter_seen s (parameter.Normal name ty default)) ≡ None
  normal_fits None None before h = fitting before s (assign_word name) name.node.payload t.no_type t.absent h
  normal_fits None (Some d) before h = fitting before s (assign_word name) name.node.payload t.no_type (t.present (expression_of d.value)) h
  normal_fits (Some ty) None before h = fitting before s (assign_word name) name.node.payload (type_of ty.value) t.absent h
  normal_fits (Some ty) (Some d) before h = fitting before s (assign_word name) name.node.payload (type_of ty.value) (t.present (expression_of d.value)) h

-- a statement that is not allowed at the top, if it is not there or the dialect allows it
pub none_at_top : (at_top enabled : Bool) (f : Fault) → (not at_top || enabled) ≡ true → listed_if (at_top && not enabled) f ≡ []
none_at_top true true f h = refl
none_at_top true false f h = absurd (cc)
none_at_top false enabled f h = refl
