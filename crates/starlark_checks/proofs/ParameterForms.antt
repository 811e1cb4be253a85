-- The parameters of the tree, one after another.
use Rattle.std.proofs.Common.{◌≡◌, ℕ, ◌<◌, ◌+◌, ◌≤◌, zero, List as Seq, [], ◌∷◌, ◌++◌, map, length, take, drop, get_or, Bool, true, false, cond, ◌||◌, Option}
use Rattle.std.proofs.Common.{Some, None, slice_get, option_copied, option_map, is_some, IfSome, ltb, ltb-true, string_bytes, suc, append_assoc, append-nil}
use Rattle.std.proofs.Common.{add-one, drop-cons, refl, ap, sym, ◌∙◌, arith}
use Rattle.std.specs.List.{list_any, cons_option, position_from}
use Rattle.std.specs.Option.{option_or}
use Rattle.std.specs.Str.{bytes_eq}
use Rattle.std.proofs.lemmas.List.Folds.{list_any-append}
use denote.Ref.{Bor}
use Rattle.std.proofs.lemmas.Bool.{ltb-false}
use Rattle.std.proofs.lemmas.Option.{slice_get-map, slice_get-get_or, slice_get_past}
use Rattle.std.proofs.lemmas.List.{at_drop_all, length-map, map-append, take_more, take-append-drop}
use Rattle.starlark_lexer.specs.Tokens.{Text, Span, span_of}
use Rattle.starlark_lexer.specs.declared.span.Spanned.{Spanned}
use Rattle.starlark_tree.specs.Ast as t
use Rattle.starlark_tree.specs.Ast.{Payloads, Parameter}
use Rattle.starlark_tree.specs.Parts.{parameter_name}
use Rattle.starlark_tree.specs.Views.{parameter_of, parameter_seen, payloads}
use Rattle.starlark_tree.specs.declared.ast.AssignIdentP.{AssignIdentP}
use Rattle.starlark_tree.specs.declared.ast.ParameterP
use Rattle.starlark_spec.specs.Faults.{Fault}
use Rattle.starlark_checks.specs.Faults.{fault_if, first_fault}
use Rattle.starlark_checks.specs.Parameters.{Named, entry_fault, has_name, is_slash, misdeclared, misplaced, mode, named, named_after, named_of, repeated}
use Rattle.starlark_checks.specs.Parameters.{are_args, are_kwargs, takes_of, slash_first, star_alone, star_fault, unmarked}
use Rattle.starlark_checks.specs.Walks.Parameters.{among, misplaced_after, mode_after, with}
use Rattle.starlark_checks.specs.declared.def.Before.{Before}
use Rattle.starlark_checks.specs.declared.def.DefParam.{DefParam}
use Rattle.starlark_checks.specs.declared.def.DefParamKind.{DefParamKind}
use Rattle.starlark_checks.specs.declared.def.DefParamKind.TheVariants as kind
use Rattle.starlark_checks.specs.declared.def.DefRegularParamMode.{DefRegularParamMode}
use Rattle.starlark_spec.specs.declared.error.ParamsError.TheVariants as rule
use Rattle.starlark_spec.proofs.Constructors.{not_some}
use Rattle.starlark_checks.proofs.FaultLemmas.{fault_after, first_fault-append}
use Rattle.starlark_checks.proofs.ParameterLemmas.{any_more, misplaced_among, with_among, mode_next, mode_same, neither, no_more, or_true}

first_dropped : {A : Type 0} (xs : Seq A) (k : ℕ) → slice_get (drop k xs) 0 ≡ slice_get xs k
first_dropped [] zero = refl
first_dropped [] (suc k) = refl
first_dropped (x ∷ xs) zero = refl
first_dropped (x ∷ xs) (suc k) = first_dropped xs k

-- what was read at an index
pub got_at : {A : Type 0} (r : Option (Bor A)) (xs : Seq A) (k : ℕ) → is_some r ≡ ltb k (length xs) → IfSome r (λ x. x.now ≡ get_or xs k x.now)
    → option_copied r ≡ slice_get xs k
got_at None xs k there is = sym (slice_get_past xs k (ltb-false k (length xs) (sym there)))
got_at (Some x) xs k there is = ap Some is ∙ sym (slice_get-get_or xs k x.now (ltb-true k (length xs) (sym there)))

pub nothing_made : {A B : Type 0} (f : A → B) (o : Option A) → ((x : A) → o ≡ Some x → ⊥) → option_map f o ≡ None
nothing_made f None none = refl
nothing_made f (Some x) none = absurd (none x refl)

module _ {A B : Type 0} (f : A → B) (xs : Seq A) (i : ℕ) (a : A) (within : i < length xs) (is : a ≡ get_or xs i a) where
  -- what is left begins with the item
  pub first_left : map f (drop i xs) ≡ f a ∷ map f (drop (i + 1) xs)
  first_left = ap (map f) (drop-cons xs i a within ∙ ap (λ b. b ∷ drop (suc i) xs) (sym is)) ∙ ap (λ j. f a ∷ map f (drop j xs)) (sym (add-one i))

  pub found_later : (test : B → Bool) (n : ℕ) → test (f a) ≡ false → position_from test n (map f (drop i xs)) ≡ position_from test (n + 1)
      (map f (drop (i + 1) xs))
  found_later test n other = ap (position_from test n) first_left ∙ ap (λ b. cond b (Some n) (position_from test (n + 1) (map f (drop (i + 1) xs)))) other

  pub found_here : (test : B → Bool) (n : ℕ) → test (f a) ≡ true → position_from test n (map f (drop i xs)) ≡ Some n
  found_here test n this = ap (position_from test n) first_left ∙ ap (λ b. cond b (Some n) (position_from test (n + 1) (map f (drop (i + 1) xs)))) this

pub found_nowhere : {A B : Type 0} (f : A → B) (xs : Seq A) (i : ℕ) (test : B → Bool) (n : ℕ) → length xs ≤ i → position_from test n (map f (drop i xs)) ≡ None
found_nowhere f xs i test n past = at_drop_all (λ ys. position_from test n (map f ys)) xs i past

either_known : (b c : Bool) → (b || c) ≡ cond b true c
either_known true c = refl
either_known false c = refl

pushed : {A B : Type 0} (f : A → B) (items : Seq A) (x : A) (rest all more : Seq B) → more ≡ f x ∷ rest → map f items ++ more ≡ all → map f (items ++ x ∷ [])
    ++ rest ≡ all
pushed f items x rest all more is before =
    ap (λ ys. ys ++ rest) (map-append f items (x ∷ [])) ∙ append_assoc (map f items) (f x ∷ []) rest ∙ ap (λ ys. map f items ++ ys) (sym is) ∙ before

after_none : {P : Payloads} (ps qs : Seq (Parameter P)) → first_fault entry_fault [] (ps ++ qs) ≡ None → first_fault entry_fault ps qs ≡ None
after_none ps qs is = (neither (first_fault entry_fault [] ps) (first_fault entry_fault ps qs) (sym (first_fault-append entry_fault [] ps qs) ∙ is)).1

module _ {P A B C D E : Type 0} where
  pub span_seen : (s : Span) (p : ParameterP.ParameterP P A B C D E) → t.parameter_span (parameter_seen s p) ≡ s
  span_seen s ParameterP.Slash = refl
  span_seen s (ParameterP.Normal' name ty default) = refl
  span_seen s ParameterP.NoArgs = refl
  span_seen s (ParameterP.Args' name ty) = refl
  span_seen s (ParameterP.KwArgs' name ty) = refl

  module _ (s : Span) (name : Spanned (AssignIdentP P A B C D E)) where
    pub repeated_with : (node : ParameterP.ParameterP P A B C D E) → Some name ≡ parameter_name node → (before : Seq (Parameter (payloads A B C D E)))
        → repeated before (parameter_seen s node) ≡ fault_if (list_any (has_name (string_bytes name.node.ident)) before) (misdeclared rule.DuplicateName s)
    repeated_with ParameterP.Slash is before = absurd (cc)
    repeated_with (ParameterP.Normal' w ty default) is before = let same : w ≡ name = cc in
        ap (λ (n : Spanned (AssignIdentP P A B C D E)). fault_if (list_any (has_name (string_bytes n.node.ident)) before) (misdeclared rule.DuplicateName s))
        same
    repeated_with ParameterP.NoArgs is before = absurd (cc)
    repeated_with (ParameterP.Args' w ty) is before = let same : w ≡ name = cc in
        ap (λ (n : Spanned (AssignIdentP P A B C D E)). fault_if (list_any (has_name (string_bytes n.node.ident)) before) (misdeclared rule.DuplicateName s))
        same
    repeated_with (ParameterP.KwArgs' w ty) is before = let same : w ≡ name = cc in
        ap (λ (n : Spanned (AssignIdentP P A B C D E)). fault_if (list_any (has_name (string_bytes n.node.ident)) before) (misdeclared rule.DuplicateName s))
        same

    pub named_with : (node : ParameterP.ParameterP P A B C D E) → Some name ≡ parameter_name node → (text : Text) → has_name text (parameter_seen s node)
        ≡ bytes_eq (string_bytes name.node.ident) text
    named_with ParameterP.Slash is text = absurd (cc)
    named_with (ParameterP.Normal' w ty default) is text = let same : w ≡ name = cc in
        ap (λ (n : Spanned (AssignIdentP P A B C D E)). bytes_eq (string_bytes n.node.ident) text) same
    named_with ParameterP.NoArgs is text = absurd (cc)
    named_with (ParameterP.Args' w ty) is text = let same : w ≡ name = cc in
        ap (λ (n : Spanned (AssignIdentP P A B C D E)). bytes_eq (string_bytes n.node.ident) text) same
    named_with (ParameterP.KwArgs' w ty) is text = let same : w ≡ name = cc in
        ap (λ (n : Spanned (AssignIdentP P A B C D E)). bytes_eq (string_bytes n.node.ident) text) same

  module _ (s : Span) where
    pub never_repeated : (node : ParameterP.ParameterP P A B C D E) → None ≡ parameter_name node → (before : Seq (Parameter (payloads A B C D E)))
        → repeated before (parameter_seen s node) ≡ None
    never_repeated ParameterP.Slash is before = refl
    never_repeated (ParameterP.Normal' w ty default) is before = absurd (cc)
    never_repeated ParameterP.NoArgs is before = refl
    never_repeated (ParameterP.Args' w ty) is before = absurd (cc)
    never_repeated (ParameterP.KwArgs' w ty) is before = absurd (cc)

    pub nameless : (node : ParameterP.ParameterP P A B C D E) → None ≡ parameter_name node → (text : Text) → has_name text (parameter_seen s node) ≡ false
    nameless ParameterP.Slash is text = refl
    nameless (ParameterP.Normal' w ty default) is text = absurd (cc)
    nameless ParameterP.NoArgs is text = refl
    nameless (ParameterP.Args' w ty) is text = absurd (cc)
    nameless (ParameterP.KwArgs' w ty) is text = absurd (cc)

  module _ (xs : Seq (Spanned (ParameterP.ParameterP P A B C D E))) (i : ℕ) (a : Spanned (ParameterP.ParameterP P A B C D E)) (within : i < length xs)
      (is : a ≡ get_or xs i a) where
    abbrev pub taken : Seq (Parameter (payloads A B C D E))
    taken = map parameter_of (take i xs)

    abbrev pub left : Seq (Parameter (payloads A B C D E))
    left = map parameter_of (drop (i + 1) xs)

    pub taken_more : map parameter_of (take (i + 1) xs) ≡ taken ++ parameter_of a ∷ []
    taken_more = ap (map parameter_of) (take_more xs i a within) ∙ map-append parameter_of (take i xs) (get_or xs i a ∷ [])
        ∙ ap (λ b. taken ++ parameter_of b ∷ []) (sym is)

    pub left_first : map parameter_of (drop i xs) ≡ parameter_of a ∷ left
    left_first = first_left parameter_of xs i a within is

    pub whole_seen : map parameter_of xs ≡ taken ++ (parameter_of a ∷ left)
    whole_seen = ap (map parameter_of) (sym (take-append-drop i xs)) ∙ map-append parameter_of (take i xs) (drop i xs) ∙ ap (λ ys. taken ++ ys) left_first

    module _ (none : first_fault entry_fault [] taken ≡ None) where
      pub refused_here : (f : Fault) → entry_fault taken (parameter_of a) ≡ Some f → first_fault entry_fault [] (map parameter_of xs) ≡ Some f
      refused_here f fault =
          ap (first_fault entry_fault []) whole_seen ∙ fault_after entry_fault [] taken (parameter_of a ∷ left) none
          ∙ ap (λ r. option_or r (first_fault entry_fault (taken ++ parameter_of a ∷ []) left)) fault

      pub none_more : entry_fault taken (parameter_of a) ≡ None → first_fault entry_fault [] (map parameter_of (take (i + 1) xs)) ≡ None
      none_more fits =
          ap (first_fault entry_fault []) taken_more ∙ fault_after entry_fault [] taken (parameter_of a ∷ []) none ∙ ap (λ r. option_or r None) fits

    pub known_more : (text : Text) → list_any (has_name text) (map parameter_of (take (i + 1) xs))
        ≡ (has_name text (parameter_of a) || list_any (has_name text) taken)
    known_more text = ap (list_any (has_name text)) taken_more ∙ sym (any_more (has_name text) taken (parameter_of a))

    -- an entry that has a name
    module _ (name : Spanned (AssignIdentP P A B C D E)) (named : Some name ≡ parameter_name a.node) where
      pub twice : list_any (has_name (string_bytes name.node.ident)) taken ≡ true → entry_fault taken (parameter_of a)
          ≡ Some (misdeclared rule.DuplicateName (span_of a.span))
      twice known =
          ap (λ r. option_or r (misplaced taken (parameter_of a)))
          (repeated_with (span_of a.span) name a.node named taken ∙ ap (λ b. fault_if b (misdeclared rule.DuplicateName (span_of a.span))) known)

      pub once : list_any (has_name (string_bytes name.node.ident)) taken ≡ false → repeated taken (parameter_of a) ≡ None
      once new = repeated_with (span_of a.span) name a.node named taken ∙ ap (λ b. fault_if b (misdeclared rule.DuplicateName (span_of a.span))) new

      pub known_with : (text : Text) → list_any (has_name text) (map parameter_of (take (i + 1) xs)) ≡ cond (bytes_eq (string_bytes name.node.ident) text)
          true (list_any (has_name text) taken)
      known_with text =
          known_more text ∙ ap (λ b. b || list_any (has_name text) taken) (named_with (span_of a.span) name a.node named text)
          ∙ either_known (bytes_eq (string_bytes name.node.ident) text) (list_any (has_name text) taken)

    -- an entry without a name
    pub still_known : None ≡ parameter_name a.node → (text : Text) → list_any (has_name text) (map parameter_of (take (i + 1) xs))
        ≡ list_any (has_name text) taken
    still_known unnamed text = known_more text ∙ ap (λ b. b || list_any (has_name text) taken) (nameless (span_of a.span) a.node unnamed text)

    -- for an entry whose name is new
    pub fault_here : (b : Before) → b ≡ among taken → repeated taken (parameter_of a) ≡ None → entry_fault taken (parameter_of a)
        ≡ misplaced_after b (parameter_of a)
    fault_here b same new = ap (λ r. option_or r (misplaced taken (parameter_of a))) new ∙ sym (misplaced_among taken (parameter_of a))
        ∙ ap (λ c. misplaced_after c (parameter_of a)) (sym same)

    pub before_more : (b : Before) → b ≡ among taken → with b (parameter_of a) ≡ among (map parameter_of (take (i + 1) xs))
    before_more b same = ap (λ c. with c (parameter_of a)) same ∙ with_among taken (parameter_of a) ∙ ap among (sym taken_more)

    -- for a list each entry of which is allowed where it is
    module _ (none : first_fault entry_fault [] (map parameter_of xs) ≡ None) where
      left_none : first_fault entry_fault taken (parameter_of a ∷ left) ≡ None
      left_none = after_none taken (parameter_of a ∷ left) (ap (first_fault entry_fault []) (sym whole_seen) ∙ none)

      pub mode_more : (m : DefRegularParamMode) → m ≡ mode taken (map parameter_of (drop i xs)) → mode_after m (parameter_of a)
          ≡ mode (map parameter_of (take (i + 1) xs)) left
      mode_more m same =
          ap (λ n. mode_after n (parameter_of a)) (same ∙ ap (mode taken) left_first) ∙ mode_next taken (parameter_of a) left left_none
          ∙ ap (λ ps. mode ps left) (sym taken_more)

      -- the list continues with what the entry becomes
      pub named_more : (m : DefRegularParamMode) (o : Option (Named (payloads A B C D E))) → m ≡ mode taken (map parameter_of (drop i xs))
          → o ≡ unmarked (mode_after m (parameter_of a)) (parameter_of a)
          → named_after taken (map parameter_of (drop i xs)) ≡ cons_option o (named_after (map parameter_of (take (i + 1) xs)) left)
      named_more m o same made =
          ap (named_after taken) left_first
          ∙ ap (λ u. cons_option u (named_after (taken ++ parameter_of a ∷ []) left))
          (sym (mode_same taken (parameter_of a) left) ∙ ap (λ ps. unmarked (mode ps left) (parameter_of a)) (sym taken_more)
          ∙ ap (λ n. unmarked n (parameter_of a)) (sym (mode_more m same)) ∙ sym made)
          ∙ ap (λ ps. cons_option o (named_after ps left)) (sym taken_more)

      -- the parameters so far continue
      pub joined_some : (m : DefRegularParamMode) (ds : Seq (Spanned (DefParam P A B C D E))) (d : Spanned (DefParam P A B C D E))
          (all : Seq (Named (payloads A B C D E))) → m ≡ mode taken (map parameter_of (drop i xs))
          → Some (named_of d) ≡ unmarked (mode_after m (parameter_of a)) (parameter_of a)
          → map named_of ds ++ named_after taken (map parameter_of (drop i xs)) ≡ all
          → map named_of (ds ++ d ∷ []) ++ named_after (map parameter_of (take (i + 1) xs)) left ≡ all
      joined_some m ds d all same made before =
          pushed named_of ds d (named_after (map parameter_of (take (i + 1) xs)) left) all (named_after taken (map parameter_of (drop i xs)))
          (named_more m (Some (named_of d)) same made) before

      pub joined_none : (m : DefRegularParamMode) (ds : Seq (Spanned (DefParam P A B C D E))) (all : Seq (Named (payloads A B C D E)))
          → m ≡ mode taken (map parameter_of (drop i xs))
          → None ≡ unmarked (mode_after m (parameter_of a)) (parameter_of a) → map named_of ds ++ named_after taken (map parameter_of (drop i xs)) ≡ all
          → map named_of ds ++ named_after (map parameter_of (take (i + 1) xs)) left ≡ all
      joined_none m ds all same made before = ap (λ ys. map named_of ds ++ ys) (sym (named_more m None same made)) ∙ before

  -- after the last entry
  pub all_named : (xs : Seq (Spanned (ParameterP.ParameterP P A B C D E))) (i : ℕ) (ds : Seq (Spanned (DefParam P A B C D E)))
      (all : Seq (Named (payloads A B C D E))) → length xs ≤ i
      → map named_of ds ++ named_after (map parameter_of (take i xs)) (map parameter_of (drop i xs)) ≡ all → map named_of ds ≡ all
  all_named xs i ds all past before =
      sym (append-nil (map named_of ds)) ∙ sym (at_drop_all (λ ys. map named_of ds ++ named_after (map parameter_of (take i xs)) (map parameter_of ys)) xs i
      past) ∙ before

  -- an entry of another form
  module _ (s : Span) where
    pub not_slash : (node : ParameterP.ParameterP P A B C D E) → (node ≡ ParameterP.Slash → ⊥) → is_slash (parameter_seen s node) ≡ false
    not_slash ParameterP.Slash other = absurd (other refl)
    not_slash (ParameterP.Normal' w ty default) other = refl
    not_slash ParameterP.NoArgs other = refl
    not_slash (ParameterP.Args' w ty) other = refl
    not_slash (ParameterP.KwArgs' w ty) other = refl

    not_first : (node : ParameterP.ParameterP P A B C D E) → (node ≡ ParameterP.Slash → ⊥) → (ps : Seq (Parameter (payloads A B C D E)))
        → slash_first (parameter_seen s node ∷ ps) ≡ None
    not_first ParameterP.Slash other ps = absurd (other refl)
    not_first (ParameterP.Normal' w ty default) other ps = refl
    not_first ParameterP.NoArgs other ps = refl
    not_first (ParameterP.Args' w ty) other ps = refl
    not_first (ParameterP.KwArgs' w ty) other ps = refl

  module _ (xs : Seq (Spanned (ParameterP.ParameterP P A B C D E))) (i : ℕ) (a : Spanned (ParameterP.ParameterP P A B C D E)) (within : i < length xs)
      (is : a ≡ get_or xs i a) where
    pub any_here : (test : Parameter (payloads A B C D E) → Bool) → test (parameter_of a) ≡ true → list_any test (map parameter_of xs) ≡ true
    any_here test here =
        ap (list_any test) (whole_seen xs i a within is) ∙ list_any-append test (taken xs i a within is) (parameter_of a ∷ left xs i a within is)
        ∙ ap (λ b. list_any test (taken xs i a within is) || (b || list_any test (left xs i a within is))) here
        ∙ or_true (list_any test (taken xs i a within is)) true refl

    pub none_here : (test : Parameter (payloads A B C D E) → Bool) → list_any test (map parameter_of (take i xs)) ≡ false → test (parameter_of a) ≡ false
        → list_any test (map parameter_of (take (i + 1) xs)) ≡ false
    none_here test none other =
        ap (list_any test) (taken_more xs i a within is) ∙ sym (any_more test (taken xs i a within is) (parameter_of a))
        ∙ ap (λ b. b || list_any test (map parameter_of (take i xs))) other ∙ none

    star_here : star_fault (map parameter_of (drop i xs)) ≡ option_or (star_alone (parameter_of a) (option_map parameter_of (slice_get xs (i + 1))))
        (star_fault (left xs i a within is))
    star_here =
        ap star_fault (left_first xs i a within is)
        ∙ ap (λ next. option_or (star_alone (parameter_of a) next) (star_fault (left xs i a within is))) (slice_get-map parameter_of (drop (i + 1) xs) 0
        ∙ ap (option_map parameter_of) (first_dropped xs (i + 1)))

    -- if the entry is not such a `*`, the fault is that of what is left, and otherwise its own
    pub star_later : {o : Option Fault} → o ≡ star_alone (parameter_of a) (option_map parameter_of (slice_get xs (i + 1))) → o ≡ None
        → star_fault (map parameter_of (drop i xs)) ≡ star_fault (map parameter_of (drop (i + 1) xs))
    star_later here none = star_here ∙ ap (λ o. option_or o (star_fault (left xs i a within is))) (sym here ∙ none)

    pub star_now : {f : Fault} → Some f ≡ star_alone (parameter_of a) (option_map parameter_of (slice_get xs (i + 1)))
        → star_fault (map parameter_of (drop i xs)) ≡ Some f
    star_now here = star_here ∙ ap (λ o. option_or o (star_fault (left xs i a within is))) (sym here)

  -- the first entry is a `/`
  pub slash_is_first : (xs : Seq (Spanned (ParameterP.ParameterP P A B C D E))) (a : Spanned (ParameterP.ParameterP P A B C D E)) → Some a ≡ slice_get xs 0
      → a.node ≡ ParameterP.Slash → slash_first (map parameter_of xs) ≡ Some (misdeclared rule.SlashFirst (span_of a.span))
  slash_is_first [] a is slash = not_some (sym is)
  slash_is_first (x ∷ xs) a is slash =
      let same : x ≡ a = cc in
      ap (λ (b : Spanned (ParameterP.ParameterP P A B C D E)). slash_first (parameter_of b ∷ map parameter_of xs)) same
      ∙ ap (λ n. slash_first (parameter_seen (span_of a.span) n ∷ map parameter_of xs)) slash

  -- the first entry is another one
  pub other_first : (xs : Seq (Spanned (ParameterP.ParameterP P A B C D E))) (a : Spanned (ParameterP.ParameterP P A B C D E)) → Some a ≡ slice_get xs 0
      → (a.node ≡ ParameterP.Slash → ⊥)
      → slash_first (map parameter_of xs) ≡ None
  other_first [] a is other = refl
  other_first (x ∷ xs) a is other =
      let same : x ≡ a = cc in
      ap (λ (b : Spanned (ParameterP.ParameterP P A B C D E)). slash_first (parameter_of b ∷ map parameter_of xs)) same
      ∙ not_first (span_of a.span) a.node other (map parameter_of xs)

  -- the parameters are no more than the entries
  pub fewer : (ds : Seq (Spanned (DefParam P A B C D E))) (ps : Seq (Spanned (ParameterP.ParameterP P A B C D E)))
      → map named_of ds ≡ named (map parameter_of ps) → length ds ≤ length ps
  fewer ds ps same =
      let most = no_more [] (map parameter_of ps) in
      let long = ap length same in
      let one = length-map ds named_of in
      let other = length-map ps parameter_of in omega arith

-- a parameter that takes what a form of it takes
module _ {P A B C D E : Type 0} where
  pub not_args : (k : DefParamKind P A B C D E) → (k ≡ kind.Args → ⊥) → are_args (takes_of k) ≡ false
  not_args (kind.Regular m v) other = refl
  not_args kind.Args other = absurd (other refl)
  not_args kind.Kwargs other = refl

  pub not_kwargs : (k : DefParamKind P A B C D E) → (k ≡ kind.Kwargs → ⊥) → are_kwargs (takes_of k) ≡ false
  not_kwargs (kind.Regular m v) other = refl
  not_kwargs kind.Args other = refl
  not_kwargs kind.Kwargs other = absurd (other refl)
