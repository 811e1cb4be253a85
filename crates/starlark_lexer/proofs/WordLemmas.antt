-- Words and operators in their tables.
use Rattle.std.proofs.Common.{◌≡◌, ◌↔◌, ◌||◌, IsTrue, ℕ, ◌<◌, length, nat_le, ◌==◌, ◌&&◌, Bool, true, false, cond, get_or, arith, List, [], ◌∷◌, Option, Some}
use Rattle.std.proofs.Common.{None, option_map, unwrap_or, IfSome, refl, sym, ap, ◌∙◌, subst, inl, inr, eqb-true}
use Rattle.std.proofs.lemmas.Bool.{and_parts, or_from, false_from_ne_true, false≢true, cases_Bool, cond-true, cond-false}
use Rattle.std.proofs.lemmas.Bool.Decides.{nat_tests}
use Rattle.std.proofs.lemmas.Option.{none-some}
use Rattle.std.specs.List.{list_any}
use Rattle.starlark_lexer.specs.Tokens.{Text, Terminal}
use Rattle.starlark_lexer.specs.Words.{spelling, same_text, is_spelled, spelled_so, keyword, keywords, is_reserved, reserved_words}

same_text-true : (x y : Text) → same_text x y ≡ true → x ≡ y
same_text-true [] [] e = refl
same_text-true [] (y ∷ ys) e = cc
same_text-true (x ∷ xs) [] e = cc
same_text-true (x ∷ xs) (y ∷ ys) e =
    let parts = and_parts _ _ e in
    let head = eqb-true x y parts.0 in
    let tail = same_text-true xs ys parts.1 in
    cc

-- the text is not one of the words
abbrev pub IsNoneOf : Text → List Text → Type 0
IsNoneOf text [] = Unit {0}
IsNoneOf text (w ∷ ws) = (text ≡ w → ⊥) × IsNoneOf text ws

pub none_among : (text : Text) (words : List Text) → IsNoneOf text words → list_any (same_text text) words ≡ false
none_among text [] h = refl
none_among text (w ∷ ws) h =
    or_from _ _ (false_from_ne_true _ (λ e. h.0 (same_text-true text w e))) (none_among text ws h.1)

or_left : (a b : Bool) → a ≡ true → (a || b) ≡ true
or_left a b e = rw e refl

or_first : (a b : Bool) → a ≡ false → (a || b) ≡ b
or_first a b e = rw e refl

same_text-itself : (x : Text) → same_text x x ≡ true
same_text-itself [] = refl
same_text-itself (x ∷ xs) = grind (arith, nat_tests, same_text-itself xs)

-- a test for one word is the test for the list of that word
pub alone_among : (b : Bool) (text w : Text) → (IsTrue b ↔ (text ≡ w)) → b ≡ list_any (same_text text) (w ∷ [])
alone_among true text w same = sym (or_left _ _ (ap (same_text text) (sym (same.0 refl)) ∙ same_text-itself text))
alone_among false text w same = sym (or_from _ _ (false_from_ne_true _ (λ e. false≢true (same.1 (same_text-true text w e)))) refl)

-- and so is the test for the second of two words, if the text is not the first
pub second_among : (b : Bool) (text v w : Text) → (text ≡ v → ⊥) → (IsTrue b ↔ (text ≡ w)) → b ≡ list_any (same_text text) (v ∷ w ∷ [])
second_among b text v w other same = alone_among b text w same ∙ sym (or_first _ _ (false_from_ne_true _ (λ e. other (same_text-true text v e))))

-- no token of the table has this spelling
abbrev pub IsNotSpelled : Text → List Terminal → Type 0
IsNotSpelled text [] = Unit {0}
IsNotSpelled text (t ∷ ts) = IfSome (spelling t) (λ w. text ≡ w → ⊥) × IsNotSpelled text ts

not_spelled : (text : Text) (o : Option Text) → IfSome o (λ w. text ≡ w → ⊥) → unwrap_or (option_map (same_text text) o) false ≡ false
not_spelled text None h = refl
not_spelled text (Some w) h = false_from_ne_true _ (λ e. h (same_text-true text w e))

pub none_spelled : (text : Text) (ts : List Terminal) → IsNotSpelled text ts → None ≡ spelled_so text ts
none_spelled text [] h = refl
none_spelled text (t ∷ ts) h = none_spelled text ts h.1 ∙ sym (cond-false (is_spelled text t) (Some t) (spelled_so text ts) (not_spelled text (spelling t) h.0))

spelled_as : (text : Text) (o : Option Text) → unwrap_or (option_map (same_text text) o) false ≡ true → IfSome o (λ w. w ≡ text)
spelled_as text None e = absurd (false≢true e)
spelled_as text (Some w) e = sym (same_text-true text w e)

some_inj : (t u : Terminal) → Some t ≡ Some u → t ≡ u
some_inj t u e = ap (λ o. unwrap_or o t) e

-- a token found in a table has this spelling
pub spelled_so-spelled : (text : Text) (ts : List Terminal) (t : Terminal) → spelled_so text ts ≡ Some t → IfSome (spelling t) (λ w. w ≡ text)
spelled_so-spelled text [] t e = absurd (none-some _ e)
spelled_so-spelled text (u ∷ ts) t e =
    elim (cases_Bool (is_spelled text u)) [
      | inl on ↦ let same : u ≡ t = some_inj u t (sym (cond-true (is_spelled text u) (Some u) (spelled_so text ts) on) ∙ e) in
          subst (λ x. IfSome (spelling x) (λ w. w ≡ text)) same (spelled_as text (spelling u) on)
      | inr off ↦ spelled_so-spelled text ts t (sym (cond-false (is_spelled text u) (Some u) (spelled_so text ts) off) ∙ e)
    ]

-- ---- the first byte of a text leaves few words of a table

abbrev pub begins_with : ℕ → Terminal → Bool
begins_with b t = unwrap_or (option_map (λ w. get_or w 0 0 == b) (spelling t)) false

-- the tokens of a table whose spelling begins with this byte
abbrev pub beginning : ℕ → List Terminal → List Terminal
beginning b [] = []
beginning b (t ∷ ts) = cond (begins_with b t) (t ∷ beginning b ts) (beginning b ts)

same_first : (text w : Text) (b : ℕ) → get_or text 0 0 ≡ b → text ≡ w → get_or w 0 0 ≡ b
same_first text w b first same = ap (λ x. get_or x 0 0) (sym same) ∙ first

not_begun : (text : Text) (b : ℕ) (o : Option Text) → get_or text 0 0 ≡ b → unwrap_or (option_map (λ w. get_or w 0 0 == b) o) false ≡ false
    → unwrap_or (option_map (same_text text) o) false ≡ false
not_begun text b None first e = refl
not_begun text b (Some w) first e =
    false_from_ne_true _ (λ s. let same = same_first text w b first (same_text-true text w s) in absurd (grind (arith, nat_tests)))

pub spelled_so-beginning : (text : Text) (b : ℕ) (ts : List Terminal) → get_or text 0 0 ≡ b → spelled_so text ts ≡ spelled_so text (beginning b ts)
spelled_so-beginning text b [] first = refl
spelled_so-beginning text b (t ∷ ts) first =
    elim (cases_Bool (begins_with b t)) [
      | inl on ↦ rw (on, spelled_so-beginning text b ts first) refl
      | inr off ↦ rw off (cond-false (is_spelled text t) (Some t) (spelled_so text ts) (not_begun text b (spelling t) first off)
          ∙ spelled_so-beginning text b ts first)
    ]

-- no word of the table begins with this byte
abbrev pub IsFirstOfNone : ℕ → List Terminal → Type 0
IsFirstOfNone b [] = Unit {0}
IsFirstOfNone b (t ∷ ts) = IfSome (spelling t) (λ w. b ≡ get_or w 0 0 → ⊥) × IsFirstOfNone b ts

other_first : (text : Text) (b : ℕ) (o : Option Text) → get_or text 0 0 ≡ b → IfSome o (λ w. b ≡ get_or w 0 0 → ⊥) → IfSome o (λ w. text ≡ w → ⊥)
other_first text b None first h = h
other_first text b (Some w) first h = λ same. h (sym (same_first text w b first same))

other_firsts : (text : Text) (b : ℕ) (ts : List Terminal) → get_or text 0 0 ≡ b → IsFirstOfNone b ts → IsNotSpelled text ts
other_firsts text b [] first h = tt
other_firsts text b (t ∷ ts) first h = (other_first text b (spelling t) first h.0, other_firsts text b ts first h.1)

pub none_begins : (text : Text) (b : ℕ) (ts : List Terminal) → get_or text 0 0 ≡ b → IsFirstOfNone b ts → None ≡ spelled_so text ts
none_begins text b ts first h = none_spelled text ts (other_firsts text b ts first h)

-- the words that begin with this byte
abbrev pub words_beginning : ℕ → List Text → List Text
words_beginning b [] = []
words_beginning b (w ∷ ws) = cond (get_or w 0 0 == b) (w ∷ words_beginning b ws) (words_beginning b ws)

pub among-beginning : (text : Text) (b : ℕ) (words : List Text) → get_or text 0 0 ≡ b → list_any (same_text text) words ≡ list_any (same_text text)
    (words_beginning b words)
among-beginning text b [] first = refl
among-beginning text b (w ∷ ws) first =
    elim (cases_Bool (get_or w 0 0 == b)) [
      | inl on ↦ rw (on, among-beginning text b ws first) refl
      | inr off ↦ let other : same_text text w ≡ false =
          false_from_ne_true _ (λ s. let same = same_first text w b first (same_text-true text w s) in absurd (grind (arith, nat_tests))) in
          rw (off, other) (among-beginning text b ws first)
    ]

-- no word begins with this byte
abbrev pub IsFirstOfNoWord : ℕ → List Text → Type 0
IsFirstOfNoWord b [] = Unit {0}
IsFirstOfNoWord b (w ∷ ws) = (b ≡ get_or w 0 0 → ⊥) × IsFirstOfNoWord b ws

other_words : (text : Text) (b : ℕ) (words : List Text) → get_or text 0 0 ≡ b → IsFirstOfNoWord b words → IsNoneOf text words
other_words text b [] first h = tt
other_words text b (w ∷ ws) first h = (λ same. h.0 (sym (same_first text w b first same)), other_words text b ws first h.1)

pub none_among_begins : (text : Text) (b : ℕ) (words : List Text) → get_or text 0 0 ≡ b → IsFirstOfNoWord b words → list_any (same_text text) words ≡ false
none_among_begins text b words first h = none_among text words (other_words text b words first h)

-- ---- a text that fails a test is in no table whose spellings all pass it

abbrev pub all_spelled : (Text → Bool) → List Terminal → Bool
all_spelled p [] = true
all_spelled p (t ∷ ts) = unwrap_or (option_map p (spelling t)) true && all_spelled p ts

spelled_within : (p : Text → Bool) (text : Text) (o : Option Text) → unwrap_or (option_map p o) true ≡ true → p text ≡ false
    → unwrap_or (option_map (same_text text) o) false ≡ false
spelled_within p text None h e = refl
spelled_within p text (Some w) h e =
    false_from_ne_true _ (λ s. false≢true (sym e ∙ ap p (same_text-true text w s) ∙ h))

pub none_passes : (p : Text → Bool) (text : Text) (ts : List Terminal) → all_spelled p ts ≡ true → p text ≡ false → spelled_so text ts ≡ None
none_passes p text [] h e = refl
none_passes p text (t ∷ ts) h e =
    let parts = and_parts _ _ h in
    cond-false (is_spelled text t) (Some t) (spelled_so text ts) (spelled_within p text (spelling t) parts.0 e) ∙ none_passes p text ts parts.1 e

abbrev pub all_words : (Text → Bool) → List Text → Bool
all_words p [] = true
all_words p (w ∷ ws) = p w && all_words p ws

none_of_passing : (p : Text → Bool) (text : Text) (words : List Text) → all_words p words ≡ true → p text ≡ false → IsNoneOf text words
none_of_passing p text [] h e = tt
none_of_passing p text (w ∷ ws) h e =
    let parts = and_parts _ _ h in
    (λ same. false≢true (sym e ∙ ap p same ∙ parts.0), none_of_passing p text ws parts.1 e)

-- ---- words have at most eight bytes

abbrev is_short : Text → Bool
is_short text = nat_le (length text) 8

long_fails : (text : Text) → 8 < length text → is_short text ≡ false
long_fails text h = grind (arith, nat_tests)

pub long-keyword : (text : Text) → 8 < length text → None ≡ keyword text
unfolding keyword
long-keyword text h = sym (none_passes is_short text keywords refl (long_fails text h))

pub long-reserved : (text : Text) → 8 < length text → false ≡ is_reserved text
unfolding is_reserved
long-reserved text h = sym (none_among text reserved_words (none_of_passing is_short text reserved_words refl (long_fails text h)))
