-- The table of where lines begin.
use Rattle.std.proofs.Common.{◌≡◌, ℕ, zero, suc, suc-le-suc, ◌+◌, ◌<◌, ◌≤◌, inl, inr, true, false, List, [], ◌∷◌, zero-le, length, get_or, refl, sym, ap, ◌∙◌}
use Rattle.std.proofs.Common.{arith, ◌-◌, take, drop, cond, eqb, Option, Some, None, option_map, slice_get, Bool, ◌++◌, append_assoc, drop_of_length-le}
use Rattle.std.proofs.Common.{sub-one, zero-add, ◌^◌, All, subst}
use Rattle.std.specs.List.Sorted.{IsNonDecreasing}
use Rattle.std.proofs.lemmas.List.{drop_more, drop-take}
use Rattle.std.proofs.lemmas.List.Sums.{sum_by-cons}
use Rattle.std.proofs.lemmas.Option.{none-some, slice_get-get_or, slice_get_past}
use Rattle.std.specs.Prelude.{count_by, map}
use Rattle.memchr.specs.Find.{is_byte, places, places_from}
use Rattle.std.proofs.lemmas.Bool.{cases_lt, cases_Bool}
use Rattle.starlark_lexer.specs.Places.{Place, begins_char, after_byte, after_bytes, bytes_before, line_begins, text_begin}
use Rattle.starlark_lexer.proofs.PlacesLemmas.{option_map-more, option_map-start}

abbrev pub is_feed : ℕ → Bool
is_feed b = eqb b 10

-- each entry of the table is how many bytes are before a line
pub line_begins-get : (at line : ℕ) (text : List ℕ) → slice_get (line_begins at text) line ≡ option_map (λ n. at + n) (bytes_before (suc line) text)
line_begins-get at line [] = refl
line_begins-get at zero (b ∷ bs) = elim (cases_Bool (is_feed b)) [
  | inl feed ↦ rw feed refl
  | inr other ↦ rw other (line_begins-get (at + 1) zero bs ∙ sym (option_map-more at _))
]
line_begins-get at (suc line) (b ∷ bs) = elim (cases_Bool (is_feed b)) [
  | inl feed ↦ rw feed (line_begins-get (at + 1) line bs ∙ sym (option_map-more at _))
  | inr other ↦ rw other (line_begins-get (at + 1) (suc line) bs ∙ sym (option_map-more at _))
]

pub line_begins-short : (at : ℕ) (text : List ℕ) → length (line_begins at text) ≤ length text
line_begins-short at [] = zero-le
line_begins-short at (b ∷ bs) = elim (cases_Bool (is_feed b)) [
  | inl feed ↦ rw feed (omega (arith, line_begins-short (at + 1) bs))
  | inr other ↦ rw other (omega (arith, line_begins-short (at + 1) bs))
]

-- an item below all others, before a list that does not decrease
rises-more : (x : ℕ) (xs : List ℕ) → ((j d : ℕ) → j < length xs → x < get_or xs j d)
    → ((i j d : ℕ) → i ≤ j → j < length xs → get_or xs i d ≤ get_or xs j d)
    → (i j d : ℕ) → i ≤ j → j < length (x ∷ xs) → get_or (x ∷ xs) i d ≤ get_or (x ∷ xs) j d
rises-more x xs after rise zero zero d order within = let q : x ≤ x = omega arith in q
rises-more x xs after rise zero (suc j) d order within =
    let q : x ≤ get_or xs j d = let h = after j d (omega (arith, within)) in omega arith in q
rises-more x xs after rise (suc i) zero d order within = absurd (omega (arith, order))
rises-more x xs after rise (suc i) (suc j) d order within = rise i j d (omega (arith, order)) (omega (arith, within))

begins-after : (at : ℕ) (text : List ℕ) (j d : ℕ) → j < length (line_begins at text) → at < get_or (line_begins at text) j d
begins-after at [] j d within = absurd (omega (arith, within))
begins-after at (b ∷ bs) zero d within = elim (cases_Bool (is_feed b)) [
  | inl feed ↦ rw feed (let q : at < at + 1 = omega arith in q)
  | inr other ↦ rw other (let h = begins-after (at + 1) bs zero d (rw other at within) in omega arith)
]
begins-after at (b ∷ bs) (suc j) d within = elim (cases_Bool (is_feed b)) [
  | inl feed ↦ rw feed (let q : at < get_or (line_begins (at + 1) bs) j d =
      let w = rw feed at within in let h = begins-after (at + 1) bs j d (omega (arith, w)) in omega arith in q)
  | inr other ↦ rw other (let h = begins-after (at + 1) bs (suc j) d (rw other at within) in omega arith)
]

-- the table does not decrease
begins-rise : (at : ℕ) (text : List ℕ) (i j d : ℕ) → i ≤ j → j < length (line_begins at text)
    → get_or (line_begins at text) i d ≤ get_or (line_begins at text) j d
begins-rise at [] i j d order within = absurd (omega (arith, within))
begins-rise at (b ∷ bs) i j d order within = elim (cases_Bool (is_feed b)) [
  | inl feed ↦ rw feed (rises-more (at + 1) (line_begins (at + 1) bs) (begins-after (at + 1) bs) (begins-rise (at + 1) bs) i j d order (rw feed at within))
  | inr other ↦ rw other (begins-rise (at + 1) bs i j d order (rw other at within))
]

pub table-rises : (text begins : List ℕ) → begins ≡ line_begins 0 text → IsNonDecreasing begins
table-rises text begins table = subst IsNonDecreasing (sym table) (begins-rise 0 text)

some-inj : {a b : ℕ} → Some a ≡ Some b → a ≡ b
some-inj {a} {b} e = ap (λ o. elim o [ None ↦ 0 | Some n ↦ n ]) e

-- if one more than an optional number is a number, the optional number is a number
one_more : (o : Option ℕ) (m : ℕ) → option_map (λ n. 1 + n) o ≡ Some m → (k : ℕ) × (o ≡ Some k) × (m ≡ suc k)
one_more None m e = absurd (none-some m e)
one_more (Some k) m e = (k, refl, (let q : 1 + k ≡ m = some-inj e in omega arith))

-- a line begins in the text, after at least as many bytes as there are lines before it
pub bytes_before-least : (line m : ℕ) (text : List ℕ) → bytes_before line text ≡ Some m → line ≤ m
bytes_before-least zero m text e = omega arith
bytes_before-least (suc line) m [] e = absurd (none-some m e)
bytes_before-least (suc line) m (b ∷ bs) e = elim (cases_Bool (is_feed b)) [
  | inl feed ↦ let k = one_more _ m (rw feed at e) in omega (arith, bytes_before-least line k.0 bs k.1, k.2)
  | inr other ↦ let k = one_more _ m (rw other at e) in omega (arith, bytes_before-least (suc line) k.0 bs k.1, k.2)
]

pub bytes_before-within : (line m : ℕ) (text : List ℕ) → bytes_before line text ≡ Some m → m ≤ length text
bytes_before-within zero m text e = let z = some-inj e in omega arith
bytes_before-within (suc line) m [] e = absurd (none-some m e)
bytes_before-within (suc line) m (b ∷ bs) e = elim (cases_Bool (is_feed b)) [
  | inl feed ↦ let k = one_more _ m (rw feed at e) in omega (arith, bytes_before-within line k.0 bs k.1, k.2)
  | inr other ↦ let k = one_more _ m (rw other at e) in omega (arith, bytes_before-within (suc line) k.0 bs k.1, k.2)
]

pub count-feed : (b : ℕ) (bs : List ℕ) → is_feed b ≡ true → count_by is_feed (b ∷ bs) ≡ suc (count_by is_feed bs)
count-feed b bs feed = sum_by-cons (λ x. cond (is_feed x) 1 0) b bs ∙ rw feed (omega arith)

pub count-other : (b : ℕ) (bs : List ℕ) → is_feed b ≡ false → count_by is_feed (b ∷ bs) ≡ count_by is_feed bs
count-other b bs other = sum_by-cons (λ x. cond (is_feed x) 1 0) b bs ∙ rw other (omega arith)

-- the last line that begins before a position has as many line feeds before it
pub line-is : (line m at : ℕ) (text : List ℕ) → bytes_before line text ≡ Some m → m ≤ at → ((n : ℕ) → bytes_before (suc line) text ≡ Some n → at < n)
    → count_by is_feed (take at text) ≡ line
line-is zero m zero [] e below above = refl
line-is zero m (suc at) [] e below above = refl
line-is (suc line) m at [] e below above = absurd (none-some m e)
line-is zero m zero (b ∷ bs) e below above = refl
line-is (suc line) m zero (b ∷ bs) e below above = let k = one_more _ m e in absurd (omega (arith, k.2))
line-is zero m (suc at) (b ∷ bs) e below above = elim (cases_Bool (is_feed b)) [
  | inl feed ↦ let n = above 1 (rw feed refl) in absurd (omega arith)
  | inr other ↦ count-other b (take at bs) other ∙ line-is zero 0 at bs refl zero-le (λ n k. let h = above (1 + n) (rw (other, k) refl) in omega arith)
]
line-is (suc line) m (suc at) (b ∷ bs) e below above = elim (cases_Bool (is_feed b)) [
  | inl feed ↦ let k = one_more _ m (rw feed at e) in
      count-feed b (take at bs) feed ∙ ap suc (line-is line k.0 at bs k.1 (let z = k.2 in omega arith) (λ n q. let h = above (1 + n) (rw (feed, q) refl) in
      omega arith))
  | inr other ↦ let k = one_more _ m (rw other at e) in
      count-other b (take at bs) other ∙ line-is (suc line) k.0 at bs k.1 (let z = k.2 in omega arith) (λ n q. let h = above (1 + n) (rw (other, q) refl) in
      omega arith)
]

abbrev pub line_begun : ℕ → Place
line_begun line = record { line = line; column = 0 }

pub after-feed : (p : Place) (b : ℕ) → is_feed b ≡ true → after_byte p b ≡ line_begun (p.line + 1)
after-feed p b feed = rw feed refl

pub same_line : (p : Place) (b : ℕ) → is_feed b ≡ false → (after_byte p b).line ≡ p.line
same_line p b other = rw other (elim (cases_Bool (begins_char b)) [ inl begins ↦ rw begins refl | inr inside ↦ rw inside refl ])

-- the position in a line is found from where the line begins
pub place-from : (p : Place) (line m at : ℕ) (text : List ℕ) → bytes_before (suc line) text ≡ Some m → m ≤ at
    → after_bytes p (take at text) ≡ after_bytes (line_begun (p.line + suc line)) (drop m (take at text))
place-from p line m at [] e below = absurd (none-some m e)
place-from p line m zero (b ∷ bs) e below = let k = one_more _ m e in absurd (omega (arith, k.2))
place-from p zero m (suc at) (b ∷ bs) e below = elim (cases_Bool (is_feed b)) [
  | inl feed ↦ let k = one_more (bytes_before zero bs) m (rw feed at e) in
      rw (k.2) (ap (λ q. after_bytes q (take at bs)) (after-feed p b feed) ∙ ap (λ n. after_bytes (line_begun (p.line + 1)) (drop n (take at bs)))
      (some-inj k.1))
  | inr other ↦ let k = one_more (bytes_before (suc zero) bs) m (rw other at e) in
      rw (k.2) (place-from (after_byte p b) zero k.0 at bs k.1 (let z = k.2 in omega arith)
      ∙ ap (λ l. after_bytes (line_begun (l + 1)) (drop k.0 (take at bs))) (same_line p b other))
]
place-from p (suc line) m (suc at) (b ∷ bs) e below = elim (cases_Bool (is_feed b)) [
  | inl feed ↦ let k = one_more (bytes_before (suc line) bs) m (rw feed at e) in
      rw (k.2) (ap (λ q. after_bytes q (take at bs)) (after-feed p b feed)
      ∙ place-from (line_begun (p.line + 1)) line k.0 at bs k.1 (let z = k.2 in omega arith) ∙ ap (λ l. after_bytes (line_begun l) (drop k.0 (take at bs)))
      (omega arith))
  | inr other ↦ let k = one_more (bytes_before (suc (suc line)) bs) m (rw other at e) in
      rw (k.2) (place-from (after_byte p b) (suc line) k.0 at bs k.1 (let z = k.2 in omega arith)
      ∙ ap (λ l. after_bytes (line_begun (l + suc (suc line))) (drop k.0 (take at bs))) (same_line p b other))
]

-- the table is the positions of the line feeds, each one byte later
places-begins : (text : List ℕ) (i n : ℕ) → i + n ≡ length text → map (λ k. k + 1) (places_from (is_byte 10) text i n) ≡ line_begins i (drop i text)
unfolding places_from
places-begins text i zero whole = let past : length text ≤ i = omega arith in rw (drop_of_length-le text past) refl
places-begins text i (suc n) whole =
    let within : i < length text = omega arith in
    let later = places-begins text (i + 1) n (omega arith) in
    elim (cases_Bool (is_feed (get_or text i 0))) [
      | inl feed ↦ rw (drop_more text i 0 within, feed) (ap (λ l. (i + 1) ∷ l) later)
      | inr other ↦ rw (drop_more text i 0 within, other) later
    ]

pub line_begins-places : (text : List ℕ) → map (λ k. k + 1) (places (is_byte 10) text) ≡ line_begins 0 text
line_begins-places text =
    let whole : length text - 0 ≡ length text = omega arith in
    ap (λ n. map (λ k. k + 1) (places_from (is_byte 10) text 0 n)) whole ∙ places-begins text 0 (length text) (omega arith)

-- one line feed more
pub begins-more : (begins rest next : List ℕ) (at : ℕ) (text : List ℕ) → rest ≡ at ∷ next → begins ++ map (λ k. k + 1) rest ≡ line_begins 0 text
    → (begins ++ (at + 1) ∷ []) ++ map (λ k. k + 1) next ≡ line_begins 0 text
begins-more begins rest next at text e h = append_assoc begins ((at + 1) ∷ []) (map (λ k. k + 1) next) ∙ (rw e at h)

pub all-later : (P : ℕ → Type 0) (rest next : List ℕ) (at : ℕ) → rest ≡ at ∷ next → All P rest → All P next
all-later P rest next at e h k d below = (rw e at h) (suc k) d (omega arith)

-- the table of a text: where a line begins, and that there are no more lines
pub line-begin : (text begins : List ℕ) (line : ℕ) → begins ≡ line_begins 0 text → line < length begins → bytes_before (suc line) text
    ≡ Some (get_or begins line 0)
line-begin text begins line table within =
    sym (option_map-start _) ∙ sym (line_begins-get 0 line text) ∙ ap (λ l. slice_get l line) (sym table) ∙ slice_get-get_or begins line 0 within

pub line-past : (text begins : List ℕ) (line : ℕ) → begins ≡ line_begins 0 text → length begins ≤ line → bytes_before (suc line) text ≡ None
line-past text begins line table past =
    sym (option_map-start _) ∙ sym (line_begins-get 0 line text) ∙ ap (λ l. slice_get l line) (sym table) ∙ slice_get_past begins line past

no-later : (text begins : List ℕ) (line at : ℕ) → begins ≡ line_begins 0 text → (line < length begins → at < get_or begins line 0)
    → (n : ℕ) → bytes_before (suc line) text ≡ Some n → at < n
no-later text begins line at table above n e = elim (cases_lt line (length begins)) [
  | inl within ↦ let same = some-inj (sym (line-begin text begins line table within) ∙ e) in let h = above within in omega arith
  | inr past ↦ absurd (none-some n (sym (line-past text begins line table past) ∙ e))
]

-- the line that a search in the table finds
pub line-found : (text begins : List ℕ) (line at : ℕ) → begins ≡ line_begins 0 text → line ≤ length begins
    → (0 < line → get_or begins (line - 1) 0 ≤ at) → (line < length begins → at < get_or begins line 0) → line ≡ count_by is_feed (take at text)
line-found text begins zero at table within below above = sym (line-is 0 0 at text refl zero-le (no-later text begins 0 at table above))
line-found text begins (suc line) at table within below above =
    sym (line-is (suc line) (get_or begins line 0) at text (line-begin text begins line table (omega arith)) (rw sub-one at (below (omega arith)))
    (no-later text begins (suc line) at table above))

-- and the offset at which that line begins
pub line-begin-least : (text begins : List ℕ) (line : ℕ) → begins ≡ line_begins 0 text → 0 < line → line ≤ length begins → line ≤ get_or begins (line - 1) 0
line-begin-least text begins zero table some within = absurd (omega arith)
line-begin-least text begins (suc line) table some within = rw sub-one (bytes_before-least (suc line) _ text (line-begin text begins line table (omega arith)))

pub line-begin-place : (text begins : List ℕ) (line at : ℕ) → begins ≡ line_begins 0 text → 0 < line → line ≤ length begins → get_or begins (line - 1) 0 ≤ at
    → after_bytes text_begin (take at text) ≡ after_bytes (line_begun line) (drop (get_or begins (line - 1) 0) (take at text))
line-begin-place text begins zero at table some within below = absurd (omega arith)
line-begin-place text begins (suc line) at table some within below =
    rw sub-one (place-from text_begin line (get_or begins line 0) at text (line-begin text begins line table (omega arith)) (rw sub-one at below)
    ∙ ap (λ l. after_bytes (line_begun l) (drop (get_or begins line 0) (take at text))) (zero-add (suc line)))

pub line-begun-at : (text begins : List ℕ) (line : ℕ) → begins ≡ line_begins 0 text → ¬ (line ≡ 0) → line - 1 < length begins
    → Some (get_or begins (line - 1) 0) ≡ bytes_before line text
line-begun-at text begins zero table some within = absurd (some refl)
line-begun-at text begins (suc line) table some within = rw sub-one (sym (line-begin text begins line table (rw sub-one at within)))

pub line-begun-within : (text begins : List ℕ) (line : ℕ) → begins ≡ line_begins 0 text → ¬ (line ≡ 0) → line - 1 < length begins
    → get_or begins (line - 1) 0 ≤ length text
line-begun-within text begins line table some within = bytes_before-within line _ text (sym (line-begun-at text begins line table some within))

pub line-begun-past : (text begins : List ℕ) (line : ℕ) → begins ≡ line_begins 0 text → ¬ (line ≡ 0) → length begins ≤ line - 1 → None ≡ bytes_before line text
line-begun-past text begins zero table some past = absurd (some refl)
line-begun-past text begins (suc line) table some past = sym (line-past text begins line table (rw sub-one at past))

-- the line of a position begins here
pub record LineBegin (text begins : List ℕ) (line at begin : ℕ) : Type 0 where
  pub least : line ≤ begin
  pub before : begin ≤ at
  pub place : after_bytes (line_begun line) (drop begin (take at text)) ≡ after_bytes text_begin (take at text)

pub line-begin-first : (text begins : List ℕ) (line at begin : ℕ) → line ≡ 0 → begin ≡ 0 → LineBegin text begins line at begin
line-begin-first text begins line at begin first front = record {
  least = omega arith;
  before = omega arith;
  place = rw (first, front) refl;
}

pub line-begin-later : (text begins : List ℕ) (line at begin : ℕ) → begins ≡ line_begins 0 text → ¬ (line ≡ 0) → line ≤ length begins
    → (0 < line → get_or begins (line - 1) 0 ≤ at) → begin ≡ get_or begins (line - 1) 0 → LineBegin text begins line at begin
line-begin-later text begins line at begin table later within below same =
    let some : 0 < line = omega arith in
    rw same record {
      least = line-begin-least text begins line table some within;
      before = below some;
      place = sym (line-begin-place text begins line at table some within (below some));
    }

pub line-begin-walk : (text begins : List ℕ) (line at begin : ℕ) → LineBegin text begins line at begin
    → after_bytes (line_begun line) (take (at - begin) (drop begin text)) ≡ after_bytes text_begin (take at text)
line-begin-walk text begins line at begin h =
    let b = h.before in
    let whole : begin + (at - begin) ≡ at = omega arith in
    ap (after_bytes (line_begun line)) (sym (drop-take begin (at - begin) text) ∙ ap (λ n. drop begin (take n text)) whole) ∙ h.place

pub line-fits : (text begins : List ℕ) (line : ℕ) → begins ≡ line_begins 0 text → length text < 2 ^ 32 → line ≤ length begins → line < 2 ^ 32
line-fits text begins line table small within =
    let short : length begins ≤ length text = rw table (line_begins-short 0 text) in omega arith

pub short-take : (n : ℕ) (xs : List ℕ) → length (take n xs) ≤ n
short-take zero xs = zero-le
short-take (suc n) [] = zero-le
short-take (suc n) (x ∷ xs) = suc-le-suc (short-take n xs)
