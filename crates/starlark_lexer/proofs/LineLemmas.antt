-- Whitespace that is skipped, and blank lines.
use Rattle.std.proofs.Common.{◌≡◌, ℕ, zero, suc, ◌+◌, ◌<◌, ◌≤◌, Bool, true, false, cond, ◌&&◌, ◌==◌, nat_lt, inl, inr, take, drop, is_some, unwrap_or, List, []}
use Rattle.std.proofs.Common.{◌∷◌, length, get_or, IsUtf8, refl, sym, ap, ◌∙◌, subst, arith, eqb-true, zero-add}
use Rattle.std.proofs.lemmas.Bool.{cases_Bool, cases_lt, cond_both, cond-true, cond-false, and_parts, lt-ltb}
use Rattle.std.proofs.lemmas.Bool.Decides.{nat_tests}
use Rattle.std.proofs.lemmas.List.{drop_more, drop-drop}
use Rattle.std.proofs.lemmas.List.Sums.{prefix_len-le-length, prefix_len_passes, sum_by-cons}
use Rattle.std.specs.List.{list_all, prefix_len, count_by}
use Rattle.std.specs.Str.{IsCharBoundary}
use Rattle.starlark_lexer.specs.Newlines.{newline_len}
use Rattle.starlark_lexer.specs.Classes.{is_whitespace, is_space}
use Rattle.starlark_lexer.specs.Cuts.{is_gap}
use Rattle.starlark_lexer.specs.Lines.{skip_turn, skip_len, whitespace_len, is_blank_line, blank_lines_len}
use Rattle.starlark_lexer.proofs.ByteRuns.{after_ascii}

-- one turn of `skip_len`, at an index
pub skip_len-drop : (quiet joined : Bool) (xs : List ℕ) (i : ℕ) → i < length xs
    → let turn = skip_turn quiet joined (drop i xs) in
    skip_len quiet joined (drop i xs) ≡ cond (is_some turn) (1 + skip_len quiet (unwrap_or turn false) (drop (i + 1) xs)) 0
unfolding skip_len
skip_len-drop quiet joined xs i h = rw (drop_more xs i 0 h)

pub skip_len-nil : (quiet joined : Bool) → skip_len quiet joined [] ≡ 0
unfolding skip_len
skip_len-nil quiet joined = refl

-- ---- what is skipped may be between lexemes

turn_gap : (quiet joined : Bool) (c : ℕ) (cs : List ℕ) → is_some (skip_turn quiet joined (c ∷ cs)) ≡ true → is_gap c ≡ true
turn_gap quiet joined c cs e = grind (arith, nat_tests)

pub skip_gap : (quiet joined : Bool) (text : List ℕ) (k : ℕ) → k < skip_len quiet joined text → is_gap (get_or text k 0) ≡ true
unfolding skip_len
skip_gap quiet joined [] k h = absurd (omega arith)
skip_gap quiet joined (c ∷ cs) zero h =
    elim (cases_Bool (is_some (skip_turn quiet joined (c ∷ cs)))) [
      | inl on ↦ turn_gap quiet joined c cs on
      | inr off ↦ absurd (let none = cond-false _ (1 + skip_len quiet (unwrap_or (skip_turn quiet joined (c ∷ cs)) false) cs) 0 off in omega arith)
    ]
skip_gap quiet joined (c ∷ cs) (suc k) h =
    let more = 1 + skip_len quiet (unwrap_or (skip_turn quiet joined (c ∷ cs)) false) cs in
    elim (cases_Bool (is_some (skip_turn quiet joined (c ∷ cs)))) [
      | inl on ↦ skip_gap quiet (unwrap_or (skip_turn quiet joined (c ∷ cs)) false) cs k (let one = cond-true _ more 0 on in omega arith)
      | inr off ↦ absurd (let none = cond-false _ more 0 off in omega arith)
    ]

gap_ascii : (b : ℕ) → is_gap b ≡ true → b < 128
gap_ascii b e = grind (arith, nat_tests)

-- the end of bytes that may be between lexemes
pub IsCharBoundary-gap : (text : List ℕ) (n : ℕ) → IsUtf8 text → n ≤ length text → ((k : ℕ) → k < n → is_gap (get_or text k 0) ≡ true) → IsCharBoundary text n
IsCharBoundary-gap text n utf8 within gap = after_ascii text n utf8 within (λ k h. gap_ascii _ (gap k h))

pub skip_len-le : (quiet joined : Bool) (text : List ℕ) → skip_len quiet joined text ≤ length text
unfolding skip_len
skip_len-le quiet joined [] = omega arith
skip_len-le quiet joined (c ∷ cs) =
    let turn = skip_turn quiet joined (c ∷ cs) in
    let P : ℕ → Type 0 = λ n. n ≤ length (c ∷ cs) in
    cond_both (is_some turn) (1 + skip_len quiet (unwrap_or turn false) cs) 0 P
    (λ _. omega (arith, skip_len-le quiet (unwrap_or turn false) cs)) (λ _. omega arith)

pub IsCharBoundary-skip_len : (quiet : Bool) (text : List ℕ) → IsUtf8 text → IsCharBoundary text (skip_len quiet false text)
IsCharBoundary-skip_len quiet text utf8 = IsCharBoundary-gap text _ utf8 (skip_len-le quiet false text) (skip_gap quiet false text)

-- ---- blank lines

whitespace_byte_gap : (b : ℕ) → is_whitespace b ≡ true → is_gap b ≡ true
whitespace_byte_gap b e = rw e

pub whitespace_gap : (text : List ℕ) (k : ℕ) → k < whitespace_len text → is_gap (get_or text k 0) ≡ true
whitespace_gap text k h = whitespace_byte_gap (get_or text k 0) (prefix_len_passes is_whitespace text k 0 h)

pub whitespace_len-le : (text : List ℕ) → whitespace_len text ≤ length text
whitespace_len-le text = prefix_len-le-length is_whitespace text

pub IsCharBoundary-whitespace : (text : List ℕ) → IsUtf8 text → IsCharBoundary text (whitespace_len text)
IsCharBoundary-whitespace text utf8 = IsCharBoundary-gap text _ utf8 (whitespace_len-le text) (whitespace_gap text)

newline_gap : (c : ℕ) (cs : List ℕ) → nat_lt 0 (newline_len (c ∷ cs)) ≡ true → is_gap c ≡ true
newline_gap c cs e = grind (arith, nat_tests)

blank_line_gap : (c : ℕ) (cs : List ℕ) → is_blank_line (c ∷ cs) ≡ true → is_gap c ≡ true
blank_line_gap c cs e =
    elim (cases_Bool (is_whitespace c)) [
      | inl blank ↦ whitespace_byte_gap c blank
      | inr other ↦ let none : whitespace_len (c ∷ cs) ≡ 0 = cond-false (is_whitespace c) _ 0 other in
          let e' : nat_lt 0 (newline_len (drop 0 (c ∷ cs))) ≡ true = rw none at e in newline_gap c cs e'
    ]

pub blank_lines_gap : (text : List ℕ) (k : ℕ) → k < blank_lines_len text → is_gap (get_or text k 0) ≡ true
unfolding blank_lines_len
blank_lines_gap [] k h = absurd (omega arith)
blank_lines_gap (c ∷ cs) zero h =
    elim (cases_Bool (is_blank_line (c ∷ cs))) [
      | inl on ↦ blank_line_gap c cs on
      | inr off ↦ absurd (let none = cond-false _ (1 + blank_lines_len cs) 0 off in omega arith)
    ]
blank_lines_gap (c ∷ cs) (suc k) h =
    elim (cases_Bool (is_blank_line (c ∷ cs))) [
      | inl on ↦ blank_lines_gap cs k (let one = cond-true _ (1 + blank_lines_len cs) 0 on in omega arith)
      | inr off ↦ absurd (let none = cond-false _ (1 + blank_lines_len cs) 0 off in omega arith)
    ]

pub blank_lines_len-le : (text : List ℕ) → blank_lines_len text ≤ length text
unfolding blank_lines_len
blank_lines_len-le [] = omega arith
blank_lines_len-le (c ∷ cs) =
    let P : ℕ → Type 0 = λ n. n ≤ length (c ∷ cs) in
    cond_both (is_blank_line (c ∷ cs)) (1 + blank_lines_len cs) 0 P (λ _. omega (arith, blank_lines_len-le cs)) (λ _. omega arith)

pub IsCharBoundary-blank_lines : (text : List ℕ) → IsUtf8 text → IsCharBoundary text (blank_lines_len text)
IsCharBoundary-blank_lines text utf8 = IsCharBoundary-gap text _ utf8 (blank_lines_len-le text) (blank_lines_gap text)

blank_lines-cons : (c : ℕ) (cs : List ℕ) → is_blank_line (c ∷ cs) ≡ true → blank_lines_len (c ∷ cs) ≡ 1 + blank_lines_len cs
unfolding blank_lines_len
blank_lines-cons c cs e = cond-true _ _ _ e

-- no blank line is left
pub blank_lines-none : (text : List ℕ) → newline_len (drop (whitespace_len text) text) ≡ 0 → blank_lines_len text ≡ 0
unfolding blank_lines_len
blank_lines-none [] e = refl
blank_lines-none (c ∷ cs) e = cond-false (is_blank_line (c ∷ cs)) _ 0 (rw e refl)

-- a newline at the front is a line feed, alone or after a carriage return
data Break (text : List ℕ) : Type 0 where
  feed : (cs : List ℕ) → text ≡ 10 ∷ cs → newline_len text ≡ 1 → Break text
  return_feed : (cs : List ℕ) → text ≡ 13 ∷ 10 ∷ cs → newline_len text ≡ 2 → Break text

begins_feed : (cs : List ℕ) → get_or cs 0 0 ≡ 10 → (ds : List ℕ) × (cs ≡ 10 ∷ ds)
begins_feed [] e = absurd (omega arith)
begins_feed (d ∷ ds) e = (ds, ap (λ x. x ∷ ds) e)

newline_is : (text : List ℕ) → 0 < newline_len text → Break text
newline_is [] h = absurd (omega arith)
newline_is (c ∷ cs) h =
    elim (cases_Bool (c == 10)) [
      | inl one ↦ feed cs (ap (λ x. x ∷ cs) (eqb-true c 10 one)) (cond-true (c == 10) 1 _ one)
      | inr not_one ↦ elim (cases_Bool (c == 13 && get_or (c ∷ cs) 1 0 == 10)) [
        | inl two ↦ let parts = and_parts _ _ two in
            let is_feed : get_or cs 0 0 ≡ 10 = eqb-true (get_or cs 0 0) 10 parts.1 in
            let more = begins_feed cs is_feed in
            return_feed more.0 (ap (λ x. x ∷ cs) (eqb-true c 13 parts.0) ∙ ap (λ x. 13 ∷ x) more.1) (cond-false (c == 10) 1 _ not_one ∙ cond-true _ 2 0 two)
        | inr not_two ↦ absurd (let none : newline_len (c ∷ cs) ≡ 0 = cond-false (c == 10) 1 _ not_one ∙ cond-false _ 2 0 not_two in omega arith)
      ]
    ]

blank_lines-feed : (cs : List ℕ) → blank_lines_len (10 ∷ cs) ≡ 1 + blank_lines_len cs
unfolding blank_lines_len
blank_lines-feed cs = refl

blank_lines-return : (cs : List ℕ) → blank_lines_len (13 ∷ 10 ∷ cs) ≡ 2 + blank_lines_len cs
unfolding blank_lines_len
blank_lines-return cs = omega arith

-- a newline at the front is consumed
blank_lines-newline : (text : List ℕ) → 0 < newline_len text → blank_lines_len text ≡ newline_len text + blank_lines_len (drop (newline_len text) text)
blank_lines-newline text some =
    elim (newline_is text some) [
      | feed cs is len ↦ rw len (rw is (blank_lines-feed cs))
      | return_feed cs is len ↦ rw len (rw is (blank_lines-return cs))
    ]

blank_lines-whitespace : (n : ℕ) (text : List ℕ) → n ≡ whitespace_len text → 0 < newline_len (drop n text) → blank_lines_len text
    ≡ n + blank_lines_len (drop n text)
blank_lines-whitespace zero text e some = sym (zero-add _)
blank_lines-whitespace (suc n) [] e some = absurd (omega arith)
blank_lines-whitespace (suc n) (c ∷ cs) e some =
    elim (cases_Bool (is_whitespace c)) [
      | inl blank ↦ let len : whitespace_len (c ∷ cs) ≡ 1 + whitespace_len cs = cond-true (is_whitespace c) _ 0 blank in
          let line : is_blank_line (c ∷ cs) ≡ true = subst (λ k. nat_lt 0 (newline_len (drop k (c ∷ cs))) ≡ true) e (lt-ltb 0 _ some) in
          let one = blank_lines-cons c cs line in
          let more = blank_lines-whitespace n cs (omega arith) some in
          omega arith
      | inr other ↦ let none : whitespace_len (c ∷ cs) ≡ 0 = cond-false (is_whitespace c) _ 0 other in absurd (omega arith)
    ]

-- a blank line is consumed whole
pub blank_lines-line : (text : List ℕ) → let n = whitespace_len text in
    let b = newline_len (drop n text) in
    0 < b → blank_lines_len text ≡ n + b + blank_lines_len (drop (n + b) text)
blank_lines-line text some =
    let n = whitespace_len text in
    let b = newline_len (drop n text) in
    let more : blank_lines_len (drop b (drop n text)) ≡ blank_lines_len (drop (n + b) text) = ap blank_lines_len (drop-drop b n text) in
    let h = blank_lines-whitespace n text refl some in
    let k = blank_lines-newline (drop n text) some in
    omega arith

-- no more is consumed than there is
pub newline_len-le : (text : List ℕ) → newline_len text ≤ length text
newline_len-le text =
    elim (cases_lt 0 (newline_len text)) [
      | inl some ↦ elim (newline_is text some) [
        | feed cs is len ↦ rw len (rw is (omega arith))
        | return_feed cs is len ↦ rw len (rw is (omega arith))
      ]
      | inr none ↦ omega arith
    ]

-- ---- indentation

is_whitespace-count : (b : ℕ) → is_whitespace b ≡ true → cond (b == 32) 1 0 + cond (b == 9) 1 0 ≡ 1
is_whitespace-count b e = grind (arith, nat_tests)

-- counted whitespace consists of spaces and tabs
pub whitespace-counted : (xs : List ℕ) → list_all is_whitespace xs ≡ true → count_by (λ b. b == 32) xs + count_by (λ b. b == 9) xs ≡ length xs
whitespace-counted [] e = refl
whitespace-counted (x ∷ xs) e =
    let parts = and_parts (is_whitespace x) (list_all is_whitespace xs) e in
    let one = is_whitespace-count x parts.0 in
    let more = whitespace-counted xs parts.1 in
    omega (arith, sum_by-cons (λ b. cond (b == 32) 1 0) x xs, sum_by-cons (λ b. cond (b == 9) 1 0) x xs)

space_whitespace : (b : ℕ) → is_space b ≡ true → is_whitespace b ≡ true
space_whitespace b e = grind (arith, nat_tests)

space_no_tab : (b : ℕ) → is_space b ≡ true → ◌≡◌ {A = ℕ} (cond (b == 9) 1 0) 0
space_no_tab b e = grind (arith, nat_tests)

-- spaces at the front are whitespace
pub whitespace_split : (n : ℕ) (xs : List ℕ) → n ≤ prefix_len is_space xs → whitespace_len xs ≡ n + whitespace_len (drop n xs)
whitespace_split zero xs h = sym (zero-add _)
whitespace_split (suc n) [] h = absurd (omega arith)
whitespace_split (suc n) (x ∷ xs) h =
    elim (cases_Bool (is_space x)) [
      | inl on ↦ let one : prefix_len is_space (x ∷ xs) ≡ 1 + prefix_len is_space xs = cond-true (is_space x) _ 0 on in
          let blank : whitespace_len (x ∷ xs) ≡ 1 + whitespace_len xs = cond-true (is_whitespace x) _ 0 (space_whitespace x on) in
          let more = whitespace_split n xs (omega arith) in
          omega arith
      | inr off ↦ let none : prefix_len is_space (x ∷ xs) ≡ 0 = cond-false (is_space x) _ 0 off in absurd (omega arith)
    ]

-- spaces at the front are not tabs
pub tabs_split : (n : ℕ) (xs : List ℕ) → n ≤ prefix_len is_space xs → count_by (λ b. b == 9) (drop n xs) ≡ count_by (λ b. b == 9) xs
tabs_split zero xs h = refl
tabs_split (suc n) [] h = absurd (omega arith)
tabs_split (suc n) (x ∷ xs) h =
    elim (cases_Bool (is_space x)) [
      | inl on ↦ let one : prefix_len is_space (x ∷ xs) ≡ 1 + prefix_len is_space xs = cond-true (is_space x) _ 0 on in
          let other = space_no_tab x on in
          let more = tabs_split n xs (omega arith) in
          omega (arith, sum_by-cons (λ b. cond (b == 9) 1 0) x xs)
      | inr off ↦ let none : prefix_len is_space (x ∷ xs) ≡ 0 = cond-false (is_space x) _ 0 off in absurd (omega arith)
    ]

-- a run is as long in a front that contains it
pub run_in_front : (k n : ℕ) (xs : List ℕ) → k ≤ prefix_len is_space xs → k ≤ n → k ≤ prefix_len is_space (take n xs)
run_in_front zero n xs h l = omega arith
run_in_front (suc k) n [] h l = absurd (omega arith)
run_in_front (suc k) zero (x ∷ xs) h l = absurd (omega arith)
run_in_front (suc k) (suc n) (x ∷ xs) h l =
    elim (cases_Bool (is_space x)) [
      | inl on ↦ let one : prefix_len is_space (x ∷ xs) ≡ 1 + prefix_len is_space xs = cond-true (is_space x) _ 0 on in
          let there : prefix_len is_space (x ∷ take n xs) ≡ 1 + prefix_len is_space (take n xs) = cond-true (is_space x) _ 0 on in
          let more = run_in_front k n xs (omega arith) (omega arith) in
          omega arith
      | inr off ↦ let none : prefix_len is_space (x ∷ xs) ≡ 0 = cond-false (is_space x) _ 0 off in absurd (omega arith)
    ]
