-- Columns: which bytes of a line do not begin a character.
use Rattle.std.proofs.Common.{◌≡◌, ℕ, zero, suc, ◌+◌, ◌*◌, ◌/◌, ◌^◌, ◌<◌, ◌≤◌, inl, inr, true, false, List, [], ◌∷◌, ◌++◌, length, get_or, refl, sym, ap, ◌∙◌}
use Rattle.std.proofs.Common.{arith, ◌-◌, take, drop, cond, not, length-drop, length-append}
use Rattle.std.proofs.Math.Seq.{take-add}
use Rattle.std.proofs.lemmas.List.Sums.{sum_by-cons, sum_by-append, count_by-le-length}
use Rattle.std.proofs.lemmas.Bool.{cases_lt, cases_Bool}
use Rattle.std.proofs.Math.ListN.{get_or-append}
use Rattle.std.proofs.lemmas.List.{length-take-le, get_or_push}
use Rattle.std.proofs.lemmas.Str.{IsAscii-take}
use Rattle.std.specs.Prelude.{count_by}
use Rattle.std.specs.Str.{IsAscii}
use Rattle.starlark_lexer.specs.Places.{Place, begins_char, after_byte, after_bytes, text_begin, char_rests, CountsBlocks}
use Rattle.starlark_lexer.proofs.LineTables.{is_feed, line_begun, count-feed, count-other, after-feed, same_line, short-take}

rests-begin : (b : ℕ) (bs : List ℕ) → begins_char b ≡ true → char_rests (b ∷ bs) ≡ char_rests bs
rests-begin b bs begins = sum_by-cons (λ x. cond (not (begins_char x)) 1 0) b bs ∙ rw begins (omega arith)

rests-inside : (b : ℕ) (bs : List ℕ) → begins_char b ≡ false → char_rests (b ∷ bs) ≡ suc (char_rests bs)
rests-inside b bs inside = sum_by-cons (λ x. cond (not (begins_char x)) 1 0) b bs ∙ rw inside (omega arith)

-- the count for the first bytes and the next ones
pub rests-add : (n m : ℕ) (text : List ℕ) → char_rests (take (n + m) text) ≡ char_rests (take n text) + char_rests (take m (drop n text))
rests-add n m text = ap char_rests (take-add n m text) ∙ sum_by-append (λ x. cond (not (begins_char x)) 1 0) (take n text) (take m (drop n text))

-- a walk over bytes without line feeds stays in its line, and each byte that begins a character is a column
in-line : (column : ℕ) (xs : List ℕ) (p : Place) → count_by is_feed xs ≡ 0 → column + char_rests xs ≡ p.column + length xs
    → after_bytes p xs ≡ record { line = p.line; column = column }
in-line column [] p none e = let same : p.column ≡ column = omega arith in rw (← same) refl
in-line column (b ∷ bs) p none e = elim (cases_Bool (is_feed b)) [
  | inl feed ↦ let k = count-feed b bs feed in absurd (omega arith)
  | inr other ↦ let k = count-other b bs other in elim (cases_Bool (begins_char b)) [
    | inl begins ↦ let r = rests-begin b bs begins in rw (other, begins) (in-line column bs (record { line = p.line; column = p.column + 1 }) (omega arith)
        (omega arith))
    | inr inside ↦ let r = rests-inside b bs inside in rw (other, inside) (in-line column bs p (omega arith) (omega arith))
  ]
]

-- a walk advances by as many lines as there are line feeds
lines-walked : (p : Place) (xs : List ℕ) → (after_bytes p xs).line ≡ p.line + count_by is_feed xs
lines-walked p [] = omega arith
lines-walked p (b ∷ bs) = elim (cases_Bool (is_feed b)) [
  | inl feed ↦ let k = count-feed b bs feed in let h = lines-walked (line_begun (p.line + 1)) bs in ap (λ q. (after_bytes q bs).line) (after-feed p b feed)
      ∙ omega arith
  | inr other ↦ let k = count-other b bs other in let h = lines-walked (after_byte p b) bs in let s = same_line p b other in omega arith
]

-- how many bytes up to a position do not begin a character
pub record Between (text : List ℕ) (begin at : ℕ) : Type 0 where
  pub order : char_rests (take begin text) ≤ char_rests (take at text)
  pub room : char_rests (take at text) - char_rests (take begin text) ≤ at - begin

within-between : (text : List ℕ) (begin at : ℕ) → begin ≤ at
    → char_rests (take at text) ≡ char_rests (take begin text) + char_rests (take (at - begin) (drop begin text))
within-between text begin at order = let whole : begin + (at - begin) ≡ at = omega arith in ap (λ n. char_rests (take n text)) (sym whole)
    ∙ rests-add begin (at - begin) text

pub rests-between : (text : List ℕ) (begin at : ℕ) → begin ≤ at → Between text begin at
rests-between text begin at order =
    let sum = within-between text begin at order in
    let few = count_by-le-length (λ b. not (begins_char b)) (take (at - begin) (drop begin text)) in
    let short = short-take (at - begin) (drop begin text) in
    record { order = omega arith; room = omega arith }

-- the column of a position is how many bytes of its line are before it, without those that do not begin a character
pub column-is : (text : List ℕ) (line begin at column : ℕ)
    → after_bytes (line_begun line) (take (at - begin) (drop begin text)) ≡ after_bytes text_begin (take at text)
    → line ≡ count_by is_feed (take at text) → begin ≤ at → at ≤ length text
    → column ≡ (at - begin) - (char_rests (take at text) - char_rests (take begin text))
    → record { line = line; column = column } ≡ after_bytes text_begin (take at text)
column-is text line begin at column walk found order within e =
    let xs = take (at - begin) (drop begin text) in
    let long : length xs ≡ at - begin = length-take-le (at - begin) (drop begin text) (omega (arith, length-drop begin text)) in
    let few = count_by-le-length (λ b. not (begins_char b)) xs in
    let sum = within-between text begin at order in
    let a = lines-walked (line_begun line) xs in
    let b = lines-walked text_begin (take at text) in
    let c = ap (λ (q : Place). q.line) walk in
    let none : count_by is_feed xs ≡ 0 = omega arith in
    sym (in-line column xs (line_begun line) none (omega arith)) ∙ walk

pub past-get : (xs : List ℕ) (i : ℕ) → length xs ≤ i → get_or xs i 0 ≡ 0
past-get [] i past = refl
past-get (x ∷ xs) zero past = absurd (omega arith)
past-get (x ∷ xs) (suc i) past = past-get xs i (omega arith)

-- the table of a text, one block later
pub blocks-more : (text rests more : List ℕ) (before block : ℕ) → length rests ≡ block → more ≡ rests ++ before ∷ []
    → ((k : ℕ) → k < block → get_or rests k 0 ≡ char_rests (take (k * 64) text)) → before ≡ char_rests (take (block * 64) text)
    → (k : ℕ) → k < block + 1 → get_or more k 0 ≡ char_rests (take (k * 64) text)
blocks-more text rests more before block long pushed table now k below = rw pushed (elim (cases_lt k block) [
  | inl earlier ↦ get_or-append rests (before ∷ []) 0 k (omega arith) ∙ table k earlier
  | inr last ↦ let here : k ≡ block = omega arith in rw here (get_or_push rests before 0 block long ∙ now)
])

pub blocks-long : (rests more : List ℕ) (before block : ℕ) → length rests ≡ block → more ≡ rests ++ before ∷ [] → length more ≡ block + 1
blocks-long rests more before block long pushed = ap length pushed ∙ length-append rests (before ∷ []) ∙ ap (λ n. n + 1) long

pub blocks-now : (text : List ℕ) (before r block : ℕ) → before ≡ char_rests (take (block * 64) text)
    → r ≡ char_rests (take ((block + 1) * 64 - block * 64) (drop (block * 64) text)) → before + r ≡ char_rests (take ((block + 1) * 64) text)
blocks-now text before r block now e =
    let whole : block * 64 + ((block + 1) * 64 - block * 64) ≡ (block + 1) * 64 = omega arith in
    rw (now, e) (sym (rests-add (block * 64) ((block + 1) * 64 - block * 64) text) ∙ ap (λ n. char_rests (take n text)) whole)

pub block-within : (text : List ℕ) (before r block : ℕ) → before ≤ block * 64
    → r ≤ length (take ((block + 1) * 64 - block * 64) (drop (block * 64) text)) → before + r ≤ (block + 1) * 64
block-within text before r block within few = omega (arith, short-take ((block + 1) * 64 - block * 64) (drop (block * 64) text))

pub block-fits : (text : List ℕ) (now block : ℕ) → block < length text / 64 → length text < 2 ^ 32 → now ≤ (block + 1) * 64 → now < 2 ^ 32
block-fits text now block turn small within = omega arith

-- if every byte before the last block begins a character, the table may be empty
pub blocks-none : (text rests : List ℕ) (blocks : ℕ) → rests ≡ [] → length text / 64 ≤ blocks → char_rests (take (blocks * 64) text) ≡ 0
    → CountsBlocks text rests
blocks-none text rests blocks empty last none k within =
    let below : k * 64 ≤ blocks * 64 = omega arith in
    let between = rests-between text (k * 64) (blocks * 64) below in
    let order = between.order in rw empty (omega arith)

ascii-begins : (b : ℕ) → b < 128 → begins_char b ≡ true
ascii-begins b small = grind arith

ascii-rests : (bs : List ℕ) → IsAscii bs → char_rests bs ≡ 0
ascii-rests [] ascii = refl
ascii-rests (b ∷ bs) ascii = rests-begin b bs (ascii-begins b (ascii zero)) ∙ ascii-rests bs (λ i. ascii (suc i))

-- the same for a text of ASCII only
pub blocks-ascii : (text rests : List ℕ) → rests ≡ [] → IsAscii text → CountsBlocks text rests
blocks-ascii text rests empty ascii =
    let blocks = length text / 64 in
    let none : char_rests (take (blocks * 64) text) ≡ 0 = ascii-rests (take (blocks * 64) text) (IsAscii-take text (blocks * 64) ascii) in
    blocks-none text rests blocks empty (omega arith) none

pub blocks-all : (text rests : List ℕ) (blocks : ℕ) → length text / 64 ≤ blocks
    → ((k : ℕ) → k < blocks + 1 → get_or rests k 0 ≡ char_rests (take (k * 64) text)) → CountsBlocks text rests
blocks-all text rests blocks last table k within = table k (omega arith)
