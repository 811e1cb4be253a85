-- Positions in a text: lines, columns, and how they are displayed.
use Rattle.std.specs.Prelude.{◌≡◌, ◌^◌, ℕ, ◌<◌, ◌≤◌, zero, suc, ◌+◌, ◌-◌, ◌*◌, Bool, ◌&&◌, ◌||◌, ◌==◌, nat_le, nat_lt, not, if◌then◌else◌, List}
use Rattle.std.specs.Prelude.{[], ◌∷◌, ◌++◌, length, take, drop, slice_index, slice_range, count_by, codes, Option, Some, None, option_map}
use Rattle.std.specs.List.{prefix_len}
use Rattle.std.specs.Str.{IsCharBoundary}
use Rattle.std.specs.Fmt.{decimal}
use Rattle.starlark_lexer.specs.Bytes.{line_feed, carriage_return}

-- a file: its name and its text
pub record File : Type 0 where
  pub name : List ℕ
  pub text : List ℕ

-- the byte begins a character
abbrev pub begins_char : ℕ → Bool
begins_char b = nat_lt b 128 || nat_le 192 b

-- the last position up to `at` where a character begins
abbrev pub char_begin : List ℕ → ℕ → ℕ
char_begin text zero = 0
char_begin text (suc at) = if begins_char (slice_index text (suc at)) then suc at else char_begin text at

-- a position moved into the text: past its end it is the end, inside a character it is the start of that character
abbrev pub place_in : List ℕ → ℕ → ℕ
place_in text at = if nat_le (length text) at then length text else char_begin text at

-- r is the last position up to `at` where a character begins or the text ends
pub record IsPlaceIn (text : List ℕ) (at r : ℕ) : Type 0 where
  pub bound : r ≤ at
  pub boundary : IsCharBoundary text r
  pub nearest : (i : ℕ) → r < i → i ≤ at → ¬ (IsCharBoundary text i)

-- the text between two positions, each moved into the text
abbrev pub text_between : List ℕ → ℕ → ℕ → List ℕ
text_between text begin end = slice_range text (place_in text begin) (place_in text end)

-- how many line feeds are before a position
abbrev pub line_of : List ℕ → ℕ → ℕ
line_of text at = count_by (λ b. b == line_feed) (take (place_in text at) text)

-- a line, and a column in characters, both counted from 0
pub record Place : Type 0 where
  pub line : ℕ
  pub column : ℕ

-- the position after a byte: a line feed begins a line, and the first byte of any other character is a column
abbrev pub after_byte : Place → ℕ → Place
after_byte at b =
    if b == line_feed then record { line = at.line + 1; column = 0 }
    else if begins_char b then record { line = at.line; column = at.column + 1 }
    else at

abbrev pub after_bytes : Place → List ℕ → Place
after_bytes at [] = at
after_bytes at (b ∷ bs) = after_bytes (after_byte at b) bs

abbrev pub text_begin : Place
text_begin = record { line = 0; column = 0 }

abbrev pub place_of : List ℕ → ℕ → Place
place_of text at = after_bytes text_begin (take (place_in text at) text)

-- how many bytes are before a line, or `None` past the last
abbrev pub bytes_before : ℕ → List ℕ → Option ℕ
bytes_before zero text = Some 0
bytes_before (suc line) [] = None
bytes_before (suc line) (b ∷ bs) = option_map (λ n. 1 + n) (bytes_before (if b == line_feed then line else suc line) bs)

-- where each line except the first begins, in a text with `at` bytes before it
abbrev pub line_begins : ℕ → List ℕ → List ℕ
line_begins at [] = []
line_begins at (b ∷ bs) = if b == line_feed then (at + 1) ∷ line_begins (at + 1) bs else line_begins (at + 1) bs

-- how many bytes do not begin a character
abbrev pub char_rests : List ℕ → ℕ
char_rests text = count_by (λ b. not (begins_char b)) text

-- for each 64 bytes of a text, how many bytes before them do not begin a character, which is 0 past the end of `rests`
abbrev pub CountsBlocks : List ℕ → List ℕ → Type 0
CountsBlocks text rests = (block : ℕ) → block * 64 ≤ length text → slice_index rests block ≡ char_rests (take (block * 64) text)

-- a text of fewer than 2^32 bytes, where each line except the first begins, and how many bytes before each 64 do not begin a character
pub record Lined (text begins rests : List ℕ) : Type 0 where
  pub small : length text < 2 ^ 32
  pub table : begins ≡ line_begins 0 text
  pub counted : CountsBlocks text rests

-- the length of the first line, with its line feed
abbrev pub first_line_len : List ℕ → ℕ
first_line_len text =
    let before = prefix_len (λ b. not (b == line_feed)) text in
    if nat_lt before (length text) then before + 1 else before

-- where a line begins and ends, its line feed included
abbrev pub line_at : ℕ → List ℕ → Option (ℕ × ℕ)
line_at line text = option_map (λ n. (n, n + first_line_len (drop n text))) (bytes_before line text)

-- the end of a span without its last byte, if that is this one
abbrev pub end_before : ℕ → List ℕ → ℕ → ℕ → ℕ
end_before byte text begin end = if nat_lt begin end && (slice_index text (end - 1) == byte) then end - 1 else end

-- the end of a line without a line feed at its end, and then without one carriage return there
abbrev pub trimmed_end : List ℕ → ℕ → ℕ → ℕ
trimmed_end text begin end = end_before carriage_return text begin (end_before line_feed text begin end)

abbrev pub trimmed_line_at : ℕ → List ℕ → Option (ℕ × ℕ)
trimmed_line_at line text = option_map (λ s. (s.0, trimmed_end text s.0 s.1)) (line_at line text)

-- `L:C`, counted from 1
abbrev pub place_text : Place → List ℕ
place_text at = decimal (at.line + 1) ++ codes ":" ++ decimal (at.column + 1)

abbrev pub places_text : Place → Place → List ℕ
places_text begin end =
    if (begin.line == end.line) && (begin.column == end.column) then place_text begin
    else if begin.line == end.line then place_text begin ++ codes "-" ++ decimal (end.column + 1)
    else place_text begin ++ codes "-" ++ place_text end
