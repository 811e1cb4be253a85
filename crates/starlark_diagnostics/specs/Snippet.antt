-- The lines of a span, with carets below it.
use Rattle.std.specs.Prelude.{ℕ, ◌+◌, ◌-◌, ◌++◌, [], Option, Some, None, false, chars, codes, decimal, if◌then◌else◌, length, max, min, nat_le, nat_lt}
use Rattle.std.specs.List.{repeat}
use Rattle.unicode_width.specs.Width.{str_width}
use Rattle.starlark_lexer.specs.Places.{place_of, text_between, trimmed_line_at}
use Rattle.starlark_lexer.specs.Tokens.{Span, Text}
use Rattle.starlark_diagnostics.specs.Written.{written}
use Rattle.starlark_diagnostics.specs.declared.emit.row.Row.{Row}
use Rattle.starlark_diagnostics.specs.declared.emit.written.Style.TheVariants as style

-- a position, moved between the ends of a line
abbrev pub within : ℕ → ℕ → ℕ → ℕ
within first last at = max (min at last) first

-- Where what is shown of a line begins: a line of up to 160 bytes at its start, a longer one up to 80 bytes before the span.
abbrev pub shown_from : ℕ → ℕ → ℕ → ℕ
shown_from first last begin = if nat_le (last - first) 160 then first else max (begin - 80) first

-- where it ends, after 160 bytes at most
abbrev pub shown_to : ℕ → ℕ → ℕ
shown_to from last = if nat_le (last - from) 160 then last else from + 160

-- what is shown of a line with these ends, and what of it is in the span
abbrev pub row_of : ℕ × ℕ → Span → Row
row_of line span =
    let begin = within line.0 line.1 span.begin in
    let from = shown_from line.0 line.1 begin in
    let to = shown_to from line.1 in
    record { first = line.0; from = from; begin = begin; end = min (within line.0 line.1 span.end) to; to = to; last = line.1 }

-- the text between two positions, as a terminal shows it
abbrev pub shown : Text → ℕ → ℕ → Text
shown text begin end = written style.Shown (text_between text begin (max end begin))

-- written where the start of a line is cut off
abbrev pub cut : Row → Text
cut row = if nat_lt row.first row.from then codes "..." else []

-- written where its end is cut off
abbrev pub tail : Row → Text
tail row = if nat_lt row.to row.last then codes "..." else []

-- its columns
abbrev pub width : Text → ℕ → ℕ → ℕ
width text begin end = str_width false (chars (shown text begin end))

-- a number, in at least four columns
abbrev pub number_text : ℕ → Text
number_text n = repeat (4 - length (decimal n)) (codes " ") ++ decimal n

-- what is shown of a line: before the span, in it, and after it
abbrev pub shown_row : Text → Row → Text
shown_row text row = cut row ++ (shown text row.from row.begin ++ (shown text row.begin row.end ++ (shown text row.end row.to ++ tail row)))

-- as many spaces as columns are before the span, and as many carets as are in it, at least one
abbrev pub carets : Text → Row → Text
carets text row =
    repeat (length (cut row)) (codes " ")
    ++ (repeat (width text row.from row.begin) (codes " ") ++ repeat (max (width text row.begin row.end) 1) (codes "^"))

-- a line with its number, and the carets below it
abbrev pub marked_line : Text → ℕ → Row → Text
marked_line text number row =
    number_text number ++ (codes " | " ++ (shown_row text row ++ (codes "\n"
    ++ (repeat (length (number_text number)) (codes " ") ++ (codes " | " ++ (carets text row ++ codes "\n"))))))

-- of a line with these ends, if there is one
abbrev pub line_text : Text → Span → ℕ → Option (ℕ × ℕ) → Text
line_text text span line None = []
line_text text span line (Some ends) = marked_line text (line + 1) (row_of ends span)

-- of a line that is not after the last
abbrev pub line_up_to : Text → Span → ℕ → ℕ → Text
line_up_to text span line last = if nat_lt last line then [] else line_text text span line (trimmed_line_at line text)

-- the line where the span begins, and that of its last byte
abbrev pub first_line : Text → Span → ℕ
first_line text span = (place_of text span.begin).line

abbrev pub last_line : Text → Span → ℕ
last_line text span = (place_of text (max (span.end - 1) span.begin)).line

-- written if there are lines after this one
abbrev pub rest_after : ℕ → ℕ → Text
rest_after line last = if nat_lt line last then codes "     | ...\n" else []

-- the first three lines of the span
abbrev pub snippet : Text → Span → Text
snippet text span =
    let first = first_line text span in
    let last = last_line text span in
    line_up_to text span first last
    ++ (line_up_to text span (first + 1) last ++ (line_up_to text span (first + 2) last ++ rest_after (first + 2) last))
