-- The pieces of literals: runs of plain bytes, and what other bytes begin.
use Rattle.std.specs.Prelude.{ℕ, Bool, not, ◌&&◌, ◌||◌, ◌==◌, nat_lt, if◌then◌else◌, [], ◌∷◌, take, slice_index, encode_utf8, Result, Ok, Err}
use Rattle.std.specs.List.{prefix_len}
use Rattle.starlark_lexer.specs.declared.string.escape.Adds.{Adds}
use Rattle.starlark_lexer.specs.declared.string.escape.Adds.TheVariants.{Front, Char, Byte}
use Rattle.starlark_lexer.specs.declared.string.escape.Piece.{Piece}
use Rattle.starlark_lexer.specs.declared.string.escape.Stop.{Stop}
use Rattle.starlark_lexer.specs.declared.string.escape.Stop.TheVariants.{Closed, Unfinished, Hole, LoneBrace}
use Rattle.starlark_lexer.specs.declared.string.opening.Style.{Style}
use Rattle.starlark_lexer.specs.Escapes.{piece_of, escape}
use Rattle.starlark_lexer.specs.Bytes.{line_feed, carriage_return, backslash, opening_curly, closing_curly}
use Rattle.starlark_lexer.specs.Tokens.{Text}

-- the byte can begin a newline
abbrev pub begins_newline : ℕ → Bool
begins_newline b = b == line_feed || b == carriage_return

abbrev pub is_brace : ℕ → Bool
is_brace b = b == opening_curly || b == closing_curly

-- the byte denotes itself, whatever follows it
abbrev pub is_plain : Style → ℕ → Bool
is_plain style b =
    ((not (b == style.quote) && not (b == backslash)) && (style.triple || not (begins_newline b))) && (not style.format || not (is_brace b))

abbrev pub as_it_stands : ℕ → Piece
as_it_stands len = piece_of (Front len) len

-- three quotes close a literal that three opened
unfoldable pub at_quote : Style → Text → Result Piece Stop
at_quote style text =
    if style.triple && not (slice_index text 1 == style.quote && slice_index text 2 == style.quote) then Ok (as_it_stands 1) else Err Closed

-- in raw literals a `\` stays, and so does the quote or `\` after it
unfoldable pub raw_backslash : Style → Text → Piece
raw_backslash style text =
    let next = slice_index text 1 in
    if next == style.quote || next == backslash then as_it_stands 2 else as_it_stands 1

-- two equal braces are one brace
unfoldable pub at_brace : Stop → Text → Result Piece Stop
at_brace stop text = if slice_index text 1 == slice_index text 0 then Ok (piece_of (Front 1) 2) else Err stop

-- a newline ends the line, and so does the end of the text; a carriage return alone does not
unfoldable pub at_newline : Text → Result Piece Stop
at_newline text = if slice_index text 0 == carriage_return && not (slice_index text 1 == line_feed) then Ok (as_it_stands 1) else Err Unfinished

-- what a byte that is not plain begins
unfoldable pub special : Style → Text → Result Piece Stop
special style text =
    let first = slice_index text 0 in
    if first == style.quote then at_quote style text
    else if first == backslash then (if style.raw then Ok (raw_backslash style text) else escape style.bytes text)
    else if first == opening_curly then at_brace Hole text
    else if first == closing_curly then at_brace LoneBrace text
    else at_newline text

-- the piece at the front: the longest run of plain bytes, or one that begins with another byte
unfoldable pub piece : Style → Text → Result Piece Stop
piece style text =
    let plain = prefix_len (is_plain style) text in
    if nat_lt 0 plain then Ok (as_it_stands plain) else special style text

-- what a piece adds to the value of a bytes literal, or of a string
abbrev pub added : Bool → Text → Adds → Text
added bytes text (Front n) = take n text
added bytes text (Char c) = encode_utf8 c
added bytes text (Byte b) = if bytes then b ∷ [] else encode_utf8 b
