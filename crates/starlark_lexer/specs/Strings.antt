-- String and bytes literals, and the text pieces of f-strings.
use Rattle.std.specs.Prelude.{◌≡◌, ◌≢◌, ◌⊎◌, ◌<◌, slice_index, true, false, ℕ, zero, suc, ◌+◌, if◌then◌else◌, [], ◌++◌, length, drop, Result, Ok, Err}
use Rattle.starlark_lexer.specs.declared.string.escape.Piece.{Piece}
use Rattle.starlark_lexer.specs.declared.string.escape.Stop.{Stop}
use Rattle.starlark_lexer.specs.declared.string.escape.Stop.TheVariants.{Closed, Unfinished, Hole, LoneBrace, BadEscape}
use Rattle.starlark_lexer.specs.declared.string.opening.Style.{Style}
use Rattle.starlark_lexer.specs.declared.token.LexerErrorKind.TheVariants.{UnfinishedString, InvalidEscape}
use Rattle.starlark_lexer.specs.Cuts.{Cut, token, refused}
use Rattle.starlark_lexer.specs.Newlines.{newline_len}
use Rattle.starlark_lexer.specs.Bytes.{backslash, opening_curly, closing_curly}
use Rattle.starlark_lexer.specs.Openings.{quotes_len}
use Rattle.starlark_lexer.specs.Pieces.{piece, added}
use Rattle.starlark_lexer.specs.Tokens.{Text, Terminal, String, Bytes}

-- ---- the pieces up to a stop

-- the value of the pieces, their length in bytes, and what stops them
pub record Run : Type 0 where
  pub value : Text
  pub len : ℕ
  pub stop : Stop

-- a run that continues with `more` after the piece at the front, if there is one
abbrev pub run_from : Style → Text → (Text → Run) → Result Piece Stop → Run
run_from style text more (Ok p) =
    let after = more (drop p.len text) in
    record { value = added style.bytes text p.adds ++ after.value; len = p.len + after.len; stop = after.stop }
run_from style text more (Err stop) = record { value = []; len = 0; stop = stop }

-- the pieces at the front, in fewer than n
unfoldable pub run_within : ℕ → Style → Text → Run
run_within zero style text = record { value = []; len = 0; stop = Unfinished }
run_within (suc n) style text = run_from style text (run_within n style) (piece style text)

-- the pieces at the front; each has at least one byte, so there are no more pieces than bytes
unfoldable pub run : Style → Text → Run
run style text = run_within (suc (length text)) style text

-- the value of such a literal is its text: it is raw, and not an f-string
pub record IsVerbatim (style : Style) : Type 0 where
  pub raw : style.raw ≡ true
  pub format : style.format ≡ false

-- what is at the front of the text that a run leaves
abbrev pub StopsAt : Style → Text → Stop → Type 0
StopsAt style text Closed = (k : ℕ) → k < quotes_len style.triple → slice_index text k ≡ style.quote
StopsAt style text Unfinished = (text ≡ []) ⊎ ((style.triple ≡ false) × (0 < newline_len text))
StopsAt style text Hole = (slice_index text 0 ≡ opening_curly) × (slice_index text 1 ≢ opening_curly) × (style.format ≡ true)
StopsAt style text LoneBrace = (slice_index text 0 ≡ closing_curly) × (slice_index text 1 ≢ closing_curly) × (style.format ≡ true)
StopsAt style text (BadEscape n) = (slice_index text 0 ≡ backslash) × (style.raw ≡ false)

-- the length of what stops a run
abbrev pub stop_len : Style → Stop → ℕ
stop_len style Closed = quotes_len style.triple
stop_len style Unfinished = 0
stop_len style Hole = 1
stop_len style LoneBrace = 1
stop_len style (BadEscape n) = n

-- ---- strings and bytes literals

unfoldable pub literal : Style → Text → Terminal
literal style text = if style.bytes then Bytes (run style text).value else String (run style text).value

-- a literal with these opening quotes, whose pieces have this length and stop like this
abbrev pub cut_at : Style → ℕ → Text → ℕ → Stop → Cut
cut_at style opening_len inside len Closed = token (literal style inside) (opening_len + len + quotes_len style.triple)
cut_at style opening_len inside len (BadEscape n) = refused InvalidEscape (opening_len + len) n
cut_at style opening_len inside len _ = refused UnfinishedString 0 (opening_len + len)

-- the literal at the front, which is not an f-string, with a prefix and opening quotes of n bytes
unfoldable pub string_cut : Style → ℕ → Text → Cut
string_cut style opening_len text =
    let inside = drop opening_len text in
    let r = run style inside in
    cut_at style opening_len inside r.len r.stop
