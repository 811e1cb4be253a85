-- Whitespace, newlines and indentation.
use Rattle.std.specs.Prelude.{ℕ, ◌+◌, ◌*◌, Bool, true, false, ◌&&◌, ◌||◌, ◌==◌, nat_lt, if◌then◌else◌}
use Rattle.std.specs.Prelude.{[], ◌∷◌, drop, count_by, Option, Some, None, is_some, unwrap_or}
use Rattle.std.specs.List.{prefix_len}
use Rattle.starlark_lexer.specs.Bytes.{tab, carriage_return, space, backslash}
use Rattle.starlark_lexer.specs.Tokens.{Text}
use Rattle.starlark_lexer.specs.Newlines.{first, newline_len}
use Rattle.starlark_lexer.specs.Classes.{is_whitespace}

-- Whether a `\` has joined two lines after the first byte, or `None` if that byte is not skipped.
abbrev pub skip_turn : Bool → Bool → Text → Option Bool
skip_turn quiet joined text =
    if is_whitespace (first text) then Some false
    else if (quiet || joined) && nat_lt 0 (newline_len text) then Some (first text == carriage_return)
    else if first text == backslash && nat_lt 0 (newline_len (drop 1 text)) then Some true
    else None

-- how many bytes are skipped before a token; if `quiet`, a newline gives nothing
unfoldable pub skip_len : Bool → Bool → Text → ℕ
skip_len quiet joined [] = 0
skip_len quiet joined (c ∷ cs) =
    if is_some (skip_turn quiet joined (c ∷ cs)) then 1 + skip_len quiet (unwrap_or (skip_turn quiet joined (c ∷ cs)) false) cs else 0

-- how many spaces and tabs are at the front
abbrev pub whitespace_len : Text → ℕ
whitespace_len text = prefix_len is_whitespace text

-- what is left of the line is whitespace, and a newline ends it
abbrev pub is_blank_line : Text → Bool
is_blank_line text = nat_lt 0 (newline_len (drop (whitespace_len text) text))

-- how many bytes the blank lines at the front have
unfoldable pub blank_lines_len : Text → ℕ
blank_lines_len [] = 0
blank_lines_len (c ∷ cs) = if is_blank_line (c ∷ cs) then 1 + blank_lines_len cs else 0

-- a space counts one, a tab eight
abbrev pub indentation : Text → ℕ
indentation whitespace = count_by (λ b. b == space) whitespace + 8 * count_by (λ b. b == tab) whitespace
