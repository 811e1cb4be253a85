-- Texts with some characters replaced.
use Rattle.std.specs.Prelude.{◌==◌, ◌||◌, ℕ, chars, codes, flat_map, if◌then◌else◌, nat_lt}
use Rattle.std.specs.Char.{encode_utf8}
use Rattle.starlark_lexer.specs.Tokens.{Text}
use Rattle.starlark_diagnostics.specs.declared.emit.written.Style.{Style}
use Rattle.starlark_diagnostics.specs.declared.emit.written.Style.TheVariants as style

-- on a terminal: a tab is four spaces, and another control character is U+FFFD
abbrev pub shown_char : ℕ → Text
shown_char c = if c == 9 then codes "    " else (if nat_lt c 32 || c == 127 then encode_utf8 65533 else encode_utf8 c)

-- in the message of a command of GitHub: `%`, CR and LF are escaped
abbrev pub data_char : ℕ → Text
data_char c = if c == 37 then codes "%25" else (if c == 13 then codes "%0D" else (if c == 10 then codes "%0A" else encode_utf8 c))

-- in a property of it: so are `:` and `,`
abbrev pub property_char : ℕ → Text
property_char c = if c == 58 then codes "%3A" else (if c == 44 then codes "%2C" else data_char c)

abbrev pub written_char : Style → ℕ → Text
written_char style.Shown c = shown_char c
written_char style.Data c = data_char c
written_char style.Property c = property_char c

abbrev pub written : Style → Text → Text
written s text = flat_map (written_char s) (chars text)
