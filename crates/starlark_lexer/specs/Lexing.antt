-- Comments, names, keywords, operators and punctuation: the lexeme at the front of a text.
use Rattle.std.specs.Prelude.{ℕ, ◌+◌, ◌-◌, not, ◌&&◌, ◌==◌, nat_lt, nat_le, if◌then◌else◌, length, take, drop, slice_index}
use Rattle.std.specs.Prelude.{slice_range, Option, Some, None, option_map, unwrap_or, Result, Ok, Err}
use Rattle.std.specs.List.{prefix_len}
use Rattle.starlark_lexer.specs.Bytes.{line_feed, carriage_return, number_sign}
use Rattle.starlark_lexer.specs.declared.token.LexerErrorKind.{LexerErrorKind}
use Rattle.starlark_lexer.specs.declared.token.LexerErrorKind.TheVariants as kinds
use Rattle.starlark_lexer.specs.Tokens.{Text, Terminal, Identifier, Comment, Newline}
use Rattle.starlark_lexer.specs.Newlines.{first, newline_len}
use Rattle.starlark_lexer.specs.Classes.{is_between, is_letter, is_name_byte, is_sign_byte}
use Rattle.starlark_lexer.specs.Cuts.{Cut, token, refused}
use Rattle.starlark_lexer.specs.Words.{keyword, sign, is_reserved}
use Rattle.starlark_lexer.specs.Numbers.{begins_number, number_cut}

-- how many bytes are before the newline, or before the end
abbrev pub before_newline : Text → ℕ
before_newline text =
    let line = prefix_len (λ b. not (b == line_feed)) text in
    if nat_lt line (length text) && slice_index text (line - 1) == carriage_return then line - 1 else line

-- a comment extends up to the newline, without one carriage return at its end
unfoldable pub comment_cut : Text → Cut
comment_cut text =
    let line = before_newline text in
    let len = if slice_index text (line - 1) == carriage_return then line - 1 else line in
    record { what = Ok (Comment (slice_range text 1 len)); begin = 0; len = len; taken = line }

-- a name that is not a keyword is rejected or an identifier
abbrev pub plain_name : Text → Result Terminal LexerErrorKind
plain_name text = if is_reserved text then Err kinds.ReservedKeyword else Ok (Identifier text)

-- the token of a name
unfoldable pub name_of : Text → Result Terminal LexerErrorKind
name_of text = unwrap_or (option_map (λ t. Ok t) (keyword text)) (plain_name text)

unfoldable pub name_cut : Text → Cut
name_cut text =
    let len = prefix_len is_name_byte text in
    record { what = name_of (take len text); begin = 0; len = len; taken = len }

-- how many bytes the first character has
abbrev pub char_len : Text → ℕ
char_len text = 1 + prefix_len (is_between 128 191) (drop 1 text)

-- the operator, punctuation or delimiter that the first n bytes are
abbrev pub sign_at : ℕ → Text → Option Terminal
sign_at n text = if nat_le n (prefix_len is_sign_byte text) then sign (take n text) else None

-- an operator of n bytes, if there is one, or another cut
abbrev pub sign_or : ℕ → Option Terminal → Cut → Cut
sign_or n (Some t) other = token t n
sign_or n None other = other

-- the longest operator, punctuation or delimiter at the front
unfoldable pub sign_cut : Text → Cut
sign_cut text =
    sign_or 3 (sign_at 3 text) (sign_or 2 (sign_at 2 text) (sign_or 1 (sign_at 1 text) (refused kinds.InvalidCharacter 0 (char_len text))))

-- the lexeme at the front of a text that is not empty and does not begin with a string or with bytes to skip
unfoldable pub cut : Text → Cut
cut text =
    if nat_lt 0 (newline_len text) then token Newline (newline_len text)
    else if first text == number_sign then comment_cut text
    else if is_letter (first text) then name_cut text
    else if begins_number text then number_cut text
    else sign_cut text
