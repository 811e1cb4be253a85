-- The lexemes of a text: one step consumes a lexeme from what is left of the text.
use Rattle.std.specs.Prelude.{ℕ, zero, suc, ◌+◌, ◌-◌, ◌*◌, Bool, true, false, not, ◌&&◌, ◌||◌, ◌==◌, nat_lt, if◌then◌else◌, List, []}
use Rattle.std.specs.Prelude.{◌∷◌, ◌++◌, length, take, drop, slice_get, slice_index, Option, Some, None, unwrap_or, Result, Ok, Err}
use Rattle.std.specs.List.{list_any}
use Rattle.starlark_lexer.specs.Bytes.{exclamation_mark, number_sign, apostrophe, opening_round, closing_round, equals_sign}
use Rattle.starlark_lexer.specs.Bytes.{opening_square, closing_square, opening_curly, closing_curly}
use Rattle.starlark_lexer.specs.declared.token.LexerErrorKind.{LexerErrorKind}
use Rattle.starlark_lexer.specs.declared.token.LexerErrorKind.TheVariants as kinds
use Rattle.starlark_lexer.specs.declared.token.FStringQuote.{FStringQuote}
use Rattle.starlark_lexer.specs.declared.token.FStringQuote.TheVariants.{Single, Double, TripleSingle, TripleDouble}
use Rattle.starlark_lexer.specs.declared.string.escape.Stop.{Stop}
use Rattle.starlark_lexer.specs.declared.string.escape.Stop.TheVariants.{Closed, Unfinished, Hole, LoneBrace, BadEscape}
use Rattle.starlark_lexer.specs.declared.string.opening.Style.{Style}
use Rattle.starlark_lexer.specs.declared.f_string.FString.{FString}
use Rattle.starlark_lexer.specs.Tokens.{Text, Terminal, Newline, Indent, Dedent, FStringStart, FStringText, FStringExprStart}
use Rattle.starlark_lexer.specs.Tokens.{FStringBang, FStringExprEnd, FStringEnd, from_to, Lexeme, lexeme, LexerFault}
use Rattle.starlark_lexer.specs.Newlines.{first, newline_len}
use Rattle.starlark_lexer.specs.Cuts.{Cut}
use Rattle.starlark_lexer.specs.Lines.{skip_len, whitespace_len, blank_lines_len, indentation}
use Rattle.starlark_lexer.specs.Lexing.{cut, comment_cut}
use Rattle.starlark_lexer.specs.Openings.{opening, quotes_len}
use Rattle.starlark_lexer.specs.Strings.{run, string_cut}

-- What the lexer keeps: its position and what is left of the text; how many delimiters and holes are open; whether a line begins; the
-- levels of indentation and the open f-strings, each with the innermost last; and whether only a Dedent for each level is left to give.
pub record State : Type 0 where
  pub at : ℕ
  pub rest : Text
  pub depth : ℕ
  pub line_begins : Bool
  pub levels : List ℕ
  pub f_strings : List FString
  pub ended : Bool

abbrev pub start : Text → State
start text = record { at = 0; rest = text; depth = 0; line_begins = true; levels = []; f_strings = []; ended = false }

-- a lexeme or an error, and the state after it
abbrev pub Step : Type 0
Step = Result Lexeme LexerFault × State

-- after the next n bytes
abbrev pub after : ℕ → State → State
after n s = record s { at = s.at + n; rest = drop n s.rest }

-- the token of the next n bytes, and the state after it
abbrev pub gives : Terminal → ℕ → State → State → Step
gives what n s t = (Ok (lexeme what (from_to s.at (s.at + n))), t)

-- an error, after which nothing comes
abbrev pub refuses : LexerErrorKind → ℕ → ℕ → State → Step
refuses kind begin end s = (Err (record { kind = kind; span = from_to begin end }), record s { levels = []; ended = true })

-- the last, which is the innermost
abbrev pub innermost : {A : Type 0} → List A → Option A
innermost xs = slice_get xs (length xs - 1)

abbrev pub without_innermost : {A : Type 0} → List A → List A
without_innermost xs = take (length xs - 1) xs

-- ---- delimiters

-- the depth below which closing delimiters do not go: 0, or that of the innermost hole
abbrev pub floor : Option FString → ℕ
floor None = 0
floor (Some f) = f.depth + 1

abbrev pub opens : ℕ → Bool
opens b = (b == opening_round || b == opening_square) || b == opening_curly

abbrev pub closes : ℕ → Bool
closes b = (b == closing_round || b == closing_square) || b == closing_curly

abbrev pub bracket_depth : ℕ → ℕ → ℕ → ℕ
bracket_depth low b depth = if opens b then depth + 1 else if closes b && nat_lt low depth then depth - 1 else depth

-- the token that was cut off, or its error
abbrev pub take_what : State → Cut → Result Terminal LexerErrorKind → Step
take_what s c (Ok what) =
    gives what c.len s (record (after c.taken s) {
      depth = bracket_depth (floor (innermost s.f_strings)) (first s.rest) s.depth;
      line_begins = s.line_begins || nat_lt 0 (newline_len s.rest);
    })
take_what s c (Err kind) = refuses kind (s.at + c.begin) (s.at + c.begin + c.len) s

abbrev pub take_cut : State → Cut → Step
take_cut s c = take_what s c c.what

-- the Newline at the end of the text
abbrev pub give_last_newline : State → Step
give_last_newline s = gives Newline 0 s (record s { ended = true })

-- ---- f-strings

abbrev pub f_string_quote : Style → FStringQuote
f_string_quote style =
    if style.quote == apostrophe then (if style.triple then TripleSingle else Single) else if style.triple then TripleDouble else Double

-- an f-string whose prefix and quotes have n bytes begins
abbrev pub open_f_string : Style → ℕ → State → Step
open_f_string style n s =
    gives (FStringStart (f_string_quote style)) n s (record (after n s) {
      f_strings = s.f_strings ++ record { style = style; begin = s.at; depth = s.depth }
          ∷ [];
    })

-- what comes after the text of an f-string
abbrev pub end_text : FString → State → ℕ → Stop → Step
end_text f s len Closed =
    let n = quotes_len f.style.triple in
    gives FStringEnd n s (record (after n s) { f_strings = without_innermost s.f_strings })
end_text f s len Hole = gives FStringExprStart 1 s (record (after 1 s) { depth = s.depth + 1 })
end_text f s len LoneBrace = refuses kinds.InvalidFString (s.at + len) (s.at + len + 1) s
end_text f s len Unfinished = refuses kinds.UnfinishedString f.begin (s.at + len) s
end_text f s len (BadEscape n) = refuses kinds.InvalidEscape (s.at + len) (s.at + len + n) s

-- the closing quotes or a hole come next
abbrev pub is_end : Stop → Bool
is_end Closed = true
is_end Hole = true
is_end _ = false

-- a piece of text
abbrev pub give_text : Style → State → Step
give_text style s =
    let r = run style s.rest in
    gives (FStringText r.value) r.len s (after r.len s)

-- in the text of an f-string: its longest piece of text, or what comes after it
unfoldable pub text_step : FString → State → Step
text_step f s =
    let r = run f.style s.rest in
    if nat_lt 0 r.len && is_end r.stop then give_text f.style s else end_text f s r.len r.stop

-- ---- between tokens, and at the start of a line

-- at the depth of the innermost hole
abbrev pub is_at_hole : ℕ → Option FString → Bool
is_at_hole depth None = false
is_at_hole depth (Some f) = depth == f.depth + 1

-- a string or an f-string that opens like this, or another lexeme
abbrev pub literal_or : State → Option (Style × ℕ) → Step
literal_or s (Some o) = if o.0.format then open_f_string o.0 o.1 s else take_cut s (string_cut o.0 o.1 s.rest)
literal_or s None = take_cut s (cut s.rest)

-- the token that begins here, outside of all holes or inside delimiters
unfoldable pub plain_step : State → Step
plain_step s = literal_or s (opening s.rest)

-- the token that begins here in a hole: `}` ends it, and a `!` that does not begin `!=` is a token
unfoldable pub hole_step : State → Step
hole_step s =
    if first s.rest == closing_curly then gives FStringExprEnd 1 s (record (after 1 s) { depth = s.depth - 1 })
    else if first s.rest == exclamation_mark && not (slice_index s.rest 1 == equals_sign) then gives FStringBang 1 s (after 1 s)
    else plain_step s

unfoldable pub front_step : State → Step
front_step s = if is_at_hole s.depth (innermost s.f_strings) then hole_step s else plain_step s

-- the next token on a line, or the Newline at the end of the text; inside delimiters a newline gives nothing
unfoldable pub token_step : State → Step
token_step s =
    let t = after (skip_len (nat_lt 0 s.depth) false s.rest) s in
    if length t.rest == 0 then give_last_newline t else front_step t

-- the level of the line before
abbrev pub level : List ℕ → ℕ
level levels = unwrap_or (innermost levels) 0

-- a line may return to this indentation
abbrev pub is_level : ℕ → List ℕ → Bool
is_level n levels = n == 0 || list_any (λ l. l == n) levels

-- one level more
abbrev pub indent : State → ℕ → ℕ → Step
indent s whitespace n = gives Indent whitespace s (record (after whitespace s) { line_begins = false; levels = s.levels ++ n ∷ [] })

-- A line of this indentation begins. Its whitespace has this many bytes.
unfoldable pub indent_step : State → ℕ → ℕ → Step
indent_step s whitespace n =
    if nat_lt (level s.levels) n then indent s whitespace n
    else if n == level s.levels then token_step (record (after whitespace s) { line_begins = false })
    else if is_level n s.levels then gives Dedent 0 s (record s { levels = without_innermost s.levels })
    else refuses kinds.Indentation s.at (s.at + whitespace) s

-- a line that is not blank begins here; a comment alone is not a line
unfoldable pub filled_line_step : State → Step
filled_line_step line =
    let whitespace = whitespace_len line.rest in
    if whitespace == length line.rest then give_last_newline (after whitespace line)
    else if slice_index line.rest whitespace == number_sign then take_cut (after whitespace line) (comment_cut (drop whitespace line.rest))
    else indent_step line whitespace (indentation (take whitespace line.rest))

-- blank lines are skipped
abbrev pub line_step : State → Step
line_step s = filled_line_step (after (blank_lines_len s.rest) s)

-- ---- one step

-- at the end, a Dedent for each level that is left
abbrev pub end_step : State → Option ℕ → Option Step
end_step s None = None
end_step s (Some n) = Some (gives Dedent 0 s (record s { levels = without_innermost s.levels }))

abbrev pub line_or_token_step : State → Step
line_or_token_step s = if s.line_begins then line_step s else token_step s

-- the text of an f-string is read if no delimiter and no hole is open in it
abbrev pub text_or_line_step : State → Option FString → Step
text_or_line_step s None = line_or_token_step s
text_or_line_step s (Some f) = if s.depth == f.depth then text_step f s else line_or_token_step s

unfoldable pub step : State → Option Step
step s = if s.ended then end_step s (innermost s.levels) else Some (text_or_line_step s (innermost s.f_strings))

-- more than the lexemes that can come
abbrev pub left : State → ℕ
left s = length s.levels + (if s.ended then 0 else 1 + 2 * length s.rest)

-- the lexeme of a step, and those after it
abbrev pub and_then : Option Step → (State → List (Result Lexeme LexerFault)) → List (Result Lexeme LexerFault)
and_then None more = []
and_then (Some p) more = p.0 ∷ more p.1

-- the lexemes from a state on, at most n of them
abbrev pub lexemes_from : ℕ → State → List (Result Lexeme LexerFault)
lexemes_from zero s = []
lexemes_from (suc n) s = and_then (step s) (lexemes_from n)

-- the lexemes of a text; no byte gives more than two
unfoldable pub lexemes : Text → List (Result Lexeme LexerFault)
lexemes text = lexemes_from (2 + 2 * length text) (start text)
