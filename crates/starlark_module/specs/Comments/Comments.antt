-- The comments among lexemes.
use Rattle.std.specs.Prelude.{List, map, Bool, is_none, Option, Some, None, Result, Ok, Err}
use Rattle.std.specs.List.{filter_map, slice_split}
use Rattle.starlark_lexer.specs.Tokens as tokens
use Rattle.starlark_lexer.specs.Tokens.{Text, Span, Terminal, Lexeme, LexerFault}

-- a comment: its text without the `#`, and where it is, with it
pub record Comment : Type 0 where
  pub text : Text
  pub span : Span

abbrev pub comment_in : Terminal → Span → Option Comment
comment_in (tokens.Comment text) span = Some record { text = text; span = span }
comment_in _ span = None

-- the comment that a lexeme is
abbrev pub comment_of : Result Lexeme LexerFault → Option Comment
comment_of (Ok lexeme) = comment_in lexeme.token lexeme.span
comment_of (Err fault) = None

-- all comments, in order
abbrev pub comments : List (Result Lexeme LexerFault) → List Comment
comments lexemes = filter_map comment_of lexemes

abbrev pub is_no_comment : Result Lexeme LexerFault → Bool
is_no_comment lexeme = is_none (comment_of lexeme)

-- the runs of comments with no other lexeme between, empty ones among them
abbrev pub blocks : List (Result Lexeme LexerFault) → List (List Comment)
blocks lexemes = map comments (slice_split is_no_comment lexemes)
