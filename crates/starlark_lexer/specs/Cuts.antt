-- A lexeme, relative to the position of the lexer.
use Rattle.std.specs.Prelude.{◌≡◌, ℕ, ◌+◌, ◌<◌, ◌≤◌, Bool, true, ◌||◌, ◌==◌, take, slice_index, IfSome, Result, Ok, Err}
use Rattle.std.specs.Str.{IsCharBoundary}
use Rattle.starlark_lexer.specs.Bytes.{line_feed, carriage_return, backslash}
use Rattle.starlark_lexer.specs.declared.token.LexerErrorKind.{LexerErrorKind}
use Rattle.starlark_lexer.specs.declared.token.LexerErrorKind.TheVariants as kinds
use Rattle.starlark_lexer.specs.Tokens.{Text, Terminal}
use Rattle.starlark_lexer.specs.Classes.{is_whitespace}
use Rattle.starlark_lexer.specs.Words.{spelling}

-- The lexeme, or why it is rejected; it begins `begin` bytes on and is `len` bytes long. `taken` bytes are consumed.
pub record Cut : Type 0 where
  pub what : Result Terminal LexerErrorKind
  pub begin : ℕ
  pub len : ℕ
  pub taken : ℕ

abbrev pub token : Terminal → ℕ → Cut
token what len = record { what = Ok what; begin = 0; len = len; taken = len }

-- a token of `len` bytes, with which `taken` bytes are consumed
abbrev pub token_taking : Terminal → ℕ → ℕ → Cut
token_taking what len taken = record { what = Ok what; begin = 0; len = len; taken = taken }

abbrev pub refused : LexerErrorKind → ℕ → ℕ → Cut
refused kind begin len = record { what = Err kind; begin = begin; len = len; taken = begin + len }

-- a byte that may be between lexemes
abbrev pub is_gap : ℕ → Bool
is_gap b = (is_whitespace b || b == backslash) || (b == carriage_return || b == line_feed)

-- an error other than out of memory
abbrev pub IsFault : LexerErrorKind → Type 0
IsFault kinds.Memory = ⊥
IsFault _ = Unit {0}

-- identifiers, keywords, operators and punctuation have their spelling, and nothing is rejected as out of memory
abbrev pub IsSpelled : Text → Result Terminal LexerErrorKind → Type 0
IsSpelled source (Ok t) = IfSome (spelling t) (λ text. text ≡ source)
IsSpelled source (Err kind) = IsFault kind

-- a token begins at the front
abbrev pub IsFront : ℕ → Result Terminal LexerErrorKind → Type 0
IsFront begin (Ok t) = begin ≡ 0
IsFront begin (Err kind) = Unit {0}

-- The lexeme lies in the text, on character boundaries. Bytes that are consumed besides it may be between lexemes.
pub record IsCutOf (text : Text) (c : Cut) : Type 0 where
  pub some : 0 < c.len
  pub front : IsFront c.begin c.what
  pub begin : IsCharBoundary text c.begin
  pub end : IsCharBoundary text (c.begin + c.len)
  pub taken : IsCharBoundary text c.taken
  pub within : c.begin + c.len ≤ c.taken
  pub gap : (k : ℕ) → c.begin + c.len ≤ k → k < c.taken → is_gap (slice_index text k) ≡ true
  pub spelled : IsSpelled (take c.len text) c.what
