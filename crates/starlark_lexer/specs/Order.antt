-- Where the lexemes of a text lie.
use Rattle.std.specs.Prelude.{◌≡◌, ℕ, ◌-◌, ◌<◌, ◌≤◌, true, List, [], ◌∷◌, length, take, drop, slice_index, Result, Ok, Err}
use Rattle.std.specs.Str.{IsCharBoundary}
use Rattle.starlark_lexer.specs.Cuts.{is_gap, IsSpelled}
use Rattle.starlark_lexer.specs.Tokens.{Text, Lexeme, LexerFault}

-- only spaces, tabs, `\` and newlines are between two positions
abbrev pub IsGap : Text → ℕ → ℕ → Type 0
IsGap text from to = (k : ℕ) → from ≤ k → k < to → is_gap (slice_index text k) ≡ true

-- A token comes after `from` with only such bytes between and lies in the text on character boundaries. The text at an identifier, a
-- keyword, an operator or punctuation is the token's spelling.
pub record IsPlaced (text : Text) (from : ℕ) (l : Lexeme) : Type 0 where
  pub after : from ≤ l.span.begin
  pub order : l.span.begin ≤ l.span.end
  pub begins : IsCharBoundary text l.span.begin
  pub ends : IsCharBoundary text l.span.end
  pub gap : IsGap text from l.span.begin
  pub spelled : IsSpelled (take (l.span.end - l.span.begin) (drop l.span.begin text)) (Ok l.token)

-- The lexemes come one after the other, from a position on. Without an error the last one ends where the text does; an error ends
-- inside the text and is the last.
abbrev pub ArePlaced : Text → ℕ → List (Result Lexeme LexerFault) → Type 0
ArePlaced text from [] = from ≡ length text
ArePlaced text from (Ok l ∷ ls) = IsPlaced text from l × ArePlaced text l.span.end ls
ArePlaced text from (Err e ∷ ls) = IsCharBoundary text e.span.end × (ls ≡ [])

-- there are some, and they lie in the text from its start on
pub record AreLaidOut (text : Text) (ls : List (Result Lexeme LexerFault)) : Type 0 where
  pub some : 0 < length ls
  pub placed : ArePlaced text 0 ls
