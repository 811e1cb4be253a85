-- What comments suppress, and where.
use Rattle.std.specs.Prelude.{◌≡◌, ℕ, ◌+◌, ◌≤◌, ◌⊎◌, Bool, true, ◌&&◌, ◌||◌, ◌==◌, not, nat_eq, nat_lt, if◌then◌else◌, List, [], ◌∷◌, length}
use Rattle.std.specs.Prelude.{map, flat_map, drop, filter, codes, Any, Contains, Option, Some, None, option_map, unwrap_or, Result}
use Rattle.std.specs.List.{filter_map, slice_split, starts_with}
use Rattle.std.specs.Str.{trim, trim_start}
use Rattle.starlark_lexer.specs.Bytes.{space}
use Rattle.starlark_lexer.specs.Places.{line_of, line_at, trimmed_line_at, text_between}
use Rattle.starlark_lexer.specs.Tokens.{Text, Span, from_to, Lexeme, LexerFault}
use Rattle.starlark_tree.specs.Signatures.{merge, merge_all}
use Rattle.starlark_module.specs.Comments.Comments.{Comment, blocks}

-- ---- names

-- what a comment that suppresses something begins with
abbrev pub prefix : Text
prefix = codes "starlark-lint-disable "

-- a space or a comma
abbrev pub is_separator : ℕ → Bool
is_separator b = (b == space) || (b == 44)

abbrev pub is_empty : {A : Type 0} → List A → Bool
is_empty xs = length xs == 0

-- the pieces of a text between spaces and commas
abbrev pub pieces : Text → List Text
pieces text = slice_split is_separator text

-- those of an optional text
abbrev pub pieces_of : Option Text → List Text
pieces_of None = []
pieces_of (Some text) = pieces text

abbrev pub names_among : List Text → List Text
names_among parts = filter (λ name. not (is_empty name)) (map trim parts)

-- the names in a text that spaces and commas separate
unfoldable pub names_listed : Text → List Text
names_listed text = names_among (pieces text)

-- the names that a comment of this text suppresses
unfoldable pub names_in : Text → List Text
names_in text = if starts_with nat_eq (trim_start text) prefix then names_listed (drop (length prefix) (trim_start text)) else []

-- ---- spans

abbrev pub between_ends : ℕ × ℕ → Span
between_ends ends = from_to ends.0 ends.1

-- the line of an offset, without its newline
unfoldable pub line_around : Text → ℕ → Span
line_around text place = unwrap_or (option_map between_ends (trimmed_line_at (line_of text place) text)) (from_to 0 0)

abbrev pub is_blank : Text → Bool
is_blank text = is_empty (trim text)

-- a comment at `token` is alone on its line, except for whitespace before it
unfoldable pub is_alone : Text → Span → Span → Bool
is_alone text token line =
    ((token.begin == line.begin) && (token.end == line.end)) || ((token.end == line.end) && is_blank (text_between text line.begin token.begin))

-- a span and the line after this one with its newline, if there is one
abbrev pub with_line : Option (ℕ × ℕ) → Span → Span
with_line None span = span
with_line (Some line) span = merge span (between_ends line)

unfoldable pub with_line_after : Text → ℕ → Span → Span
with_line_after text line span = with_line (line_at (line + 1) text) span

-- ---- what a block suppresses

-- Lints of these names are silent where the covered span is. The flag says whether the line after the comments is covered.
pub record Suppression : Type 0 where
  pub names : List Text
  pub token : Span
  pub covered : Span
  pub next_line : Bool

-- the comments of a block that join: the first that names something, and all after it
abbrev pub joined : List Comment → Option (Comment × List Comment)
joined [] = None
joined (c ∷ cs) = if is_empty (names_in c.text) then joined cs else Some (c, cs)

abbrev pub last_of : {A : Type 0} → A → List A → A
last_of x [] = x
last_of x (y ∷ ys) = last_of y ys

module _ (text : Text) (first : Comment) (rest : List Comment) where
  abbrev pub all_names : List Text
  all_names = flat_map (λ c. names_in c.text) (first ∷ rest)

  -- where the comments are
  abbrev pub token_span : Span
  token_span = merge_all first.span (map (λ c. c.span) rest)

  -- the lines in which they begin, without the last one's newline
  abbrev pub lines_span : Span
  lines_span = merge_all (line_around text first.span.begin) (map (λ c. line_around text c.span.begin) rest)

  -- the line in which the last of them begins
  abbrev pub last_line : ℕ
  last_line = line_of text (last_of first rest).span.begin

  -- several comments cover the next line, and so does one that is alone on its line
  abbrev pub covers_next : Bool
  covers_next = nat_lt 0 (length rest) || is_alone text token_span lines_span

  abbrev pub suppression_by : Suppression
  suppression_by = record {
    names = all_names;
    token = token_span;
    covered = if covers_next then with_line_after text last_line lines_span else lines_span;
    next_line = covers_next;
  }

-- what a block suppresses, if one of its comments names something
abbrev pub suppression_of : Text → List Comment → Option Suppression
suppression_of text block = option_map (λ j. suppression_by text j.0 j.1) (joined block)

-- what lexemes suppress in a text, block by block
abbrev pub suppressions : Text → List (Result Lexeme LexerFault) → List Suppression
suppressions text lexemes = filter_map (suppression_of text) (blocks lexemes)

-- ---- whether an issue is suppressed

-- the offset lies in the span or at one of its ends
abbrev pub Has : Span → ℕ → Type 0
Has span place = (span.begin ≤ place) × (place ≤ span.end)

-- one has an end of the other, or all of it
abbrev pub Intersects : Span → Span → Type 0
Intersects a b = Has a b.begin ⊎ Has a b.end ⊎ Has b a.begin

-- The suppression covers an issue of this name. An issue that ends with the newline after the comments is not on the next line.
pub record Covers (name : Text) (issue : Span) (s : Suppression) : Type 0 where
  pub named : Contains s.names name
  pub met : Intersects issue s.covered
  pub goes_on : ¬ ((s.next_line ≡ true) × (issue.end ≡ s.token.end + 1))

-- an issue of this name is suppressed there
abbrev pub IsCovered : List Suppression → Text → Span → Type 0
IsCovered all name issue = Any (Covers name issue) all
