-- What a builder of lint suppressions contains.
use Rattle.std.specs.Prelude.{◌≡◌, ℕ, ◌||◌, if◌then◌else◌, List, [], ◌∷◌, ◌++◌, map, string_bytes, All, Bool, false, Option, option_map, Result}
use Rattle.std.specs.List.{filter_map}
use Rattle.starlark_lexer.specs.Tokens.{Text, Span, span_of, Lexeme, LexerFault}
use Rattle.starlark_module.specs.Comments.Comments.{Comment, comments, is_no_comment, blocks}
use Rattle.starlark_module.specs.Comments.Suppressions.{Suppression, is_alone, joined, lines_span, suppression_of, with_line_after}
use Rattle.starlark_module.specs.declared.comments.lint_suppressions.SuppressionInfo.{SuppressionInfo}
use Rattle.starlark_module.specs.declared.comments.suppressed.LintSuppressions.{LintSuppressions}
use Rattle.starlark_module.specs.declared.comments.lint_suppressions.LintSuppressionsBuilder.{LintSuppressionsBuilder}

abbrev pub suppression : SuppressionInfo → Suppression
suppression s = record {
  names = map string_bytes s.short_names.listed.items;
  token = span_of s.token_span;
  covered = span_of s.effective_span;
  next_line = s.suppress_next_line;
}

abbrev pub suppressions_in : LintSuppressions → List Suppression
suppressions_in s = map suppression s.suppressions.items

-- what comments of these names suppress so far: they are at `token` on these lines, the last on the line of this number, and are several or one
abbrev pub suppressing : Text → List Text → Span → Span → ℕ → Bool → Suppression
suppressing text names token lines last several =
    let next_line = several || is_alone text token lines in
    record { names = names; token = token; covered = if next_line then with_line_after text last lines else lines; next_line = next_line }

-- the lines of the comments that join
abbrev pub lines_of : Text → List Comment → Option Span
lines_of text block = option_map (λ j. lines_span text j.0 j.1) (joined block)

-- These lexemes of a text have been read: held is what the blocks that are closed suppress, and what the comments at the end do; of these,
-- if they name something, the lines are known.
pub record IsRead (text : Text) (lexemes : List (Result Lexeme LexerFault)) (held : List Suppression) (lines : Option Span) : Type 0 where
  pub closed : List (List Comment)
  pub run : List (Result Lexeme LexerFault)
  pub run_is : All (λ x. is_no_comment x ≡ false) run
  pub split : (more : List (Result Lexeme LexerFault)) → blocks (lexemes ++ more) ≡ closed ++ blocks (run ++ more)
  pub holds : held ≡ filter_map (suppression_of text) (closed ++ comments run ∷ [])
  pub lines_are : lines ≡ lines_of text (comments run)

-- the builder has read these lexemes of a text
abbrev pub HasRead : Text → List (Result Lexeme LexerFault) → LintSuppressionsBuilder → Type 0
HasRead text lexemes b = IsRead text lexemes (map suppression b.suppressions.items) (option_map span_of b.lines)
