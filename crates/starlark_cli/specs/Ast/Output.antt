-- What the program is asked for, and what it writes.
use Rattle.std.specs.Prelude.{◌≡◌, ◌⊎◌, ℕ, List, [], ◌∷◌, ◌++◌, Option, codes, flat_map}
use Rattle.std.specs.Io.KnownBytes.{Appends}
use Rattle.starlark_cli.specs.declared.ast.request.Mode.{Mode}
use Rattle.starlark_cli.specs.declared.ast.request.Mode.TheVariants as modes
use Rattle.starlark_module.specs.Comments.Keeping.{comment_spans}
use Rattle.starlark_module.specs.Comments.Suppressions.{IsCovered, Suppression, suppressions}
use Rattle.starlark_spec.specs.Items.{items}
use Rattle.starlark_lexer.specs.Dialects.{every_part, no_part}
use Rattle.starlark_lexer.specs.Lexemes.{lexemes}
use Rattle.starlark_lexer.specs.Places.{place_of, places_text, text_between}
use Rattle.starlark_lexer.specs.Tokens.{Span, Text}
use Rattle.starlark_lexer.specs.declared.dialect.Dialect.{Dialect}
use Rattle.starlark_passes.specs.Lint.LintIssues.{Issue, issues}
use Rattle.starlark_passes.specs.Lint.Without.{Without}
use Rattle.starlark_passes.specs.Outline.Outline.{Load, loads, locations}
use Rattle.starlark_tree.specs.Ast.{Statement, no_payload}
use Rattle.starlark_tree.specs.Literals.{quoted}
use Rattle.starlark_tree.specs.Printing.{statement_text}
use Rattle.starlark_validate.specs.Answers.{IsValidModule}
use Rattle.starlark_cli.specs.Symbols.{symbol_text}

-- the dialect has this name
abbrev pub NamesDialect : List ℕ → Dialect → Type 0
NamesDialect word d = ((word ≡ codes "all") × (d ≡ every_part)) ⊎ ((word ≡ codes "bare") × (d ≡ no_part))

abbrev pub mode_name : Mode → List ℕ
mode_name modes.Print = codes "print"
mode_name modes.Locations = codes "locations"
mode_name modes.Loads = codes "loads"
mode_name modes.Comments = codes "comments"
mode_name modes.Lint = codes "lint"

-- two arguments, which name the dialect and the mode
pub record AsksFor (words : List (List ℕ)) (d : Dialect) (mode : Mode) : Type 0 where
  pub dialect_name : List ℕ
  pub words_are : words ≡ dialect_name ∷ mode_name mode ∷ []
  pub names : NamesDialect dialect_name d

-- the lines and columns of a span of a text
abbrev pub span_text : Text → Span → Text
span_text text span = places_text (place_of text span.begin) (place_of text span.end)

abbrev pub location_line : Text → Span → Text
location_line text span = span_text text span ++ codes "\n"

abbrev pub load_line : Text → Load → Text
load_line text load = span_text text load.span ++ codes " " ++ quoted load.module_id ++ flat_map symbol_text load.symbols ++ codes "\n"

abbrev pub comment_line : Text → Span → Text
comment_line text span = span_text text span ++ codes " " ++ text_between text span.begin span.end ++ codes "\n"

abbrev pub issue_line : Text → Issue → Text
issue_line text issue = span_text text issue.span ++ codes " " ++ issue.name ++ codes "\n"

-- the issues that no comment suppresses are written, one a line
pub record WritesIssues (text : Text) (quiet : List Suppression) (s : Statement no_payload) (out : Text) : Type 0 where
  pub left : List Issue
  pub without_quiet : Without (λ i. IsCovered quiet i.name i.span) (issues s) left
  pub lines : out ≡ flat_map (issue_line text) left

-- what is written of a text with these comments, what they suppress, and this tree
abbrev pub Writes : Mode → Text → List Span → List Suppression → Statement no_payload → Text → Type 0
Writes modes.Print text comments quiet s out = out ≡ statement_text 0 s
Writes modes.Locations text comments quiet s out = out ≡ flat_map (location_line text) (locations s)
Writes modes.Loads text comments quiet s out = out ≡ flat_map (load_line text) (loads s)
Writes modes.Comments text comments quiet s out = out ≡ flat_map (comment_line text) comments
Writes modes.Lint text comments quiet s out = WritesIssues text quiet s out

-- what the arguments ask for of a text was written after what was there before
pub record WritesAnswer (words : List (List ℕ)) (text : Text) (before after : Option (List ℕ)) : Type 0 where
  pub dialect : Dialect
  pub mode : Mode
  pub asked : AsksFor words dialect mode
  pub statement : Statement no_payload
  pub is_tree : IsValidModule dialect (items (lexemes text)) statement
  pub output : Text
  pub is_output : Writes mode text (comment_spans (lexemes text)) (suppressions text (lexemes text)) statement output
  pub written : Appends before after output
