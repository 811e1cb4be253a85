-- The JSON of a module and of an error as text, and what refuses a text whose tokens may nest up to a limit.
use Rattle.std.specs.Prelude.{◌≡◌, ◌≢◌, ℕ, ◌≤◌, ◌<◌, ◌^◌, List, length}
use Rattle.json.specs.Print.{print}
use Rattle.json.specs.Tree.{json_tokens}
use Rattle.starlark_checks.specs.Kinds.{TextTooLong}
use Rattle.starlark_checks.specs.Refusals.{Refusal, without_place, out_of_memory}
use Rattle.starlark_depth.specs.Limited.{limited}
use Rattle.starlark_json.specs.Answers.{error_json, module_json}
use Rattle.starlark_lexer.specs.Lexemes.{lexemes}
use Rattle.starlark_lexer.specs.Places.{File}
use Rattle.starlark_lexer.specs.Tokens.{Span, Text}
use Rattle.starlark_lexer.specs.declared.dialect.Dialect.{Dialect}
use Rattle.starlark_module.specs.Modules.{IsRefused}
use Rattle.starlark_spec.specs.Items.{items}
use Rattle.starlark_tree.specs.Ast.{Statement, no_payload}

-- the JSON of a module of the file of this name, with these comments, as text
abbrev pub module_text : Text → List Span → Statement no_payload → Text
module_text name comments s = print (json_tokens (module_json name comments s))

-- the text is the JSON of a refusal
abbrev pub IsErrorText : Refusal → Text → Type 0
IsErrorText refusal text = text ≡ print (json_tokens (error_json refusal))

-- The text of a file is refused under a dialect: by its length, else rightly, and not because allocation failed. A token that nests deeper than n is an error.
pub record RefusesText (n : ℕ) (d : Dialect) (file : File) (refusal : Refusal) : Type 0 where
  pub too_long : 2 ^ 32 ≤ length file.text → refusal ≡ without_place TextTooLong
  pub rightly : length file.text < 2 ^ 32 → IsRefused d (items (limited n (lexemes file.text))) file refusal
  pub has_memory : refusal ≢ out_of_memory
