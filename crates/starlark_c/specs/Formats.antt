-- Results for texts in the formats of the library: 1, which is JSON, and 2, which is compact.
use Rattle.std.specs.Prelude.{◌≡◌, ◌⊎◌, ℕ, List}
use Rattle.starlark_checks.specs.Refusals.{Refusal}
use Rattle.starlark_compact.specs.Answers.{error_bytes, module_bytes}
use Rattle.starlark_depth.specs.Limited.{limited}
use Rattle.starlark_json.specs.Texts.{IsErrorText, RefusesText, module_text}
use Rattle.starlark_lexer.specs.Lexemes.{lexemes}
use Rattle.starlark_lexer.specs.Places.{File}
use Rattle.starlark_lexer.specs.Tokens.{Span, Text}
use Rattle.starlark_lexer.specs.declared.dialect.Dialect.{Dialect}
use Rattle.starlark_module.specs.Comments.Keeping.{comment_spans}
use Rattle.starlark_spec.specs.Items.{items}
use Rattle.starlark_tree.specs.Ast.{Statement, no_payload}
use Rattle.starlark_validate.specs.Answers.{IsValidModule}

-- the bytes are the module of the file of this name, with these comments
pub record IsModuleIn (format : ℕ) (name : Text) (comments : List Span) (s : Statement no_payload) (bytes : Text) : Type 0 where
  pub json : format ≡ 1 → bytes ≡ module_text name comments s
  pub compact : format ≡ 2 → bytes ≡ module_bytes comments s

-- the bytes are the refusal
pub record IsRefusalIn (format : ℕ) (refusal : Refusal) (bytes : Text) : Type 0 where
  pub json : format ≡ 1 → IsErrorText refusal bytes
  pub compact : format ≡ 2 → bytes ≡ error_bytes refusal

-- the module of a file's text, whose tokens nest no deeper than n
pub record AnswersModule (format n : ℕ) (d : Dialect) (file : File) (bytes : Text) : Type 0 where
  pub within : limited n (lexemes file.text) ≡ lexemes file.text
  pub statement : Statement no_payload
  pub is_tree : IsValidModule d (items (lexemes file.text)) statement
  pub bytes_are : IsModuleIn format file.name (comment_spans (lexemes file.text)) statement bytes

-- what refuses it
pub record AnswersRefusal (format n : ℕ) (d : Dialect) (file : File) (bytes : Text) : Type 0 where
  pub refusal : Refusal
  pub refuses : RefusesText n d file refusal
  pub bytes_are : IsRefusalIn format refusal bytes

-- the result for a file's text
abbrev pub AnswersInFormat : ℕ → ℕ → Dialect → File → Text → Type 0
AnswersInFormat format n d file bytes = AnswersModule format n d file bytes ⊎ AnswersRefusal format n d file bytes
