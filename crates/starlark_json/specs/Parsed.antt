-- Modules that a parse of their own file's text returns, and what a reader finds in the JSON of a result.
use Rattle.std.specs.Prelude.{◌≡◌, ◌<◌, ◌^◌, length, map, ⊤, Some, Result, Ok, Err}
use Rattle.std.specs.Str.{IsUtf8}
use Rattle.starlark_checks.specs.Refusals.{Refusal}
use Rattle.starlark_module.specs.Comments.Keeping.{comment_spans}
use Rattle.starlark_json.specs.Reading.{Module, module_of_text}
use Rattle.starlark_json.specs.Texts.{module_text}
use Rattle.starlark_lexer.specs.Lexemes.{lexemes}
use Rattle.starlark_lexer.specs.Places.{File}
use Rattle.starlark_lexer.specs.Tokens.{Text, span_of}
use Rattle.starlark_lexer.specs.declared.dialect.Dialect.{Dialect}
use Rattle.starlark_module.specs.declared.module.AstModule.{AstModule}
use Rattle.starlark_spec.specs.Items.{items}
use Rattle.starlark_tree.specs.Ast.{Statement, no_payload}
use Rattle.starlark_tree.specs.Views.{statement_of}
use Rattle.starlark_validate.specs.Answers.{IsValidModule}

-- the tree and the comments are those of the file's text under the module's dialect, as `AstModule::parse` returns them
pub record IsParsed (m : AstModule) : Type 0 where
  pub utf8 : IsUtf8 m.codemap.text
  pub short : length m.codemap.text < 2 ^ 32
  pub tree : IsValidModule m.dialect (items (lexemes m.codemap.text)) (statement_of m.statement)
  pub comments : map span_of m.comments.items ≡ comment_spans (lexemes m.codemap.text)

-- what the JSON of a module has of it
abbrev pub content_of : AstModule → Module
content_of m = (m.codemap.name, map span_of m.comments.items, statement_of m.statement)

-- a reader gets a parsed module back from the text
abbrev pub ReadsBack : Result AstModule Refusal → Text → Type 0
ReadsBack (Ok m) text = IsParsed m → module_of_text text ≡ Some (content_of m)
ReadsBack (Err e) text = ⊤

-- a reader gets the module of each file's text back from its JSON, as text
abbrev pub EachModuleIsReadBack : Type 0
EachModuleIsReadBack = (dialect : Dialect) (file : File) (s : Statement no_payload) → IsUtf8 file.text → length file.text < 2 ^ 32
    → IsValidModule dialect (items (lexemes file.text)) s
    → module_of_text (module_text file.name (comment_spans (lexemes file.text)) s) ≡ Some (file.name, comment_spans (lexemes file.text), s)
