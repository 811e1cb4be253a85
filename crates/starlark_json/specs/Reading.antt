-- A reader of the JSON of modules.
use Rattle.std.specs.Prelude.{List as Seq, [], ◌∷◌, Option, Some, None, option_and_then}
use Rattle.std.specs.List.{AllByRecursion}
use Rattle.json.specs.Json.{Json, array, object, Items, no_items, item, no_members, member}
use Rattle.starlark_lexer.specs.Tokens.{Span, Text}
use Rattle.starlark_tree.specs.Ast.{Statement, no_payload}
use Rattle.starlark_json.specs.Tree.Fitting.{SpanFits, StatementFits}
use Rattle.starlark_json.specs.Tree.Reading.{of_two, of_three, read_span, read_statement, read_text, value_of}

abbrev pub each_span : Items → Option (Seq Span)
each_span no_items = Some []
each_span (item j js) = of_two (λ s ss. s ∷ ss) (read_span j) (each_span js)

abbrev pub read_spans : Json → Option (Seq Span)
read_spans (array items) = each_span items
read_spans _ = None

-- the name of the file, the comments and the tree
abbrev pub Module : Type 0
Module = Text × Seq Span × Statement no_payload

abbrev pub read_module : Json → Option Module
read_module (object (member _ version (member _ name (member _ comments (member _ statement no_members))))) =
    of_three (λ n cs s. (n, cs, s)) (read_text name) (read_spans comments) (read_statement statement)
read_module _ = None

-- the module of which a text is the JSON
abbrev pub module_of_text : Text → Option Module
module_of_text text = option_and_then read_module (value_of text)

-- what is read back
abbrev pub ModuleFits : Module → Type 0
ModuleFits m = AllByRecursion SpanFits m.1 × StatementFits m.2
