-- What the documentation of a module says about its functions.
use Rattle.std.specs.Prelude.{List as Seq, [], ◌∷◌, Option, Some, None, map, option_map}
use denote.Ref.{Bor}
use Rattle.starlark_syntax.specs.checks.Parameters.{Named, named, named_of}
use Rattle.starlark_syntax.specs.lexer.Tokens.{Text}
use Rattle.starlark_syntax.specs.tree.Ast as t
use Rattle.starlark_syntax.specs.tree.Ast.{Payloads, no_payload, parameter_list}
use Rattle.starlark_examples.specs.declared.documentation.Function.{Function}

-- a function: its name, its parameters without `/` and `*`, and its docstring
pub record Documented : Type 0 where
  pub name : Text
  pub parameters : Seq (Named no_payload)
  pub docstring : Option Text

module _ {P : Payloads} where
  -- the text of a statement that is a string
  abbrev pub string_alone : t.Form P → Option Text
  string_alone (t.Evaluate (t.expression s (t.Constant (t.String word)))) = Some word.text
  string_alone _ = None

  -- the first statement of a body that is several
  abbrev pub first_of : t.Form P → t.Form P
  first_of (t.Block (t.statements (t.statement s first) others)) = first
  first_of form = form

  -- the text of a body's first statement, if that is a string
  abbrev pub docstring : t.Form P → Option Text
  docstring body = string_alone (first_of body)

-- what is documented of a statement at the top of a module, if it defines a function
abbrev pub documented : t.Statement no_payload → Seq Documented
documented (t.statement s (t.Def name p params ty (t.statement r body) q)) =
    record { name = name.text; parameters = named (parameter_list params); docstring = docstring body } ∷ []
documented _ = []

-- the same for trees in memory
abbrev pub text_of : Bor Text → Text
text_of text = text.now

abbrev pub function_of : Function → Documented
function_of f = record { name = f.name.now; parameters = map named_of f.params.params.items; docstring = option_map text_of f.docstring }
