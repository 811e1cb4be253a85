-- What comes after an operand, names, and the formats of f-strings.
use Rattle.std.specs.Prelude.{Bool, true, false, string_bytes}
use Rattle.starlark_lexer.specs.Tokens.{Span}
use Rattle.starlark_tree.specs.Ast as t
use Rattle.starlark_tree.specs.Ast.{Expression, expression, no_payload}
use Rattle.starlark_tree.specs.Views.{word}
use Rattle.starlark_spec.specs.Trees.{Format, called}
use Rattle.starlark_parse_held.specs.Held.{expression_of, maybe_of, arguments_in, expressions_in}
use Rattle.starlark_parse_build.specs.declared.suffix.Suffix.{Suffix}
use Rattle.starlark_parse_build.specs.declared.suffix.Suffix.TheVariants as suffixes
use Rattle.starlark_parse_build.specs.declared.format.Format.{Format as CodeFormat}

-- an operand and the suffix after it
abbrev pub with_suffix : Span → Expression no_payload → Suffix → Expression no_payload
with_suffix span e (suffixes.Attribute name) = expression span (t.Dot e (word name))
with_suffix span e (suffixes.Call passed) = called span e (arguments_in passed)
with_suffix span e (suffixes.Index i) = expression span (t.Index e (expression_of i))
with_suffix span e (suffixes.Index2 i j) = expression span (t.Index2 e (expression_of i) (expression_of j))
with_suffix span e (suffixes.Slice start stop step) = expression span (t.Slice e (maybe_of start) (maybe_of stop) (maybe_of step))

-- whether an expression is a name
abbrev pub is_name : Expression no_payload → Bool
is_name (expression span (t.Identifier name payload)) = true
is_name e = false

-- what the code's format is
abbrev pub format_of : CodeFormat → Format
format_of f = record { text = string_bytes f.text; values = expressions_in f.values }
