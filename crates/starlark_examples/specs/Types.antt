-- The types that a module states.
use Rattle.std.specs.Prelude.{List as Seq, map, string_bytes}
use Rattle.starlark_syntax.specs.lexer.Tokens.{Span, Text, span_of}
use Rattle.starlark_syntax.specs.tree.Ast as t
use Rattle.starlark_syntax.specs.tree.Ast.{Payloads}
use Rattle.starlark_syntax.specs.tree.Printing.{expression_text}
use Rattle.starlark_syntax.specs.uniplate.Types.{TypeExpression, all_types}
use Rattle.starlark_examples.specs.declared.types.StatedType.{StatedType}

-- the span of a type, and its text
pub record Stated : Type 0 where
  pub span : Span
  pub text : Text

module _ {P : Payloads} where
  -- the text is that of its expression, as the tree prints it
  abbrev pub stated : TypeExpression P → Stated
  stated ty = record { span = ty.span; text = expression_text ty.expr }

  -- the types of a statement, then those of the statements in it
  abbrev pub stated_types : t.Statement P → Seq Stated
  stated_types (t.statement s form) = map stated (all_types form)

-- the same for trees in memory
abbrev pub stated_of : StatedType → Stated
stated_of ty = record { span = span_of ty.span; text = string_bytes ty.text }
