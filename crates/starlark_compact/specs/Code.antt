-- The bytes of what the code holds.
use Rattle.std.specs.Prelude.{◌++◌, Option, option_map}
use Rattle.std.specs.Global.{Global}
use Rattle.std.specs.declared.boxed.Box.{Box}
use Rattle.starlark_lexer.specs.Tokens.{Span, Text, span_of}
use Rattle.starlark_lexer.specs.declared.span.Span.{Span as CodeSpan}
use Rattle.starlark_lexer.specs.declared.span.Spanned.{Spanned}
use Rattle.starlark_tree.specs.Views.{shape_seen, argument_seen, parameter_seen, clause_seen, for_in_of, target_seen, maybe_of}
use Rattle.starlark_tree.specs.Views.{boxed_type_of, maybe_type_of, load_arg_of, comma_span, expression_of, form_seen}
use Rattle.starlark_tree.specs.declared.ast.ArgumentP.{ArgumentP}
use Rattle.starlark_tree.specs.declared.ast.AssignTargetP.{AssignTargetP}
use Rattle.starlark_tree.specs.declared.ast.ClauseP.{ClauseP}
use Rattle.starlark_tree.specs.declared.ast.Comma.{Comma}
use Rattle.starlark_tree.specs.declared.ast.ExprP.{ExprP}
use Rattle.starlark_tree.specs.declared.ast.ForClauseP.{ForClauseP}
use Rattle.starlark_tree.specs.declared.ast.LoadArgP.{LoadArgP}
use Rattle.starlark_tree.specs.declared.ast.ParameterP.{ParameterP}
use Rattle.starlark_tree.specs.declared.ast.StmtP.{StmtP}
use Rattle.starlark_tree.specs.declared.ast.TypeExprP.{TypeExprP}
use Rattle.starlark_compact.specs.Bytes.{span_bytes}
use Rattle.starlark_compact.specs.Trees.{shape_bytes, argument_bytes, parameter_bytes, clause_bytes, for_bytes, target_bytes, maybe_bytes}
use Rattle.starlark_compact.specs.Trees.{maybe_type_bytes, load_arg_bytes, comma_bytes, value_bytes, form_bytes}

abbrev pub bytes_of_span : CodeSpan → Text
bytes_of_span s = span_bytes (span_of s)

unfoldable pub bytes_of_comma : Option (Spanned Comma) → Text
bytes_of_comma comma = comma_bytes (option_map comma_span comma)

module _ {P A B C D E : Type 0} where
  unfoldable pub bytes_of_expr : ExprP P A B C D E → Span → Text
  bytes_of_expr e s = shape_bytes s (shape_seen e)

  unfoldable pub bytes_of_argument : ArgumentP P A B C D E → Span → Text
  bytes_of_argument a s = argument_bytes (argument_seen s a)

  unfoldable pub bytes_of_parameter : ParameterP P A B C D E → Span → Text
  bytes_of_parameter p s = parameter_bytes (parameter_seen s p)

  unfoldable pub bytes_of_target : AssignTargetP P A B C D E → Span → Text
  bytes_of_target x s = target_bytes (target_seen s x)

  unfoldable pub bytes_of_for : ForClauseP P A B C D E → Text
  bytes_of_for c = for_bytes (for_in_of c)

  unfoldable pub bytes_of_clause : ClauseP P A B C D E → Text
  bytes_of_clause c = clause_bytes (clause_seen c)

  unfoldable pub bytes_of_maybe : Option (Box (Spanned (ExprP P A B C D E)) Global) → Text
  bytes_of_maybe e = maybe_bytes (maybe_of e)

  unfoldable pub bytes_of_boxed_type : Option (Box (Spanned (TypeExprP P A B C D E)) Global) → Text
  bytes_of_boxed_type ty = maybe_type_bytes (boxed_type_of ty)

  unfoldable pub bytes_of_type : Option (Spanned (TypeExprP P A B C D E)) → Text
  bytes_of_type ty = maybe_type_bytes (maybe_type_of ty)

  unfoldable pub bytes_of_returned : Option (Spanned (ExprP P A B C D E)) → Text
  bytes_of_returned value = value_bytes (option_map expression_of value)

  unfoldable pub bytes_of_load_arg : LoadArgP P A B C D E → Text
  bytes_of_load_arg a = load_arg_bytes (load_arg_of a)

  unfoldable pub bytes_of_stmt : StmtP P A B C D E → Span → Text
  bytes_of_stmt s at = form_bytes at (form_seen s)

  -- the bytes of what is at its own span
  abbrev pub bytes_of_expression : Spanned (ExprP P A B C D E) → Text
  bytes_of_expression e = bytes_of_expr e.node (span_of e.span)

  abbrev pub bytes_of_pair : Spanned (ExprP P A B C D E) × Spanned (ExprP P A B C D E) → Text
  bytes_of_pair p = bytes_of_expression p.0 ++ bytes_of_expression p.1

  abbrev pub bytes_of_arg : Spanned (ArgumentP P A B C D E) → Text
  bytes_of_arg a = bytes_of_argument a.node (span_of a.span)

  abbrev pub bytes_of_param : Spanned (ParameterP P A B C D E) → Text
  bytes_of_param p = bytes_of_parameter p.node (span_of p.span)

  abbrev pub bytes_of_spanned_target : Spanned (AssignTargetP P A B C D E) → Text
  bytes_of_spanned_target x = bytes_of_target x.node (span_of x.span)

  abbrev pub bytes_of_statement : Spanned (StmtP P A B C D E) → Text
  bytes_of_statement s = bytes_of_stmt s.node (span_of s.span)
