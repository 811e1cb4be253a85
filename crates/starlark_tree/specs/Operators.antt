-- The displayed text of operators, with the spaces around them.
use Rattle.std.specs.Prelude.{codes}
use Rattle.starlark_lexer.specs.Tokens.{Text}
use Rattle.starlark_tree.specs.declared.ast.operator.BinOp.{BinOp}
use Rattle.starlark_tree.specs.declared.ast.operator.BinOp.TheVariants as op
use Rattle.starlark_tree.specs.declared.ast.operator.AssignOp.{AssignOp}
use Rattle.starlark_tree.specs.declared.ast.operator.AssignOp.TheVariants as assign

abbrev pub operator_text : BinOp → Text
operator_text op.Or = codes " or "
operator_text op.And = codes " and "
operator_text op.Equal = codes " == "
operator_text op.NotEqual = codes " != "
operator_text op.Less = codes " < "
operator_text op.Greater = codes " > "
operator_text op.LessOrEqual = codes " <= "
operator_text op.GreaterOrEqual = codes " >= "
operator_text op.In = codes " in "
operator_text op.NotIn = codes " not in "
operator_text op.Subtract = codes " - "
operator_text op.Add = codes " + "
operator_text op.Multiply = codes " * "
operator_text op.Percent = codes " % "
operator_text op.Divide = codes " / "
operator_text op.FloorDivide = codes " // "
operator_text op.BitAnd = codes " & "
operator_text op.BitOr = codes " | "
operator_text op.BitXor = codes " ^ "
operator_text op.LeftShift = codes " << "
operator_text op.RightShift = codes " >> "

abbrev pub assign_operator_text : AssignOp → Text
assign_operator_text assign.Add = codes " += "
assign_operator_text assign.Subtract = codes " -= "
assign_operator_text assign.Multiply = codes " *= "
assign_operator_text assign.Divide = codes " /= "
assign_operator_text assign.FloorDivide = codes " //= "
assign_operator_text assign.Percent = codes " %= "
assign_operator_text assign.BitAnd = codes " &= "
assign_operator_text assign.BitOr = codes " |= "
assign_operator_text assign.BitXor = codes " ^= "
assign_operator_text assign.LeftShift = codes " <<= "
assign_operator_text assign.RightShift = codes " >>= "
