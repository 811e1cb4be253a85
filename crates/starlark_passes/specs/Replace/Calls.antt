-- One operation, and the call that replaces it.
use Rattle.std.specs.Prelude.{Bool, true, false}
use Rattle.starlark_tree.specs.Ast as t
use Rattle.starlark_tree.specs.Ast.{no_payload}
use Rattle.starlark_passes.specs.Replace.Replacing.{Table, call_or_op, operand, operator_name}

abbrev pub is_operation : t.Expression no_payload → Bool
is_operation (t.expression s (t.Op l op r)) = true
is_operation (t.expression s _) = false

-- a call of an expression with the operands of an operation
abbrev pub call_expression : t.Expression no_payload → t.Expression no_payload → t.Expression no_payload
call_expression f (t.expression s (t.Op l op r)) = t.expression s (t.Call f (t.arguments (operand l) (t.arguments (operand r) t.no_arguments)))
call_expression f (t.expression s other) = t.expression s other

abbrev pub shape_of : t.Expression no_payload → t.Shape no_payload
shape_of (t.expression s shape) = shape

-- an operation whose operator the table names becomes a call, and any other expression is unchanged
abbrev pub node_replaced : Table → t.Expression no_payload → t.Expression no_payload
node_replaced table (t.expression s (t.Op l op r)) = t.expression s (call_or_op (table (operator_name op)) 1 s l op r)
node_replaced table (t.expression s other) = t.expression s other
