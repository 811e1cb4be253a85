-- The numbers of the kinds of nodes, and of operators.
use Rattle.std.specs.Prelude.{ℕ}
use Rattle.starlark_compact.specs.declared.kind.Kind.{Kind}
use Rattle.starlark_compact.specs.declared.kind.Kind.TheVariants as kind
use Rattle.starlark_tree.specs.declared.ast.operator.BinOp.{BinOp}
use Rattle.starlark_tree.specs.declared.ast.operator.BinOp.TheVariants as op
use Rattle.starlark_tree.specs.declared.ast.operator.AssignOp.{AssignOp}
use Rattle.starlark_tree.specs.declared.ast.operator.AssignOp.TheVariants as assign

abbrev pub kind_number : Kind → ℕ
kind_number kind.Tuple = 1
kind_number kind.Dot = 2
kind_number kind.Call = 3
kind_number kind.Index = 4
kind_number kind.Index2 = 5
kind_number kind.Slice = 6
kind_number kind.Identifier = 7
kind_number kind.Lambda = 8
kind_number kind.Int = 9
kind_number kind.BigInt = 10
kind_number kind.Float = 11
kind_number kind.String = 12
kind_number kind.Bytes = 13
kind_number kind.Ellipsis = 14
kind_number kind.Not = 15
kind_number kind.Minus = 16
kind_number kind.Plus = 17
kind_number kind.BitNot = 18
kind_number kind.Op = 19
kind_number kind.Conditional = 20
kind_number kind.List = 21
kind_number kind.Dict = 22
kind_number kind.ListComprehension = 23
kind_number kind.DictComprehension = 24
kind_number kind.FString = 25
kind_number kind.Absent = 26
kind_number kind.Present = 27
kind_number kind.NoType = 28
kind_number kind.TypeExpr = 29
kind_number kind.Positional = 30
kind_number kind.Named = 31
kind_number kind.Args = 32
kind_number kind.KwArgs = 33
kind_number kind.Slash = 34
kind_number kind.Normal = 35
kind_number kind.NoArgs = 36
kind_number kind.ArgsParameter = 37
kind_number kind.KwArgsParameter = 38
kind_number kind.ForClause = 39
kind_number kind.IfClause = 40
kind_number kind.TupleTarget = 41
kind_number kind.IndexTarget = 42
kind_number kind.DotTarget = 43
kind_number kind.IdentifierTarget = 44
kind_number kind.Break = 45
kind_number kind.Continue = 46
kind_number kind.Pass = 47
kind_number kind.Return = 48
kind_number kind.Expression = 49
kind_number kind.Assign = 50
kind_number kind.AssignModify = 51
kind_number kind.Statements = 52
kind_number kind.If = 53
kind_number kind.IfElse = 54
kind_number kind.For = 55
kind_number kind.Def = 56
kind_number kind.Load = 57

abbrev pub operator_number : BinOp → ℕ
operator_number op.Or = 0
operator_number op.And = 1
operator_number op.Equal = 2
operator_number op.NotEqual = 3
operator_number op.Less = 4
operator_number op.Greater = 5
operator_number op.LessOrEqual = 6
operator_number op.GreaterOrEqual = 7
operator_number op.In = 8
operator_number op.NotIn = 9
operator_number op.Subtract = 10
operator_number op.Add = 11
operator_number op.Multiply = 12
operator_number op.Percent = 13
operator_number op.Divide = 14
operator_number op.FloorDivide = 15
operator_number op.BitAnd = 16
operator_number op.BitOr = 17
operator_number op.BitXor = 18
operator_number op.LeftShift = 19
operator_number op.RightShift = 20

abbrev pub assign_operator_number : AssignOp → ℕ
assign_operator_number assign.Add = 0
assign_operator_number assign.Subtract = 1
assign_operator_number assign.Multiply = 2
assign_operator_number assign.Divide = 3
assign_operator_number assign.FloorDivide = 4
assign_operator_number assign.Percent = 5
assign_operator_number assign.BitAnd = 6
assign_operator_number assign.BitOr = 7
assign_operator_number assign.BitXor = 8
assign_operator_number assign.LeftShift = 9
assign_operator_number assign.RightShift = 10
