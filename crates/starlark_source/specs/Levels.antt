-- How tightly expressions bind.
use Rattle.std.specs.Prelude.{ℕ, nat_lt, Bool}
use Rattle.starlark_tree.specs.Ast as t
use Rattle.starlark_tree.specs.Ast.{Payloads}
use Rattle.starlark_tree.specs.declared.ast.operator.BinOp.{BinOp}
use Rattle.starlark_tree.specs.declared.ast.operator.BinOp.TheVariants as op
use Rattle.starlark_source.specs.declared.level.Level.{Level}
use Rattle.starlark_source.specs.declared.level.Level.TheVariants as level

-- from loose to tight
abbrev pub rank : Level → ℕ
rank level.Test = 0
rank level.Or = 1
rank level.And = 2
rank level.Not = 3
rank level.Comparison = 4
rank level.BitOr = 5
rank level.Xor = 6
rank level.BitAnd = 7
rank level.Shift = 8
rank level.Add = 9
rank level.Multiply = 10
rank level.Unary = 11
rank level.Number = 12
rank level.Primary = 13

abbrev pub is_looser : Level → Level → Bool
is_looser a b = nat_lt (rank a) (rank b)

-- the level of an operation with this operator
abbrev pub level_of_operator : BinOp → Level
level_of_operator op.Or = level.Or
level_of_operator op.And = level.And
level_of_operator op.Equal = level.Comparison
level_of_operator op.NotEqual = level.Comparison
level_of_operator op.Less = level.Comparison
level_of_operator op.Greater = level.Comparison
level_of_operator op.LessOrEqual = level.Comparison
level_of_operator op.GreaterOrEqual = level.Comparison
level_of_operator op.In = level.Comparison
level_of_operator op.NotIn = level.Comparison
level_of_operator op.BitOr = level.BitOr
level_of_operator op.BitXor = level.Xor
level_of_operator op.BitAnd = level.BitAnd
level_of_operator op.LeftShift = level.Shift
level_of_operator op.RightShift = level.Shift
level_of_operator op.Add = level.Add
level_of_operator op.Subtract = level.Add
level_of_operator op.Multiply = level.Multiply
level_of_operator op.Percent = level.Multiply
level_of_operator op.Divide = level.Multiply
level_of_operator op.FloorDivide = level.Multiply

-- the level to the left of an operator of a level: comparisons do not chain, all others associate to the left
abbrev pub left_of : Level → Level
left_of level.Comparison = level.BitOr
left_of other = other

-- the level to the right of it: what binds more tightly
abbrev pub right_of : Level → Level
right_of level.Test = level.Or
right_of level.Or = level.And
right_of level.And = level.Not
right_of level.Not = level.Comparison
right_of level.Comparison = level.BitOr
right_of level.BitOr = level.Xor
right_of level.Xor = level.BitAnd
right_of level.BitAnd = level.Shift
right_of level.Shift = level.Add
right_of level.Add = level.Multiply
right_of level.Multiply = level.Unary
right_of level.Unary = level.Number
right_of level.Number = level.Primary
right_of level.Primary = level.Primary

-- the level of a literal: a dot after a number would be part of it
abbrev pub level_of_literal : t.Literal → Level
level_of_literal (t.Int s n) = level.Number
level_of_literal (t.Float w) = level.Number
level_of_literal _ = level.Primary

-- the level of an expression
abbrev pub level_of : {P : Payloads} → t.Shape P → Level
level_of (t.Lambda ps e p) = level.Test
level_of (t.If c a b) = level.Test
level_of (t.Op l operator r) = level_of_operator operator
level_of (t.Not e) = level.Not
level_of (t.Minus e) = level.Unary
level_of (t.Plus e) = level.Unary
level_of (t.BitNot e) = level.Unary
level_of (t.Constant x) = level_of_literal x
level_of _ = level.Primary
