-- The binary operators that tokens are.
use Rattle.std.specs.Prelude.{◌≡◌, Option, Some, None}
use Rattle.starlark_lexer.specs.Tokens.{Span}
use Rattle.starlark_tree.specs.Ast.{Expression, expression, no_payload}
use Rattle.starlark_tree.specs.Ast as t
use Rattle.starlark_tree.specs.declared.ast.operator.BinOp.{BinOp}
use Rattle.starlark_tree.specs.declared.ast.operator.BinOp.TheVariants as operators
use Rattle.starlark_lexer.specs.declared.kind.Kind.{Kind}
use Rattle.starlark_lexer.specs.declared.kind.Kind.TheVariants as kinds
use Rattle.starlark_spec.specs.Grammar.{Derivation}
use Rattle.starlark_spec.specs.Grammar.Nonterminal.{Unary}
use Rattle.starlark_spec.specs.Trees.{tree}
use Rattle.starlark_parse_held.specs.declared.expression.HeldExpr.{HeldExpr}
use Rattle.starlark_parse_held.specs.Held.{expression_of}

-- an operand that was read
abbrev pub IsUnary : HeldExpr → Derivation Unary → Type 0
IsUnary e d = expression_of e ≡ tree d

-- an operand after the operator that a kind is
abbrev pub after_operator : Kind → Span → Expression no_payload → Expression no_payload
after_operator kinds.Plus span e = expression span (t.Plus e)
after_operator kinds.Minus span e = expression span (t.Minus e)
after_operator _ span e = expression span (t.BitNot e)

-- the binary operator that a token of a kind is; `not` begins `not in`
abbrev pub binary_operator : Kind → Option BinOp
binary_operator kinds.Or = Some operators.Or
binary_operator kinds.And = Some operators.And
binary_operator kinds.EqualEqual = Some operators.Equal
binary_operator kinds.BangEqual = Some operators.NotEqual
binary_operator kinds.LessThan = Some operators.Less
binary_operator kinds.GreaterThan = Some operators.Greater
binary_operator kinds.LessEqual = Some operators.LessOrEqual
binary_operator kinds.GreaterEqual = Some operators.GreaterOrEqual
binary_operator kinds.In = Some operators.In
binary_operator kinds.Not = Some operators.NotIn
binary_operator kinds.Pipe = Some operators.BitOr
binary_operator kinds.Caret = Some operators.BitXor
binary_operator kinds.Ampersand = Some operators.BitAnd
binary_operator kinds.LessLess = Some operators.LeftShift
binary_operator kinds.GreaterGreater = Some operators.RightShift
binary_operator kinds.Plus = Some operators.Add
binary_operator kinds.Minus = Some operators.Subtract
binary_operator kinds.Star = Some operators.Multiply
binary_operator kinds.Slash = Some operators.Divide
binary_operator kinds.SlashSlash = Some operators.FloorDivide
binary_operator kinds.Percent = Some operators.Percent
binary_operator _ = None

-- the same if it binds more tightly than comparisons
abbrev pub tight_operator : Kind → Option BinOp
tight_operator kinds.Pipe = Some operators.BitOr
tight_operator kinds.Caret = Some operators.BitXor
tight_operator kinds.Ampersand = Some operators.BitAnd
tight_operator kinds.LessLess = Some operators.LeftShift
tight_operator kinds.GreaterGreater = Some operators.RightShift
tight_operator kinds.Plus = Some operators.Add
tight_operator kinds.Minus = Some operators.Subtract
tight_operator kinds.Star = Some operators.Multiply
tight_operator kinds.Slash = Some operators.Divide
tight_operator kinds.SlashSlash = Some operators.FloorDivide
tight_operator kinds.Percent = Some operators.Percent
tight_operator _ = None
