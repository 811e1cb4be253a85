-- How tightly the tokens bind that continue an expression.
use Rattle.std.specs.Prelude.{ℕ}
use Rattle.starlark_lexer.specs.declared.kind.Kind.{Kind}
use Rattle.starlark_lexer.specs.declared.kind.Kind.TheVariants as kinds

-- how tightly the tokens bind that continue an expression
abbrev pub binding_power : Kind → ℕ
binding_power kinds.If = 1
binding_power kinds.Or = 2
binding_power kinds.And = 3
binding_power kinds.EqualEqual = 4
binding_power kinds.BangEqual = 4
binding_power kinds.LessThan = 4
binding_power kinds.GreaterThan = 4
binding_power kinds.LessEqual = 4
binding_power kinds.GreaterEqual = 4
binding_power kinds.In = 4
binding_power kinds.Not = 4
binding_power kinds.Pipe = 5
binding_power kinds.Caret = 6
binding_power kinds.Ampersand = 7
binding_power kinds.LessLess = 8
binding_power kinds.GreaterGreater = 8
binding_power kinds.Plus = 9
binding_power kinds.Minus = 9
binding_power kinds.Star = 10
binding_power kinds.Slash = 10
binding_power kinds.SlashSlash = 10
binding_power kinds.Percent = 10
binding_power kinds.Dot = 11
binding_power kinds.OpeningSquare = 11
binding_power kinds.OpeningRound = 11
binding_power _ = 0
