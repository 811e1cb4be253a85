-- What begins with a kind of token, and which operator a kind is.
use Rattle.std.specs.Prelude.{Bool, true, false, if◌then◌else◌, Option, Some, None}
use Rattle.starlark_lexer.specs.declared.kind.Kind.{Kind}
use Rattle.starlark_lexer.specs.declared.kind.Kind.TheVariants as kinds
use Rattle.starlark_spec.specs.Grammar.{ElementKind, PrecedenceLevel, Operator, Comparison, UnarySign, AssignSign}
use Rattle.starlark_spec.specs.Grammar as G
use Rattle.starlark_lexer.specs.Kinds.{is}

-- an operand begins with this kind
abbrev pub starts_operand : Kind → Bool
starts_operand kinds.Identifier = true
starts_operand kinds.Int = true
starts_operand kinds.Float = true
starts_operand kinds.String = true
starts_operand kinds.Bytes = true
starts_operand kinds.Ellipsis = true
starts_operand kinds.FStringStart = true
starts_operand kinds.OpeningRound = true
starts_operand kinds.OpeningSquare = true
starts_operand kinds.OpeningCurly = true
starts_operand kinds.Plus = true
starts_operand kinds.Minus = true
starts_operand kinds.Tilde = true
starts_operand _ = false

-- operands with binary operators between them begin with this kind
abbrev pub starts_or : Kind → Bool
starts_or kinds.Not = true
starts_or k = starts_operand k

-- an expression begins with this kind
abbrev pub starts_test : Kind → Bool
starts_test kinds.Lambda = true
starts_test k = starts_or k

-- an argument begins with this kind
abbrev pub starts_argument : Kind → Bool
starts_argument kinds.Star = true
starts_argument kinds.StarStar = true
starts_argument k = starts_test k

-- a parameter begins with this kind
abbrev pub starts_param : Kind → Bool
starts_param kinds.Slash = true
starts_param kinds.Star = true
starts_param kinds.StarStar = true
starts_param kinds.Identifier = true
starts_param _ = false

-- a symbol of a load begins with this kind
abbrev pub starts_symbol : Kind → Bool
starts_symbol kinds.String = true
starts_symbol kinds.Identifier = true
starts_symbol _ = false

-- a small statement begins with this kind
abbrev pub starts_small : Kind → Bool
starts_small kinds.Return = true
starts_small kinds.Break = true
starts_small kinds.Continue = true
starts_small kinds.Pass = true
starts_small kinds.Load = true
starts_small k = starts_test k

-- an element of a list begins with this kind
abbrev pub starts_element : ElementKind → Kind → Bool
starts_element G.elements l = starts_test l
starts_element G.arguments l = starts_argument l
starts_element G.entries l = starts_test l
starts_element G.lambda_parameters l = starts_param l
starts_element G.variables l = starts_operand l
starts_element G.symbols l = starts_symbol l
starts_element G.def_parameters l = starts_param l

-- the kinds of the atoms of one token
abbrev pub is_leaf : Kind → Bool
is_leaf kinds.Identifier = true
is_leaf kinds.Int = true
is_leaf kinds.Float = true
is_leaf kinds.String = true
is_leaf kinds.Bytes = true
is_leaf kinds.Ellipsis = true
is_leaf _ = false

-- the operator of a level that a kind is
abbrev pub operator_at : (k : PrecedenceLevel) → Kind → Option (Operator k)
operator_at G.or_precedence l = if is l kinds.Or then Some G.or_sign else None
operator_at G.and_precedence l = if is l kinds.And then Some G.and_sign else None
operator_at G.bit_or_precedence l = if is l kinds.Pipe then Some G.pipe else None
operator_at G.xor_precedence l = if is l kinds.Caret then Some G.caret else None
operator_at G.bit_and_precedence l = if is l kinds.Ampersand then Some G.ampersand else None
operator_at G.shift_precedence l = if is l kinds.LessLess then Some G.less_less else (if is l kinds.GreaterGreater then Some G.greater_greater else None)
operator_at G.add_precedence l = if is l kinds.Plus then Some G.plus else (if is l kinds.Minus then Some G.minus else None)
operator_at G.multiply_precedence l =
    if is l kinds.Star then Some G.star
    else (if is l kinds.Slash then Some G.slash else (if is l kinds.SlashSlash then Some G.slash_slash else
    (if is l kinds.Percent then Some G.percent else None)))

-- the comparison of one token that a kind is
abbrev pub comparison_at : Kind → Option Comparison
comparison_at kinds.EqualEqual = Some G.equal
comparison_at kinds.BangEqual = Some G.not_equal
comparison_at kinds.LessThan = Some G.less
comparison_at kinds.GreaterThan = Some G.greater
comparison_at kinds.LessEqual = Some G.less_or_equal
comparison_at kinds.GreaterEqual = Some G.greater_or_equal
comparison_at kinds.In = Some G.membership
comparison_at _ = None

-- a comparison continues with this kind, and no other comparison may follow
abbrev pub compares : Kind → Bool
compares kinds.EqualEqual = true
compares kinds.BangEqual = true
compares kinds.LessThan = true
compares kinds.GreaterThan = true
compares kinds.LessEqual = true
compares kinds.GreaterEqual = true
compares kinds.In = true
compares kinds.Not = true
compares _ = false

abbrev pub is_sign : Kind → Bool
is_sign kinds.Plus = true
is_sign kinds.Minus = true
is_sign kinds.Tilde = true
is_sign _ = false

-- the unary operator that a kind is
abbrev pub unary_at : Kind → Option UnarySign
unary_at kinds.Plus = Some G.plus_sign
unary_at kinds.Minus = Some G.minus_sign
unary_at kinds.Tilde = Some G.tilde_sign
unary_at _ = None

-- the operator of an assignment that a kind is
abbrev pub assign_at : Kind → Option AssignSign
assign_at kinds.Equal = Some G.equal_sign
assign_at kinds.PlusEqual = Some G.plus_equal
assign_at kinds.MinusEqual = Some G.minus_equal
assign_at kinds.StarEqual = Some G.star_equal
assign_at kinds.SlashEqual = Some G.slash_equal
assign_at kinds.SlashSlashEqual = Some G.slash_slash_equal
assign_at kinds.PercentEqual = Some G.percent_equal
assign_at kinds.AmpersandEqual = Some G.ampersand_equal
assign_at kinds.PipeEqual = Some G.pipe_equal
assign_at kinds.CaretEqual = Some G.caret_equal
assign_at kinds.LessLessEqual = Some G.less_less_equal
assign_at kinds.GreaterGreaterEqual = Some G.greater_greater_equal
assign_at _ = None
