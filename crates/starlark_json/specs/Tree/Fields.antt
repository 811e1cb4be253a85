-- The JSON of spans, names and literals, and how a node is made of its fields.
use Rattle.std.specs.Prelude.{ℕ, List as Seq, [], ◌∷◌, codes, decimal}
use Rattle.std.specs.Fmt.{signed_decimal}
use Rattle.json.specs.Json.{Json, number, string, array, object, Items, no_items, item, Members, no_members, member}
use Rattle.starlark_lexer.specs.Tokens.{Number, Span, Text}
use Rattle.starlark_lexer.specs.Tokens as tokens
use Rattle.starlark_tree.specs.Ast as t
use Rattle.starlark_tree.specs.Ast.{Word}
use Rattle.starlark_tree.specs.declared.ast.operator.BinOp.{BinOp}
use Rattle.starlark_tree.specs.declared.ast.operator.BinOp.TheVariants as op
use Rattle.starlark_tree.specs.declared.ast.operator.AssignOp.{AssignOp}
use Rattle.starlark_tree.specs.declared.ast.operator.AssignOp.TheVariants as assign

-- [begin,end]
abbrev pub span_json : Span → Json
span_json s = array (item (number (decimal s.begin)) (item (number (decimal s.end)) no_items))

-- a text and its span
abbrev pub word_json : Word → Json
word_json w = object (member (codes "span") (span_json w.span) (member (codes "text") (string w.text) no_members))

-- a node of a family: its kind, its span, and its own fields
abbrev pub node : Text → Text → Span → Members → Json
node family kind s fields = object (member family (string kind) (member (codes "span") (span_json s) fields))

abbrev pub numbers_json : Seq ℕ → Items
numbers_json [] = no_items
numbers_json (n ∷ ns) = item (number (decimal n)) (numbers_json ns)

-- a literal's kind and value
abbrev pub valued : Text → Json → Members
valued kind value = member (codes "literal") (string kind) (member (codes "value") value no_members)

abbrev pub number_fields : Number → Members
number_fields (tokens.small n) = valued (codes "Int") (number (signed_decimal n))
number_fields (tokens.large text) = valued (codes "BigInt") (string text)

abbrev pub literal_fields : t.Literal → Members
literal_fields (t.Int s n) = number_fields n
literal_fields (t.Float w) = valued (codes "Float") (string w.text)
literal_fields (t.String w) = valued (codes "String") (string w.text)
literal_fields (t.Bytes w) = valued (codes "Bytes") (array (numbers_json w.text))
literal_fields t.Ellipsis = member (codes "literal") (string (codes "Ellipsis")) no_members

abbrev pub operator_name : BinOp → Text
operator_name op.Or = codes "Or"
operator_name op.And = codes "And"
operator_name op.Equal = codes "Equal"
operator_name op.NotEqual = codes "NotEqual"
operator_name op.Less = codes "Less"
operator_name op.Greater = codes "Greater"
operator_name op.LessOrEqual = codes "LessOrEqual"
operator_name op.GreaterOrEqual = codes "GreaterOrEqual"
operator_name op.In = codes "In"
operator_name op.NotIn = codes "NotIn"
operator_name op.Subtract = codes "Subtract"
operator_name op.Add = codes "Add"
operator_name op.Multiply = codes "Multiply"
operator_name op.Percent = codes "Percent"
operator_name op.Divide = codes "Divide"
operator_name op.FloorDivide = codes "FloorDivide"
operator_name op.BitAnd = codes "BitAnd"
operator_name op.BitOr = codes "BitOr"
operator_name op.BitXor = codes "BitXor"
operator_name op.LeftShift = codes "LeftShift"
operator_name op.RightShift = codes "RightShift"

abbrev pub assign_operator_name : AssignOp → Text
assign_operator_name assign.Add = codes "Add"
assign_operator_name assign.Subtract = codes "Subtract"
assign_operator_name assign.Multiply = codes "Multiply"
assign_operator_name assign.Divide = codes "Divide"
assign_operator_name assign.FloorDivide = codes "FloorDivide"
assign_operator_name assign.Percent = codes "Percent"
assign_operator_name assign.BitAnd = codes "BitAnd"
assign_operator_name assign.BitOr = codes "BitOr"
assign_operator_name assign.BitXor = codes "BitXor"
assign_operator_name assign.LeftShift = codes "LeftShift"
assign_operator_name assign.RightShift = codes "RightShift"
