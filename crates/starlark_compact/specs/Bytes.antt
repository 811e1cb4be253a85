-- Numbers, texts and the start of a node, as bytes.
use Rattle.std.specs.Prelude.{ℕ, ◌++◌, length}
use Rattle.std.specs.Int.{to_le_bytes}
use mir.Syntax.{w32, w64}
use Rattle.starlark_lexer.specs.Tokens.{Span, Text}
use Rattle.starlark_tree.specs.Ast.{Word}
use Rattle.starlark_compact.specs.Kinds.{kind_number}
use Rattle.starlark_compact.specs.declared.kind.Kind.{Kind}

-- four bytes, the lowest first
unfoldable pub number : ℕ → Text
number n = to_le_bytes w32 n

-- eight bytes, the lowest first
unfoldable pub count : ℕ → Text
count n = to_le_bytes w64 n

-- bytes after their count
abbrev pub sized : Text → Text
sized bytes = count (length bytes) ++ bytes

abbrev pub span_bytes : Span → Text
span_bytes s = number s.begin ++ number s.end

-- a text after its span
abbrev pub word_bytes : Word → Text
word_bytes w = span_bytes w.span ++ sized w.text

-- a node that has no span
abbrev pub mark : Kind → Text
mark kind = number (kind_number kind)

-- a node without fields of its own, or the start of one
abbrev pub node : Kind → Span → Text
node kind s = mark kind ++ span_bytes s
