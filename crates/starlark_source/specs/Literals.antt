-- The source of names and literals.
use Rattle.std.specs.Prelude.{ℕ, ◌^◌, ℤ, pos, negsuc, [], ◌∷◌, Bool, nat_lt, if◌then◌else◌}
use Rattle.std.specs.List.{list_all}
use Rattle.starlark_lexer.specs.Tokens.{Span, Terminal, Number, small, large, Identifier, Int, Float, String, Bytes}
use Rattle.starlark_lexer.specs.Tokens as tokens
use Rattle.starlark_tree.specs.Ast as t
use Rattle.starlark_tree.specs.Ast.{Word}
use Rattle.starlark_source.specs.Readings.{is_name, is_float, is_large_int}
use Rattle.starlark_source.specs.Pieces.{Pieces, token, unsayable}

-- a token if the lexer reads this text as it, and otherwise nothing that a text denotes
abbrev pub sayable : Bool → Terminal → Span → Pieces
sayable is_said token_of s = if is_said then token token_of ∷ [] else unsayable s ∷ []

abbrev pub name : Word → Pieces
name w = sayable (is_name w.text) (Identifier w.text) w.span

-- an integer is not negative, and fits 31 bits
abbrev pub small_int : Span → ℤ → Pieces
small_int s (pos n) = sayable (nat_lt n (2 ^ 31)) (Int (small (pos n))) s
small_int s (negsuc n) = unsayable s ∷ []

abbrev pub int : Span → Number → Pieces
int s (small n) = small_int s n
int s (large text) = sayable (is_large_int text) (Int (large text)) s

abbrev pub is_byte : ℕ → Bool
is_byte b = nat_lt b 256

abbrev pub literal : t.Literal → Pieces
literal (t.Int s n) = int s n
literal (t.Float w) = sayable (is_float w.text) (Float w.text) w.span
literal (t.String w) = token (String w.text) ∷ []
literal (t.Bytes w) = sayable (list_all is_byte w.text) (Bytes w.text) w.span
literal t.Ellipsis = token tokens.Ellipsis ∷ []
