-- Sets of bytes; they serve to find the longest front whose bytes are in a set.
use Rattle.std.specs.Prelude.{ℕ, ◌≤◌, Bool, not, ◌&&◌, ◌||◌, ◌==◌, nat_lt, nat_le}
use Rattle.std.specs.Char.{digit_value}
use Rattle.starlark_lexer.specs.Bytes.{tab, line_feed, space}
use Rattle.starlark_lexer.specs.declared.text.Class.{Class}
use Rattle.starlark_lexer.specs.declared.text.Class.TheVariants.{Whitespace, Base, Name, CharRest, Line}

abbrev pub is_between : ℕ → ℕ → ℕ → Bool
is_between low high b = nat_le low b && nat_le b high

abbrev pub is_space : ℕ → Bool
is_space b = b == space

abbrev pub is_whitespace : ℕ → Bool
is_whitespace b = b == space || b == tab

abbrev pub is_digit : ℕ → Bool
is_digit b = is_between 48 57 b

-- a digit of a base, in upper or lower case
abbrev pub is_digit_of : ℕ → ℕ → Bool
is_digit_of base b = nat_lt (digit_value b) base

abbrev pub is_letter : ℕ → Bool
is_letter b = (is_between 65 90 b || is_between 97 122 b) || b == 95

abbrev pub is_name_byte : ℕ → Bool
is_name_byte b = is_letter b || is_digit b

-- a byte of an operator, punctuation or delimiter: `% & ( ) * + , - . /`, `: ; < = >`, `[ ]`, `^`, `{ | } ~` and `!`
abbrev pub is_sign_byte : ℕ → Bool
is_sign_byte b =
    ((((b == 33 || is_between 37 38 b) || is_between 40 47 b) || is_between 58 62 b) || (b == 91 || is_between 93 94 b)) || is_between 123 126 b

abbrev pub class_test : Class → ℕ → Bool
class_test Whitespace b = is_whitespace b
class_test (Base base) b = is_digit_of base b
class_test Name b = is_name_byte b
class_test CharRest b = is_between 128 191 b
class_test Line b = not (b == line_feed)

-- each byte of the set is ASCII
abbrev pub IsAsciiClass : Class → Type 0
IsAsciiClass CharRest = ⊥
IsAsciiClass Line = ⊥
IsAsciiClass (Base base) = base ≤ 36
IsAsciiClass _ = Unit {0}
