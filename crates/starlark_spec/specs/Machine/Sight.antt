-- What the machine looks at in the remaining items: the first of them.
use Rattle.std.specs.Prelude.{Bool, true, false, List, [], ◌∷◌}
use Rattle.starlark_lexer.specs.Tokens.{Text, Number, large, Lexeme, lexeme, Terminal, nowhere}
use Rattle.starlark_lexer.specs.declared.token.FStringQuote.{FStringQuote}
use Rattle.starlark_lexer.specs.declared.token.FStringQuote.TheVariants.{Double}
use Rattle.starlark_lexer.specs.Tokens as tokens
use Rattle.starlark_lexer.specs.declared.kind.Kind.{Kind}
use Rattle.starlark_lexer.specs.declared.kind.Kind.TheVariants as kinds
use Rattle.starlark_spec.specs.Items.{Ending, at_end, out_of_memory}
use Rattle.starlark_lexer.specs.Kinds.{kind_of}

-- the first item
pub data Sight : Type 0 where
  token : Lexeme → Sight
  ending : Ending → Sight

-- what the machine knows of it
pub record Look : Type 0 where
  pub kind : Kind
  pub first : Lexeme
  -- that the lexer ran out of memory
  pub no_memory : Bool

abbrev pub no_lexeme : Lexeme
no_lexeme = lexeme tokens.Newline nowhere

abbrev pub is_out_of_memory : Ending → Bool
is_out_of_memory out_of_memory = true
is_out_of_memory _ = false

abbrev pub end_kind : Ending → Kind
end_kind at_end = kinds.End
end_kind _ = kinds.Fault

-- whether there is no token
abbrev pub is_ending : Kind → Bool
is_ending kinds.End = true
is_ending kinds.Fault = true
is_ending _ = false

abbrev pub look_at : Sight → Look
look_at (token x) = record { kind = kind_of x.token; first = x; no_memory = false }
look_at (ending z) = record { kind = end_kind z; first = no_lexeme; no_memory = is_out_of_memory z }

abbrev pub sight : Ending → List Lexeme → Sight
sight z [] = ending z
sight z (x ∷ rest) = token x

abbrev pub look : Ending → List Lexeme → Look
look z rest = look_at (sight z rest)

abbrev pub text_of : Terminal → Text
text_of (tokens.Identifier text) = text
text_of (tokens.Float text) = text
text_of (tokens.String text) = text
text_of (tokens.Bytes text) = text
text_of (tokens.FStringText text) = text
text_of _ = []

abbrev pub number_of : Terminal → Number
number_of (tokens.Int n) = n
number_of _ = large []

abbrev pub quote_of : Terminal → FStringQuote
quote_of (tokens.FStringStart quote) = quote
quote_of _ = Double
