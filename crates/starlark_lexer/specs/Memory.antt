-- Which tokens allocate memory.
use Rattle.std.specs.Prelude.{Bool, true, false}
use Rattle.starlark_lexer.specs.Tokens.{Number, small, large, Terminal, Identifier, Int, Float, String, Bytes, Comment, FStringText, FStringStart, Indent}

abbrev pub is_large : Number → Bool
is_large (small n) = false
is_large (large text) = true

-- a token that owns memory, or one for which the lexer's own lists grow
abbrev pub takes_memory : Terminal → Bool
takes_memory (Identifier text) = true
takes_memory (Int n) = is_large n
takes_memory (Float text) = true
takes_memory (String text) = true
takes_memory (Bytes text) = true
takes_memory (Comment text) = true
takes_memory (FStringText text) = true
takes_memory (FStringStart quote) = true
takes_memory Indent = true
takes_memory _ = false
