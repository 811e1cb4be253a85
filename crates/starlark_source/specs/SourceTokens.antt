-- The tokens of a source, as a parser receives them.
use Rattle.std.specs.Prelude.{ℕ, Bool, true, false, ◌&&◌, if◌then◌else◌, List as Seq, [], ◌∷◌, map}
use Rattle.starlark_lexer.specs.Tokens.{Terminal, FStringText, Newline, Dedent, Lexeme}
use Rattle.starlark_tree.specs.Ast as t
use Rattle.starlark_tree.specs.Ast.{Payloads}
use Rattle.starlark_source.specs.Pieces.{Pieces, token, text_byte, blank, unsayable}
use Rattle.starlark_source.specs.Lines.{module_source}

-- a byte of an f-string's text before these tokens: bytes one after another are one text
abbrev pub with_text : ℕ → Seq Terminal → Seq Terminal
with_text b (FStringText text ∷ ts) = FStringText (b ∷ text) ∷ ts
with_text b ts = FStringText (b ∷ []) ∷ ts

-- the tokens of pieces; spaces are not tokens
abbrev pub tokens_of : Pieces → Seq Terminal
tokens_of [] = []
tokens_of (token t ∷ ps) = t ∷ tokens_of ps
tokens_of (text_byte b ∷ ps) = with_text b (tokens_of ps)
tokens_of (blank n ∷ ps) = tokens_of ps
tokens_of (unsayable s ∷ ps) = tokens_of ps

-- tokens without their spans
abbrev pub terminals : Seq Lexeme → Seq Terminal
terminals ls = map (λ l. l.token) ls

abbrev pub is_dedent : Terminal → Bool
is_dedent Dedent = true
is_dedent _ = false

abbrev pub only_dedents : Seq Terminal → Bool
only_dedents [] = true
only_dedents (t ∷ ts) = is_dedent t && only_dedents ts

-- tokens, and a Newline before the Dedents at their end: the lexer returns one at the end of a text
abbrev pub with_last_newline : Seq Terminal → Seq Terminal
with_last_newline [] = Newline ∷ []
with_last_newline (t ∷ ts) = if only_dedents (t ∷ ts) then Newline ∷ t ∷ ts else t ∷ with_last_newline ts

-- the tokens of a module's source
abbrev pub source_tokens : {P : Payloads} → t.Statement P → Seq Terminal
source_tokens m = tokens_of (module_source m)
