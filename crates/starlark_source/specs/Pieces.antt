-- What a source consists of: tokens, spaces, and what no text denotes.
use Rattle.std.specs.Prelude.{ℕ, List as Seq, [], ◌∷◌, ◌++◌, ◌==◌, if◌then◌else◌, codes, flat_map, map, replicate, option_map, unwrap_or, Bool, Result, Ok}
use Rattle.std.specs.Prelude.{Err}
use Rattle.std.specs.List.{join_by}
use Rattle.starlark_lexer.specs.Tokens.{Text, Span, Terminal, Int, Float, String, Bytes, FStringStart, FStringText, FStringExprStart}
use Rattle.starlark_lexer.specs.Tokens.{FStringBang, FStringExprEnd, FStringEnd, Newline, Comma, OpeningRound, ClosingRound}
use Rattle.starlark_lexer.specs.Tokens.{OpeningSquare, ClosingSquare, OpeningCurly, ClosingCurly}
use Rattle.starlark_lexer.specs.TokenText.{number_text}
use Rattle.starlark_lexer.specs.Words.{spelling}
use Rattle.starlark_tree.specs.Literals.{quoted_bytes}

pub data Piece : Type 0 where
  -- a token in its spelling
  token : Terminal → Piece
  -- a byte of the text of an f-string
  text_byte : ℕ → Piece
  -- this many spaces
  blank : ℕ → Piece
  -- what no text denotes, and where it is in the tree
  unsayable : Span → Piece

abbrev pub Pieces : Type 0
Pieces = Seq Piece

-- a byte inside the quotes of a literal: bytes that would end it, and bytes that are hard to see, have an escape
abbrev pub escaped : ℕ → Text
escaped b =
    if b == 10 then codes "\\n" else if b == 9 then codes "\\t" else if b == 13 then codes "\\r"
    else if b == 0 then codes "\\x00" else if b == 34 then codes "\\\"" else if b == 92 then codes "\\\\" else b ∷ []

-- a brace of an f-string's text is doubled
abbrev pub escaped_in_format : ℕ → Text
escaped_in_format b = if b == 123 then codes "{{" else if b == 125 then codes "}}" else escaped b

abbrev pub quoted : Text → Text
quoted text = codes "\"" ++ flat_map escaped text ++ codes "\""

-- how a token is written
abbrev pub spelled : Terminal → Text
spelled (Int n) = number_text n
spelled (Float text) = text
spelled (String text) = quoted text
spelled (Bytes bytes) = quoted_bytes bytes
spelled (FStringStart quote) = codes "f\""
spelled (FStringText text) = flat_map escaped_in_format text
spelled FStringExprStart = codes "{"
spelled FStringBang = codes "!"
spelled FStringExprEnd = codes "}"
spelled FStringEnd = codes "\""
spelled Newline = codes "\n"
spelled t = unwrap_or (spelling t) []

-- the text of pieces, or the first that no text denotes
abbrev pub joined : Text → Result Text Span → Result Text Span
joined text (Ok more) = Ok (text ++ more)
joined text (Err s) = Err s

abbrev pub said : Pieces → Result Text Span
said [] = Ok []
said (token t ∷ ps) = joined (spelled t) (said ps)
said (text_byte b ∷ ps) = joined (escaped_in_format b) (said ps)
said (blank n ∷ ps) = joined (replicate n 32) (said ps)
said (unsayable s ∷ ps) = Err s

-- one after another, with this between them
abbrev pub separated : Pieces → Seq Pieces → Pieces
separated between parts = join_by (λ part. part) between parts

abbrev pub comma : Pieces
comma = token Comma ∷ blank 1 ∷ []

abbrev pub listed : Seq Pieces → Pieces
listed parts = separated comma parts

-- the elements of a tuple in its parentheses: a comma follows a single one
abbrev pub in_tuple : Seq Pieces → Pieces
in_tuple [] = []
in_tuple (p ∷ []) = p ++ token Comma ∷ []
in_tuple (p ∷ q ∷ ps) = listed (p ∷ q ∷ ps)

abbrev pub in_round : Pieces → Pieces
in_round ps = token OpeningRound ∷ (ps ++ token ClosingRound ∷ [])

abbrev pub in_square : Pieces → Pieces
in_square ps = token OpeningSquare ∷ (ps ++ token ClosingSquare ∷ [])

abbrev pub in_curly : Pieces → Pieces
in_curly ps = token OpeningCurly ∷ (ps ++ token ClosingCurly ∷ [])

-- a token between two spaces
abbrev pub between : Terminal → Pieces
between t = blank 1 ∷ token t ∷ blank 1 ∷ []

-- a tuple where a list is allowed: two elements or more need no parentheses
abbrev pub bare : Seq Pieces → Pieces
bare [] = in_round []
bare (p ∷ []) = in_round (in_tuple (p ∷ []))
bare (p ∷ q ∷ ps) = listed (p ∷ q ∷ ps)

abbrev pub tupled : Bool → Seq Pieces → Pieces
tupled in_list ps = if in_list then bare ps else in_round (in_tuple ps)
