-- Pieces as marks on a page.
use Rattle.std.specs.Prelude.{ℕ, List as Seq, [], ◌∷◌, flat_map, replicate}
use Rattle.std.specs.List.{join_by}
use Rattle.starlark_lexer.specs.Tokens.{Text}
use Rattle.starlark_source.specs.Pieces.{Pieces, Piece, token, text_byte, blank, unsayable, escaped_in_format, spelled}
use Rattle.starlark_source.specs.Pages.{Draft, say, fault}

abbrev pub piece_marks : Piece → Draft
piece_marks (token t) = say (spelled t)
piece_marks (text_byte b) = say (escaped_in_format b)
piece_marks (blank n) = say (replicate n 32)
piece_marks (unsayable s) = fault s ∷ []

abbrev pub draft : Pieces → Draft
draft ps = flat_map piece_marks ps

-- several, with this text between them
abbrev pub drafts : {X : Type 0} → (X → Draft) → Text → Seq X → Draft
drafts one between xs = join_by one (say between) xs
