-- The formats of f-strings.
use Rattle.std.specs.Prelude.{ℕ, zero, suc, ◌+◌, ◌≤◌, length, slice_index, List as Seq, [], ◌∷◌, ◌++◌, ◌==◌, ◌&&◌, if◌then◌else◌}
use Rattle.std.specs.Str.{IsCharBoundary}
use Rattle.starlark_lexer.specs.Tokens.{Text, Span, FStringExprStart, FStringBang, FStringExprEnd, Identifier}
use Rattle.starlark_source.specs.declared.format.Mark.{Mark}
use Rattle.starlark_source.specs.declared.format.Mark.TheVariants as marks
use Rattle.starlark_source.specs.Pieces.{Pieces, Piece, token, text_byte, unsayable}

-- the conversion `!r`
abbrev pub as_repr : Pieces
as_repr = token FStringBang ∷ token (Identifier (114 ∷ [])) ∷ []

-- the mark that begins with these bytes
abbrev pub mark_of : ℕ → ℕ → ℕ → ℕ → Mark
mark_of a b c d =
    if a == 123 then (if b == 123 then marks.Brace
    else if b == 125 then marks.Hole
    else if b == 33 && (c == 114 && d == 125) then marks.ReprHole
    else marks.Broken)
    else if a == 125 then (if b == 125 then marks.Brace else marks.Broken)
    else marks.Text

-- an expression in its hole, with its conversion, and what comes after it
abbrev pub placed : Span → Pieces → Seq Pieces → (Seq Pieces → Pieces) → Pieces
placed s conversion [] more = unsayable s ∷ []
placed s conversion (e ∷ es) more = token FStringExprStart ∷ (e ++ (conversion ++ (token FStringExprEnd ∷ more es)))

-- A mark whose first byte is b, and what comes after it: `more k es` is the rest after k bytes more.
abbrev pub marked_source : Span → Mark → ℕ → Seq Pieces → (ℕ → Seq Pieces → Pieces) → Pieces
marked_source s marks.Text b es more = text_byte b ∷ more 0 es
marked_source s marks.Brace b es more = text_byte b ∷ more 1 es
marked_source s marks.Hole b es more = placed s [] es (more 1)
marked_source s marks.ReprHole b es more = placed s as_repr es (more 3)
marked_source s marks.Broken b es more = unsayable s ∷ []

-- what is left of a format after this many bytes, with these expressions in its holes
abbrev pub filled_after : Span → ℕ → Text → Seq Pieces → Pieces
filled_after s k [] [] = []
filled_after s k [] (e ∷ es) = unsayable s ∷ []
filled_after s zero (b ∷ rest) es =
    marked_source s (mark_of b (slice_index rest 0) (slice_index rest 1) (slice_index rest 2)) b es (λ k. filled_after s k rest)
filled_after s (suc k) (b ∷ rest) es = filled_after s k rest es

-- A format with these expressions in its holes. No text denotes a format with a brace that is neither part of a hole nor doubled, nor one
-- whose number of holes is not the number of expressions.
abbrev pub filled : Span → Text → Seq Pieces → Pieces
filled s format es = filled_after s 0 format es

-- a text may be cut where a mark begins and where it ends
abbrev pub MarkFits : Text → ℕ → Mark → Type 0
MarkFits format at marks.Text = at + 1 ≤ length format
MarkFits format at marks.Brace = at + 2 ≤ length format
MarkFits format at marks.Hole = IsCharBoundary format at × IsCharBoundary format (at + 2)
MarkFits format at marks.ReprHole = IsCharBoundary format at × IsCharBoundary format (at + 4)
MarkFits format at marks.Broken = IsCharBoundary format at
