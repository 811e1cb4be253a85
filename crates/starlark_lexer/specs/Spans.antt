-- Spans of a text, by the byte offsets of their ends.
use Rattle.std.specs.Prelude.{ℕ, ◌≤◌, List, [], ◌∷◌, min, max, fold}
use Rattle.starlark_lexer.specs.declared.span.Span.{Span}

-- where a span begins and ends
abbrev pub ends : Span → ℕ × ℕ
ends span = (span.begin.byte, span.end.byte)

-- the position lies in the span or at one of its ends
abbrev pub Covers : Span → ℕ → Type 0
Covers span place = (span.begin.byte ≤ place) × (place ≤ span.end.byte)

-- the least start of all, or 0 if there are none
abbrev pub least_begin : List Span → ℕ
least_begin [] = 0
least_begin (first ∷ rest) = fold (λ least span. min least span.begin.byte) first.begin.byte rest

-- the greatest end of all, or 0 if there are none
abbrev pub greatest_end : List Span → ℕ
greatest_end [] = 0
greatest_end (first ∷ rest) = fold (λ greatest span. max greatest span.end.byte) first.end.byte rest
