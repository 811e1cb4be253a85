-- The spans of text that signatures and load symbols cover.
use Rattle.std.specs.Prelude.{List as Seq, [], ◌∷◌, Option, Some, None, min, max}
use Rattle.std.specs.List.{fold}
use Rattle.starlark_lexer.specs.Tokens.{Span, from_to}

-- the smallest span over both
abbrev pub merge : Span → Span → Span
merge a b = from_to (min a.begin b.begin) (max a.end b.end)

abbrev pub merge_all : Span → Seq Span → Span
merge_all first others = fold merge first others

abbrev pub merge_some : Span → Option Span → Span
merge_some span None = span
merge_some span (Some other) = merge span other

-- over the parameters, or the body's if there are none
abbrev pub lambda_signature : Seq Span → Span → Span
lambda_signature [] body = body
lambda_signature (first ∷ others) body = merge_all first others

-- over the name, the parameters and the return type
abbrev pub def_signature : Span → Seq Span → Option Span → Span
def_signature name parameters return_type = merge_some (merge_all name parameters) return_type
