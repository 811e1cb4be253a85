-- The bytes of comments, and of positions.
use Rattle.std.proofs.Common.{◌≡◌, ℕ, List, [], ◌∷◌, ◌++◌, length, map, Result, Vec, Global, refl, ap, ◌∙◌}
use Rattle.std.specs.List.{flat_map}
use Rattle.std.specs.Prelude.{suc}
use Rattle.starlark_compact.specs.Adds.{Adds}
use Rattle.starlark_compact.specs.Answers.{position_bytes, spans_bytes}
use Rattle.starlark_compact.specs.Bytes.{count, span_bytes}
use Rattle.starlark_compact.specs.Code.{bytes_of_span}
use Rattle.starlark_lexer.specs.Places.{Place}
use Rattle.starlark_lexer.specs.Tokens.{span_of}
use Rattle.starlark_lexer.specs.declared.span.Span.{Span}

spans_listed : (ss : List Span) → flat_map span_bytes (map span_of ss) ≡ flat_map bytes_of_span ss
spans_listed [] = refl
spans_listed (s ∷ ss) = ap (λ ts. bytes_of_span s ++ ts) (spans_listed ss)

spans_counted : (ss : List Span) → length (map span_of ss) ≡ length ss
spans_counted [] = refl
spans_counted (s ∷ ss) = ap suc (spans_counted ss)

pub spans_shown : (ss : List Span) → spans_bytes (map span_of ss) ≡ count (length ss) ++ flat_map bytes_of_span ss
spans_shown ss = ap (λ n. count n ++ flat_map span_bytes (map span_of ss)) (spans_counted ss) ∙ ap (λ ts. count (length ss) ++ ts) (spans_listed ss)

-- a position, at the line and column that it is
pub placed : {E : Type 0} {r : Result (Unit {0}) E} {o n : Vec ℕ Global} {a b : Place} → a ≡ b → Adds r o n (position_bytes a)
    → Adds r o n (position_bytes b)
placed e p = rw e at p
