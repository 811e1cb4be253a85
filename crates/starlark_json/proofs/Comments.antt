-- The tokens of the comments' spans.
use Rattle.std.proofs.Common.{◌≡◌, List, [], ◌∷◌, ◌++◌, map, refl, ap, sym, ◌∙◌, append_assoc}
use Rattle.std.specs.List.{flat_map}
use Rattle.json.specs.Token.{end_array}
use Rattle.json.specs.Tree.{items_tokens}
use Rattle.starlark_json.specs.Answers.{spans_json, code_span_tokens}
use Rattle.starlark_lexer.specs.Tokens.{span_of}
use Rattle.starlark_lexer.specs.declared.span.Span.{Span}

pub spans_listed : (ss : List Span) → items_tokens (spans_json (map span_of ss)) ≡ flat_map code_span_tokens ss ++ end_array ∷ []
spans_listed [] = refl
spans_listed (s ∷ ss) = ap (λ ts. code_span_tokens s ++ ts) (spans_listed ss)
