use Rattle.std.proofs.Common.{◌≡◌, ◌∙◌, map, rules}
use Rattle.std.proofs.lemmas.Iterator.{YieldsList-from_map, YieldsList-from_slice}
use Rattle.starlark_lexer.proofs.SpansLemmas.{whole_run-spans}
use Rattle.starlark_lexer.specs.Spans.{least_begin, greatest_end}
use Rattle.starlark_lexer.specs.Tokens.{from_to, span_of}
use Rattle.starlark_checks.proofs.ParameterFaults.{entry_span, whole_is}
use Rattle.starlark_checks.proofs.def.whole.Goals as goal

pub returns : goal.returns
returns g c =
    let over = whole_run-spans c.merge_all.result.begin.byte c.merge_all.result.end.byte c.merge_all.ensures
    (YieldsList-from_map _ entry_span (YieldsList-from_slice c.args.params.now cc) c.map.ensures.closure (λ x r q k. search rules)) in
    let same : span_of c.merge_all.result ≡ from_to (least_begin (map entry_span c.args.params.now)) (greatest_end (map entry_span c.args.params.now)) =
    λ i. from_to (over.0 i) (over.1 i) in
    same ∙ whole_is c.args.params.now
