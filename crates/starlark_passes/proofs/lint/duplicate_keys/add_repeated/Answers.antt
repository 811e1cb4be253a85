use Rattle.std.proofs.Common.{◌++◌, map, ap, sym, ◌∙◌, drop, ◌+◌}
use Rattle.std.specs.List.{flat_map}
use Rattle.starlark_tree.specs.Views.{expression_of}
use Rattle.starlark_lexer.specs.Tokens.{span_of}
use Rattle.starlark_passes.specs.Lint.Found.{text_of}
use Rattle.starlark_passes.specs.Lint.LintIssues.{repeats, string_key}
use Rattle.starlark_passes.proofs.LintLemmas.Repeats.{next_key, no_more_keys}
use Rattle.starlark_passes.proofs.lint.duplicate_keys.add_repeated.Goals as goal

pub loop-pair-preserved : goal.loop-pair-preserved
loop-pair-preserved c =
    c.in_ok-add_if_repeated.ensures (flat_map (λ p. string_key (expression_of p.0)) (drop (c.loop-pair.pair-index + 1) c.args.pairs.now))
    ∙ sym (ap (λ ks. map span_of c.loop-pair.found.items ++ repeats (map text_of c.loop-pair.seen.keys) ks)
    (next_key (λ p. string_key (expression_of p.0)) c.args.pairs.now c.loop-pair.pair-index c.pair-item.result c.loop-pair-test.true c.pair-item.is))
    ∙ c.loop-pair.invariant

pub returns : goal.returns
returns c = no_more_keys (λ p. string_key (expression_of p.0)) c.args.pairs.now c.loop-pair.pair-index _ _ _ c.loop-pair-test.false c.loop-pair.invariant
