use Rattle.std.proofs.Common.{◌≡◌, ◌*◌, replicate, sym, ap, arith}
use Rattle.starlark_source.specs.Pages.{say}
use Rattle.starlark_source.proofs.PageLemmas.{wrote_as, wrote_nothing, wrote_texts}
use Rattle.starlark_source.proofs.StatementLemmas.{margin_more}
use Rattle.starlark_source.proofs.statement.write_margin.Goals as goal

pub loop-init : goal.loop-init
loop-init c =
    wrote_nothing _

pub loop-preserved : goal.loop-preserved
loop-preserved c =
    wrote_texts _ _ _ _ _ _ c.loop.invariant c.put.ensures (sym (margin_more c.loop.counter))

pub returns : goal.returns
returns c =
    let same : c.loop.counter ≡ c.args.depth = omega arith in
    wrote_as _ _ _ _ c.loop.invariant (ap (λ n. say (replicate (4 * n) 32)) same)
