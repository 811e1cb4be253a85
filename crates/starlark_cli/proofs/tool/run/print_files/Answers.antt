use Rattle.std.proofs.Common.{rules, length}
use Rattle.std.specs.Prelude.{IsErr, nat_lt}
use Rattle.starlark_cli.proofs.ToolLemmas.PrintedFiles.{each_cut, each_more, prints_new}
use Rattle.starlark_cli.proofs.ToolLemmas.WholeRuns.{files_err}
use Rattle.starlark_cli.proofs.tool.run.print_files.Goals as goal

pub loop-file-init : goal.loop-file-init
loop-file-init g c = prints_new c.args.request.now (nat_lt 1 (length c.args.found.now)) _ _ _ c.new-tally.result c.new-tally.ensures

pub returns-in_err-counts : goal.returns-in_err-counts
returns-in_err-counts g c =
    let failed : IsErr c.from_residual.result = search rules in
    files_err _ _ _ _ _ _ _ _ failed
    (each_cut c.args.request.now (nat_lt 1 (length c.args.found.now)) c.is_clean.result c.args.found.now c.loop-file.file-index c.file-item.result _ _ _ _ _ _
    _ _ c.loop-file.tally c.loop-file-test.true c.file-item.is c.is_clean.ensures c.loop-file.invariant c.in_err-counts.ensures)

pub loop-file-preserved : goal.loop-file-preserved
loop-file-preserved g c =
    each_more c.args.request.now (nat_lt 1 (length c.args.found.now)) c.is_clean.result c.args.found.now c.loop-file.file-index c.file-item.result _ _ _ _ _ _
    _ _ c.loop-file.tally c.loop-file-test.true c.file-item.is c.is_clean.ensures c.loop-file.invariant _ _ c.in_ok-counts.counts c.in_ok-counts.ensures
    c.with-tally.ensures
