use Rattle.std.proofs.Common.{length, take}
use Rattle.std.specs.Prelude.{nat_lt}
use Rattle.starlark_cli.specs.Tool.PrintedFiles.{PrintsEach}
use Rattle.starlark_cli.proofs.tool.run.print_files.Given as goal

abbrev pub invariant-loop-file : goal.invariant-loop-file
invariant-loop-file g l = PrintsEach l.fn.request (nat_lt 1 (length l.fn.found)) (take l.file-index l.fn.found) (g.I.Read.remaining l.initial.input)
    (g.I.Read.remaining l.input) (g.W.Write.contents l.initial.out) (g.W.Write.contents l.out) (g.E.Write.contents l.initial.err) (g.E.Write.contents l.err)
    l.tally
