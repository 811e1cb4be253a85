use Rattle.std.proofs.Common.{◌++◌, take, codes}
use Rattle.std.specs.List.{flat_map}
use Rattle.starlark_source.specs.Pages.{Wrote, say}
use Rattle.starlark_source.specs.DraftedLines.{drafted_load_arg}
use Rattle.starlark_source.proofs.statement.write_load_args.Given as goal

abbrev pub invariant-loop-arg : goal.invariant-loop-arg
invariant-loop-arg l = Wrote l.initial.page (flat_map (λ a. say (codes ", ") ++ drafted_load_arg a) (take l.arg-index l.args)) l.page
