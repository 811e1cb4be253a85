use Rattle.std.proofs.Common.{◌++◌, take, codes}
use Rattle.std.specs.List.{flat_map}
use Rattle.starlark_source.specs.Pages.{Wrote, say}
use Rattle.starlark_source.specs.DraftedLines.{drafted_small}
use Rattle.starlark_source.proofs.statement.write_smalls.Given as goal

abbrev pub invariant-loop-part : goal.invariant-loop-part
invariant-loop-part l = Wrote l.initial.page (flat_map (λ s. say (codes "; ") ++ drafted_small s.span s.node) (take l.part-index l.rest)) l.page
