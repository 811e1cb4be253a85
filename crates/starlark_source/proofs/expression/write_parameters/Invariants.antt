use Rattle.std.proofs.Common.{◌++◌, take, codes}
use Rattle.std.specs.List.{flat_map}
use Rattle.starlark_source.specs.Pages.{Wrote, say}
use Rattle.starlark_source.specs.Drafted.{drafted_parameter}
use Rattle.starlark_source.proofs.expression.write_parameters.Given as goal

abbrev pub invariant-loop-item : goal.invariant-loop-item
invariant-loop-item l = Wrote l.initial.page (flat_map (λ p. say (codes ", ") ++ drafted_parameter p.node) (take l.item-index l.rest)) l.page
