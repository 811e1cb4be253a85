use Rattle.std.proofs.Common.{length}
use Rattle.std.specs.Vec.Iter.{into_iter_items}
use Rattle.starlark_payload.specs.Function.Mapped.{MapsLoadArg}
use Rattle.starlark_payload.proofs.FunctionLemmas.Loops.{MappedTo}
use Rattle.starlark_tree.specs.Views.{load_arg_of}
use Rattle.starlark_payload.proofs.function.load.map_load_args.Given as goal

abbrev pub invariant-loop-item : goal.invariant-loop-item
invariant-loop-item g l = MappedTo (λ x y. MapsLoadArg g.F.AstPayloadFunction.calls (load_arg_of x) (load_arg_of y)) l.fn.items.items l.mapping l.fn.f l.f

abbrev pub decreases-loop-item : goal.decreases-loop-item
decreases-loop-item g l = length (into_iter_items l.mapping.rest)
