use Rattle.starlark_payload.specs.Function.Mapped.{MapsLoadArg}
use Rattle.starlark_tree.specs.Views.{load_arg_of}
use Rattle.starlark_payload.proofs.FunctionLemmas.Loops.{all_mapped, next_mapped, none_mapped}
use Rattle.starlark_payload.proofs.function.load.map_load_args.Goals as goal

pub loop-item-preserved : goal.loop-item-preserved
loop-item-preserved g c =
    next_mapped (λ x y. MapsLoadArg g.F.AstPayloadFunction.calls (load_arg_of x) (load_arg_of y)) _ c.loop-item.mapping
    c.next.new.self c.in_ok-mapping-2.mapping c.next.result c.in-Some.item c.map_load_arg.result _ _ _ c.loop-item.invariant c.in-Some.is c.next.ensures.some
    c.next.ensures.mapped c.in_ok-mapping-2.ensures.rest c.in_ok-mapping-2.ensures.mapped c.map_load_arg.ensures

pub returns : goal.returns
returns g c =
    rw c.finish.ensures (all_mapped _ c.args.items.items c.loop-item.mapping c.next.new.self c.next.result _ _ c.loop-item.invariant c.in_default.is
    c.next.ensures.all c.next.ensures.mapped)

pub loop-item-init : goal.loop-item-init
loop-item-init g c = none_mapped _ c.args.items.items c.in_ok-mapping.mapping _ c.in_ok-mapping.ensures.rest c.in_ok-mapping.ensures.mapped
