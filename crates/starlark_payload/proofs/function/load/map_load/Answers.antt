use Rattle.std.proofs.Common.{refl}
use Rattle.starlark_tree.specs.Views.{load_arg_of}
use Rattle.starlark_payload.specs.Function.Mapped.{MapsLoadArg}
use Rattle.starlark_payload.proofs.FunctionLemmas.Steps.{each_mapped}
use Rattle.starlark_payload.proofs.function.load.map_load.Goals as goal

pub returns : goal.returns
returns g c = (
  refl,
  (
    c.map_load-payload.new.self,
    rw c.deref.ensures at c.map_load-payload.ensures,
    each_mapped (MapsLoadArg g.F.AstPayloadFunction.calls) load_arg_of load_arg_of c.args.load.args.items _ _ _ c.in_ok-args.ensures,
  ),
)
