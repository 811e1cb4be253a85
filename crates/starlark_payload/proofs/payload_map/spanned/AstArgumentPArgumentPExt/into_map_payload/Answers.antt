use Rattle.starlark_payload.proofs.Parameters.{placed_at}
use Rattle.starlark_payload.specs.Function.Mapped.{MapsArgument}
use Rattle.starlark_tree.specs.Views.{argument_seen}
use Rattle.starlark_payload.proofs.payload_map.spanned.AstArgumentPArgumentPExt.into_map_payload.Goals as goal

pub returns : goal.returns
returns g c = placed_at (MapsArgument g.F.AstPayloadFunction.calls) argument_seen argument_seen c.args.self c.map_argument.result c.spanned.result _ _
    c.spanned.ensures.node c.spanned.ensures.span c.map_argument.ensures
