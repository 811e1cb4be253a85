use Rattle.starlark_payload.proofs.Parameters.{placed_at}
use Rattle.starlark_payload.specs.Function.Mapped.{MapsParameter}
use Rattle.starlark_tree.specs.Views.{parameter_seen}
use Rattle.starlark_payload.proofs.payload_map.spanned.AstParameterPParameterPExt.into_map_payload.Goals as goal

pub returns : goal.returns
returns g c = placed_at (MapsParameter g.F.AstPayloadFunction.calls) parameter_seen parameter_seen c.args.self c.map_parameter.result c.spanned.result _ _
    c.spanned.ensures.node c.spanned.ensures.span c.map_parameter.ensures
