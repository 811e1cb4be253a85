use Rattle.starlark_payload.proofs.Parameters.{placed_at}
use Rattle.starlark_payload.specs.Function.Mapped.{MapsTarget}
use Rattle.starlark_tree.specs.Views.{target_seen}
use Rattle.starlark_payload.proofs.payload_map.spanned.AstAssignTargetPAssignTargetPExt.into_map_payload.Goals as goal

pub returns : goal.returns
returns g c = placed_at (MapsTarget g.F.AstPayloadFunction.calls) target_seen target_seen c.args.self c.map_target.result c.spanned.result _ _
    c.spanned.ensures.node c.spanned.ensures.span c.map_target.ensures
