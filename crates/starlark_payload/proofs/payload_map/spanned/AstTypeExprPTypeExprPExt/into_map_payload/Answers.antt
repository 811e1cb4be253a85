use Rattle.starlark_payload.proofs.Made.{placed}
use Rattle.starlark_payload.proofs.payload_map.spanned.AstTypeExprPTypeExprPExt.into_map_payload.Goals as goal

pub returns : goal.returns
returns g c = placed _ _ _ _ c.spanned.ensures.node c.spanned.ensures.span c.map_type.ensures
