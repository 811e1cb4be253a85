use Rattle.starlark_payload.proofs.Rows.{f_string_made}
use Rattle.starlark_payload.proofs.payload_map.spanned.AstFStringPFStringPExt.into_map_payload.Goals as goal

pub returns : goal.returns
returns g c = f_string_made g.F.AstPayloadFunction.calls c.args.self _ _ _ _ c.spanned.ensures.node c.spanned.ensures.span c.map_format.ensures.format
    c.map_format.ensures.expressions
