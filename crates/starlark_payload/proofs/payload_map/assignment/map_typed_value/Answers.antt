use Rattle.starlark_payload.proofs.Made.{then_made}
use Rattle.starlark_payload.proofs.Statements.{maps_annotation, maps_value}
use Rattle.starlark_payload.proofs.payload_map.assignment.map_typed_value.Goals as goal

pub returns-in-Ok-parts : goal.returns-in-Ok-parts
returns-in-Ok-parts g c =
    then_made (maps_annotation g.F.AstPayloadFunction.calls) (maps_value g.F.AstPayloadFunction.calls) c.args.typed.0 c.args.typed.1 _ _ _ _ _ _ _ _ _
    c.in-Ok.ensures.made c.in-Ok.ensures.kept c.in-Ok-parts.ensures.made c.in-Ok-parts.ensures.kept c.map_annotation.ensures c.map_spanned.ensures
