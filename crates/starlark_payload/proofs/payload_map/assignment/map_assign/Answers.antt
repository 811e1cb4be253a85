use Rattle.starlark_payload.proofs.Made.{then_made}
use Rattle.starlark_payload.proofs.Statements.{maps_typed_value, maps_variable}
use Rattle.starlark_payload.proofs.payload_map.assignment.map_assign.Goals as goal

pub returns-in-Ok-zip : goal.returns-in-Ok-zip
returns-in-Ok-zip g c =
    then_made (maps_variable g.F.AstPayloadFunction.calls) (maps_typed_value g.F.AstPayloadFunction.calls) c.args.assign.lhs (
      c.args.assign.ty,
      c.args.assign.rhs,
    ) _ _ _ _ _ _ _ _ _ c.in-Ok.ensures.made c.in-Ok.ensures.kept c.in-Ok-zip.ensures.made c.in-Ok-zip.ensures.kept
    c.map_variable.ensures c.map_typed_value.ensures
