use Rattle.std.proofs.Common.{refl}
use Rattle.starlark_payload.proofs.Made.{then_made}
use Rattle.starlark_payload.proofs.Statements.{maps_boxed_value, maps_variable}
use Rattle.starlark_payload.proofs.payload_map.assignment.map_assign_modify.Goals as goal

pub returns-in-Ok-parts : goal.returns-in-Ok-parts
returns-in-Ok-parts g c = (
  refl,
  then_made (maps_variable g.F.AstPayloadFunction.calls) (maps_boxed_value g.F.AstPayloadFunction.calls) c.args.target c.args.value _ _ _ _ _ _ _ _ _
      c.in-Ok.ensures.made c.in-Ok.ensures.kept c.in-Ok-parts.ensures.made c.in-Ok-parts.ensures.kept c.map_variable.ensures c.map_boxed.ensures,
)
