use Rattle.starlark_payload.proofs.Made.{then_made}
use Rattle.starlark_payload.proofs.Statements.{maps_parameters, maps_return_type}
use Rattle.starlark_payload.proofs.payload_map.statement.map_signature.Goals as goal

pub returns-in-Ok-parts : goal.returns-in-Ok-parts
returns-in-Ok-parts g c =
    then_made (maps_parameters g.F.AstPayloadFunction.calls) (maps_return_type g.F.AstPayloadFunction.calls) c.args.params c.args.return_type _ _ _ _ _ _ _ _ _
    c.in-Ok.ensures.made c.in-Ok.ensures.kept c.in-Ok-parts.ensures.made c.in-Ok-parts.ensures.kept c.map_parameters.ensures c.map_maybe_type.ensures
