use Rattle.std.proofs.lemmas.Result.{IfOk-weaker}
use Rattle.starlark_payload.proofs.Same.{same_shape}
use Rattle.starlark_payload.proofs.payload_map.same.map_expr_to_itself.Goals as goal

pub returns : goal.returns
returns g c = IfOk-weaker c.into_map_payload.result _ _ (λ mapped h own. same_shape g.F.AstPayloadFunction.calls own _ _ _ _ h) c.into_map_payload.ensures
