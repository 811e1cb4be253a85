use Rattle.std.proofs.Common.{refl}
use Rattle.starlark_uniplate_mut.proofs.Writing.{may_after, write_length, write_on, write_stops}
use Rattle.starlark_uniplate_mut.proofs.types.stmt_types.write_signature_types.Goals as goal

pub write_type_if_there-requires : goal.write_type_if_there-requires
write_type_if_there-requires g c = may_after (rw c.in-Ok.is at c.write_parameter_types.ensures).calls _ c.requires

pub returns-in-Err : goal.returns-in-Err
returns-in-Err g c =
    let walk = rw c.in-Err.is at c.write_parameter_types.ensures in
    record { calls = write_stops _ walk.calls; parameters = walk.rest; return_type = refl }

pub returns-in-Ok : goal.returns-in-Ok
returns-in-Ok g c =
    let walk = rw c.in-Ok.is at c.write_parameter_types.ensures in
    record { calls = write_on walk.calls c.write_type_if_there.ensures; parameters = walk.rest; return_type = write_length c.write_type_if_there.ensures }
