use Rattle.starlark_validate.proofs.parameters.test_slash.Goals as goal

pub returns-in-Slash : goal.returns-in-Slash
returns-in-Slash c = rw c.in-Slash.is c.refuse_left_out.ensures
