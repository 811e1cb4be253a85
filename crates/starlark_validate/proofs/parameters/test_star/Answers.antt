use Rattle.starlark_validate.proofs.parameters.test_star.Goals as goal

pub returns-in-NoArgs : goal.returns-in-NoArgs
returns-in-NoArgs c = rw c.in-NoArgs.is c.refuse_left_out.ensures
