use Rattle.starlark_validate.proofs.expressions.test_literal.Goals as goal

pub returns-in-Ellipsis : goal.returns-in-Ellipsis
returns-in-Ellipsis c = rw c.in-Ellipsis.is (rw c.are_disabled-is_left_out.ensures at c.refuse_left_out.ensures)
