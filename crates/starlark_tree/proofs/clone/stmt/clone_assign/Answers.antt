use Rattle.starlark_tree.proofs.clone.stmt.clone_assign.Goals as goal

pub returns-in-Ok : goal.returns-in-Ok
returns-in-Ok g c =
    let ty = rw c.in-Ok.ensures.second at c.both-value.ensures.first in
    let rhs = rw c.in-Ok.ensures.second at c.both-value.ensures.second in
    (rw c.in-Ok.ensures.first at c.clone_variable.ensures, rw ty at c.clone_annotation.ensures, rw rhs at c.clone_spanned.ensures)
