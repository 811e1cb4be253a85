use Rattle.starlark_tree.proofs.clone.stmt.for_like.Goals as goal

pub returns-in-Ok : goal.returns-in-Ok
returns-in-Ok g c =
    let var = rw c.in-Ok.ensures.first at c.both.ensures.first in
    let over = rw c.in-Ok.ensures.first at c.both.ensures.second in
    rw c.in-Ok.ensures.second (λ same. (rw var at c.clone_variable-var.ensures, rw over at c.clone_spanned-over.ensures, same))
