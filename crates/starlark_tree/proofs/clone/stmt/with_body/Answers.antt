use Rattle.starlark_tree.proofs.clone.stmt.with_body.Goals as goal

pub returns-in-Ok : goal.returns-in-Ok
returns-in-Ok g c = rw (c.in-Ok.ensures.second, c.in-If.is) (λ same. (rw c.in-Ok.ensures.first at c.clone_spanned.ensures, same))

pub returns-in-Ok-for_like : goal.returns-in-Ok-for_like
returns-in-Ok-for_like g c = rw c.in-For.is c.in-Ok-for_like.ensures

pub returns-in-Ok-def_like : goal.returns-in-Ok-def_like
returns-in-Ok-def_like g c = rw c.in-Def.is c.in-Ok-def_like.ensures
