-- The expressions and the children of a statement, in a form for proof search: each conclusion begins with the fact that it is drawn from.
use Rattle.std.proofs.Common.{◌≡◌, Result, Ok}
use Rattle.starlark_tree.specs.Ast as t
use Rattle.starlark_tree.specs.Children.{form_exprs, own_exprs, own_stmts, stmt_children}
use Rattle.starlark_tree.specs.Walks.{MayWriteBy, WriteBy, Writing, may_walk}
use Rattle.starlark_uniplate_mut.specs.AllExprs.{own_expr_calls}
use Rattle.starlark_uniplate_mut.specs.FormFrames.{exprs_frame}
use Rattle.starlark_uniplate_mut.specs.Forms.{forms}
use Rattle.starlark_uniplate_mut.specs.WrittenChildren.{child_calls}
use Rattle.starlark_uniplate_mut.proofs.AllExprs.{all_may}
use Rattle.starlark_uniplate_mut.proofs.WriteChildren.{may_exprs, may_stmts}

module _ {Q : t.Payloads} {S E : Type 0} (by : Writing S (t.Expression Q) E) {s : S} where
  pub exprs_apart : (form : t.Form Q) → MayWriteBy by s (form_exprs form)
      → MayWriteBy by s (form_exprs form)
      × may_walk (own_expr_calls by).may (λ s x v. (y : t.Form Q) × (own_expr_calls by).call s x y (Ok tt) v) s (forms form)
  exprs_apart form p = (p, (all_may by s form p).each)

module _ {Q : t.Payloads} {S E : Type 0} (stmts : Writing S (t.Statement Q) E) (exprs : Writing S (t.Expression Q) E) {s : S} where
  pub exprs_first : (old : t.Form Q) → MayWriteBy (child_calls stmts exprs) s (stmt_children old)
      → MayWriteBy (child_calls stmts exprs) s (stmt_children old)
      × may_walk exprs.may (λ s x v. (y : t.Expression Q) × exprs.call s x y (Ok tt) v) s (own_exprs old)
  exprs_first old p = (p, (may_exprs stmts exprs old p).each)

  pub then_stmts : (old : t.Form Q) → MayWriteBy (child_calls stmts exprs) s (stmt_children old)
      → MayWriteBy (child_calls stmts exprs) s (stmt_children old)
      × ((mid : t.Form Q) (r : Result (Unit {0}) E) (u : S) → WriteBy exprs s (own_exprs old) (own_exprs mid) r u → r ≡ Ok tt
      → exprs_frame mid ≡ exprs_frame old
      → may_walk stmts.may (λ s x v. (y : t.Statement Q) × stmts.call s x y (Ok tt) v) u (own_stmts mid))
  then_stmts old p = (
    p,
    λ mid r u w e f. let q : WriteBy exprs s (own_exprs old) (own_exprs mid) (Ok tt) u = rw e at w in (may_stmts stmts exprs old mid f q p).each,
  )

pub ruleset children = (exprs_first, then_stmts)
