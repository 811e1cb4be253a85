-- What calls at types require, in a form for proof search: each conclusion begins with the fact that it is drawn from.
use Rattle.std.proofs.Common.{◌<◌, List, Ok, length}
use Rattle.starlark_tree.specs.Ast as t
use Rattle.starlark_tree.specs.Walks.{Writing, may_walk}
use Rattle.starlark_uniplate.specs.Types.{TypeExpression, expr_types}
use Rattle.starlark_uniplate_mut.specs.Types.Types.{After, IntoExpr, IntoForm, MayWriteTypes}
use Rattle.starlark_uniplate_mut.proofs.TypesLemmas.StmtTypes.{may_exprs, may_forms}
use Rattle.starlark_uniplate_mut.proofs.TypesLemmas.TypeEnters.{may_later}

module _ {P : t.Payloads} {F E : Type 0} {calls : Writing F (TypeExpression P) E} {f : F} where
  pub at_forms : MayWriteTypes calls f → MayWriteTypes calls f
      × ((xs : List (t.Form P)) → may_walk (λ s x. MayWriteTypes calls s) (λ s x u. (y : t.Form P) × IntoForm calls s x y (Ok tt) u) f xs)
  at_forms p = (p, λ xs. (may_forms calls xs p).each)

  pub at_exprs : MayWriteTypes calls f → MayWriteTypes calls f
      × ((xs : List (t.Expression P)) → may_walk (λ s x. MayWriteTypes calls s) (λ s x u. (y : t.Expression P) × IntoExpr calls s x y (Ok tt) u) f xs)
  at_exprs p = (p, λ xs. (may_exprs calls xs p).each)

  -- in a state that calls leave
  pub at_typed : MayWriteTypes calls f
      → MayWriteTypes calls f × ((h : F) (e : t.Expression P) → After calls f h → 0 < length (expr_types e) → MayWriteTypes calls h
      × (0 < length (expr_types e)))
  at_typed p = (p, λ h e a some. (may_later p a, some))
