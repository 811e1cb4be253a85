-- What entering an expression requires, in a form for proof search: each conclusion begins with the fact that it is drawn from.
use Rattle.std.proofs.Common.{ℕ, ◌<◌, ◌≤◌, Ok, arith, length}
use Rattle.starlark_lexer.specs.declared.span.Spanned.{Spanned}
use Rattle.starlark_tree.specs.Ast as t
use Rattle.starlark_tree.specs.Inside.{inside}
use Rattle.starlark_tree.specs.declared.ast.ExprP.{ExprP}
use Rattle.starlark_tree.specs.Places.{children}
use Rattle.starlark_tree.specs.Views.{expression_of, payloads}
use Rattle.starlark_tree.specs.Walks.{Writing, may_walk}
use Rattle.starlark_uniplate.specs.Types.{TypeExpression, expr_types}
use Rattle.starlark_uniplate_mut.specs.Types.Entering.{EntersSmaller, EntersTyped}
use Rattle.starlark_uniplate_mut.specs.Types.Types.{at_first, children_of, types_in}
use Rattle.starlark_uniplate_mut.proofs.TypesLemmas.TypeWalks.{types_parted}
use Rattle.starlark_uniplate_mut.proofs.TypesLemmas.TypeEnters.{children_smaller, may_smaller}

module _ {Q : t.Payloads} {F E : Type 0} {calls : Writing F (TypeExpression Q) E} {others : Writing F (t.Expression Q) E} {f : F} where
  pub at_typed : {n : ℕ} → EntersTyped calls others f n
      → EntersTyped calls others f n × ((e : t.Expression Q) → 0 < length (expr_types e) → types_in e < n → others.may f e)
  at_typed p = (p, λ e some few. p.callable f e at_first some few)

module _ {A B C D T F E : Type 0} {calls : Writing F (TypeExpression (payloads A B C D T)) E} {others : Writing F (t.Expression (payloads A B C D T)) E}
    {f : F} where
  pub at_children : {n size : ℕ} → EntersSmaller calls others f n size
      → EntersSmaller calls others f n size
      × ((P : Type 0) (e : Spanned (ExprP P A B C D T)) → types_in (expression_of e) < n → length (inside (expression_of e)) ≤ size
      → may_walk others.may (λ s x u. (y : t.Expression (payloads A B C D T)) × others.call s x y (Ok tt) u) f (children e.node))
  at_children {n} {size} p = (
    p,
    λ P e few small.
        let parted = types_parted (expression_of e) in
        let smaller = children_smaller calls (expression_of e) in
        (may_smaller calls others n size (children_of (expression_of e)) p (omega (arith, parted, few)) (omega (arith, smaller, small))).each,
  )

pub ruleset by = (at_typed, at_children)
