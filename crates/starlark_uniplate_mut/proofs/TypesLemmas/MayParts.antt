-- What the first of two mutable walks requires, in a form for proof search: its conclusion begins with the fact that it is drawn from.
use Rattle.std.proofs.Common.{List, ◌++◌}
use Rattle.starlark_tree.specs.Walks.{MayWalk, may_walk}
use Rattle.starlark_tree.proofs.Steps.{may_left}

module _ {S X : Type 0} {may : S → X → Type 0} {goes : S → X → S → Type 0} {s : S} (xs ys : List X) where
  pub before : MayWalk may goes s (xs ++ ys) → MayWalk may goes s (xs ++ ys) × may_walk may goes s xs
  before p = (p, (may_left xs ys p).each)
