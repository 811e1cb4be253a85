-- Two mutable walks, one after the other, in a form for proof search.
use Rattle.std.proofs.Common.{List, [], ◌∷◌, ◌++◌, Ok}
use Rattle.starlark_tree.specs.Walks.{MayWriteBy, WriteBy, Writing}
use Rattle.starlark_tree.proofs.Steps as steps
use Rattle.starlark_uniplate_mut.proofs.Writing as writing

module _ {S X E : Type 0} (by : Writing S X E) (s : S) (xs ys : List X) where
  pub may_left : MayWriteBy by s (xs ++ ys) → MayWriteBy by s xs
  may_left p = steps.may_left xs ys p

  pub may_right : (xs' : List X) (u : S) (v : Unit {0}) → MayWriteBy by s (xs ++ ys) → WriteBy by s xs xs' (Ok v) u → MayWriteBy by u ys
  may_right xs' u v p q = writing.may_after q ys p

pub ruleset plain = (may_left, may_right)

-- a node after a walk
module _ {S X E : Type 0} (by : Writing S X E) (s : S) (xs : List X) (y : X) where
  pub may_last : (xs' : List X) (u : S) (v : Unit {0}) → MayWriteBy by s (xs ++ y ∷ []) → WriteBy by s xs xs' (Ok v) u → MayWriteBy by u (y ∷ [])
  may_last xs' u v p q = writing.may_after q (y ∷ []) p

pub ruleset one_more = (may_left, may_last)

-- a node, then a walk
module _ {S X E : Type 0} (by : Writing S X E) (s : S) (x : X) (ys : List X) where
  pub may_first : MayWriteBy by s (x ∷ ys) → MayWriteBy by s (x ∷ [])
  may_first p = steps.may_left (x ∷ []) ys p

  pub may_rest : (x' : X) (u : S) (v : Unit {0}) → MayWriteBy by s (x ∷ ys) → WriteBy by s (x ∷ []) (x' ∷ []) (Ok v) u → MayWriteBy by u ys
  may_rest x' u v p q = writing.may_after q ys p

pub ruleset one_first = (may_first, may_rest)
