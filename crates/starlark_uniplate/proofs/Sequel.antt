-- Two walks, one after the other, if the lists are plain.
use Rattle.std.proofs.Common.{List, [], ◌∷◌, ◌++◌, Result, Ok, Err}
use Rattle.starlark_tree.specs.Walks.{Calls, MayWalkBy, WalkBy}
use Rattle.starlark_tree.proofs.Steps as steps

module _ {S X E : Type 0} (calls : Calls S X E) (s : S) (xs ys : List X) where
  pub may_left : MayWalkBy calls s (xs ++ ys) → MayWalkBy calls s xs
  may_left p = steps.may_left xs ys p

  pub may_right : (u : S) (v : Unit {0}) → MayWalkBy calls s (xs ++ ys) → WalkBy calls s xs (Ok v) u → MayWalkBy calls u ys
  may_right u v p q = steps.may_right q ys p

  pub walk_on : (u : S) (v : Unit {0}) (r : Result (Unit {0}) E) (t : S) → WalkBy calls s xs (Ok v) u → WalkBy calls u ys r t → WalkBy calls s (xs ++ ys) r t
  walk_on u v r t p q = steps.walk_on p q

  pub walk_stops : (e : E) (t : S) → WalkBy calls s xs (Err e) t → WalkBy calls s (xs ++ ys) (Err e) t
  walk_stops e t p = steps.walk_stops ys p

pub ruleset plain = (may_left, may_right, walk_on, walk_stops)

-- a node after a walk
module _ {S X E : Type 0} (calls : Calls S X E) (s : S) (xs : List X) (y : X) where
  pub may_last : (u : S) (v : Unit {0}) → MayWalkBy calls s (xs ++ y ∷ []) → WalkBy calls s xs (Ok v) u → MayWalkBy calls u (y ∷ [])
  may_last u v p q = steps.may_right q (y ∷ []) p

pub ruleset one_more = (may_left, may_last, walk_on, walk_stops)

-- two nodes after a walk
module _ {S X E : Type 0} (calls : Calls S X E) (s : S) (xs : List X) (y z : X) where
  pub may_first : (u : S) (v : Unit {0}) → MayWalkBy calls s (xs ++ y ∷ z ∷ []) → WalkBy calls s xs (Ok v) u → calls.may u y
  may_first u v p q = (steps.may_right q (y ∷ z ∷ []) p).each.0

  pub may_second : (u : S) (v : Unit {0}) (t : S) → MayWalkBy calls s (xs ++ y ∷ z ∷ []) → WalkBy calls s xs (Ok v) u → calls.call u y (Ok tt) t → calls.may t z
  may_second u v t p q h = ((steps.may_right q (y ∷ z ∷ []) p).each.1 t h).0

pub ruleset two_more = (may_left, may_first, may_second, walk_on, walk_stops)
