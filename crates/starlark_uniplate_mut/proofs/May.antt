-- What the calls of a mutable walk require, in a form for proof search: each conclusion begins with the fact that it is drawn from.
use Rattle.std.proofs.Common.{◌≡◌, ℕ, ◌<◌, List, ◌++◌, Result, Ok, Err, length, get_or, refl}
use Rattle.std.specs.List.{flat_map}
use Rattle.starlark_tree.specs.Walks.{MayWriteBy, Write, WriteBy, Writing, may_walk}
use Rattle.starlark_tree.proofs.Nodes.{tuple_children, list_children, fstring_children}
use Rattle.starlark_tree.proofs.Steps.{may_left}
use Rattle.starlark_uniplate_mut.proofs.WriteLoops.{WrittenTo, may_item}
use Rattle.starlark_uniplate_mut.proofs.Writing.{may_after, write_stops}

-- an item of a loop
module _ {A X Y S E : Type 0} {places : A → List X} {frame : A → Y} {by : Writing S X E} {i : ℕ} {s : S} {old new : List A} {u : S} where
  pub at_item : WrittenTo places frame by i s old new u → i < length old
      → WrittenTo places frame by i s old new u
      × ((d : A) → MayWriteBy by s (flat_map places old) → may_walk by.may (λ s x t. (y : X) × by.call s x y (Ok tt) t) u (places (get_or new i d)))
  at_item w h = (w, λ d m. (may_item places frame by old new i d refl h w m).each)

-- two walks, one after the other
module _ {S X E : Type 0} (by : Writing S X E) {s : S} (xs ys : List X) where
  pub before : MayWriteBy by s (xs ++ ys) → MayWriteBy by s (xs ++ ys) × may_walk by.may (λ s x t. (y : X) × by.call s x y (Ok tt) t) s xs
  before p = (p, (may_left xs ys p).each)

  pub next : MayWriteBy by s (xs ++ ys)
      → MayWriteBy by s (xs ++ ys)
      × ((r : Result (Unit {0}) E) (xs' : List X) (u : S) → r ≡ Ok tt → WriteBy by s xs xs' r u
      → may_walk by.may (λ s x t. (y : X) × by.call s x y (Ok tt) t) u ys)
  next p = (p, λ r xs' u e q. let w : WriteBy by s xs xs' (Ok tt) u = rw e at q in (may_after w ys p).each)

module _ {S X E : Type 0} {call : S → X → X → Result (Unit {0}) E → S → Type 0} {s u : S} {xs xs' : List X} where
  pub stops : {e : E} → Write call s xs xs' (Err e) u → Write call s xs xs' (Err e) u × ((ys : List X) → Write call s (xs ++ ys) (xs' ++ ys) (Err e) u)
  stops p = (p, λ ys. write_stops ys p)

pub ruleset parts = (before, next, stops)

-- the nodes in a node
pub ruleset rows = (tuple_children, list_children, fstring_children)
