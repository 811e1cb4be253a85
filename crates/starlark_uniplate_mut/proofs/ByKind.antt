-- What is changed in a node, in the form of a function that changes one by its kind.
use Rattle.std.proofs.Common.{◌≡◌, List, Result}
use Rattle.starlark_tree.specs.Walks.{Writing, WritesIn}
use Rattle.starlark_uniplate_mut.proofs.Writing.{written_from}

-- a node that is known to be another
module _ {N X Y S F : Type 0} {places : N → List X} {frame : N → Y} {by : Writing S X F} {s : S} {found new : N} {r : Result (Unit {0}) F} {u : S} where
  pub in_found : WritesIn places frame by s found new r u → WritesIn places frame by s found new r u
      × ((old : N) → old ≡ found → WritesIn places frame by s old new r u)
  in_found p = (p, λ old e. written_from e p)
