-- Entering nodes by a function that is passed by name, and walks over all inside nodes by it.
use Rattle.std.specs.Prelude.{◌≡◌, ◌<◌, ℕ, List as Seq, length, Result}
use Rattle.std.specs.Borrow.{MutBor}
use Rattle.std.specs.Fn.{Shared}
use Rattle.starlark_tree.specs.Walks.{Calls, MayWalkBy, WalkBy}

-- the function has a mark as its last argument
module _ {G A X S M E : Type 0} (seen : A → X) (g : Shared G (A × (MutBor S × (M × Unit {0}))) (Result (Unit {0}) E × (MutBor S × Unit {0}))) where
  -- the function may be called in that state, at whatever is seen as x
  abbrev pub MayEnter : S → X → Type 0
  MayEnter s x = (function : G) (a : A) (old : MutBor S) (mark : M) → seen a ≡ x → old.now ≡ s → g.pre function (a, (old, (mark, tt)))

  pub record Enters (s : S) (x : X) (r : Result (Unit {0}) E) (t : S) : Type 0 where
    pub function : G
    pub shown : A
    pub shows : seen shown ≡ x
    pub old : MutBor S
    pub begins : old.now ≡ s
    pub mark : M
    pub new : MutBor S
    pub returned : g.post function (shown, (old, (mark, tt))) (r, (new, tt))
    pub ends : new.now ≡ t

-- what is done at each of the nodes of x, as what is done at x
module _ {S X Y E : Type 0} (nodes : X → Seq Y) (by : Calls S Y E) where
  abbrev pub calls_at : Calls S X E
  calls_at = record { may = λ s x. MayWalkBy by s (nodes x); call = λ s x. WalkBy by s (nodes x) }

-- `inside x` is x and all inside it
module _ {S X E : Type 0} (inside : X → Seq X) (by : Calls S X E) where
  -- a walk over all inside each node
  abbrev pub inside_calls : Calls S X E
  inside_calls = record { may = λ s x. MayWalkBy by s (inside x); call = λ s x. WalkBy by s (inside x) }

  -- what is done at a node with less inside it than a bound is a walk over all inside it
  pub record EntersInside (calls : Calls S X E) (bound : ℕ) : Type 0 where
    pub callable : (s : S) (x : X) → length (inside x) < bound → MayWalkBy by s (inside x) → calls.may s x
    pub promises : (s : S) (x : X) (r : Result (Unit {0}) E) (t : S) → calls.call s x r t → WalkBy by s (inside x) r t
