-- What a call adds to bytes.
use Rattle.std.specs.Prelude.{◌≡◌, ℕ, List, ◌++◌, OnOk, Result, Vec}
use Rattle.std.specs.Global.{Global}

-- If the call succeeds, these bytes were added.
pub record Adds {E : Type 0} (r : Result (Unit {0}) E) (old new : Vec ℕ Global) (added : List ℕ) : Type 0 where
  pub bytes : OnOk r (new.items ≡ old.items ++ added)
