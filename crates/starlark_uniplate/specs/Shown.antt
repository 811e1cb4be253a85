-- Calls at nodes that are seen as something else.
use Rattle.std.specs.Prelude.{Result}

module _ {S X Y E : Type 0} (show : X → Y) (call : S → Y → Result (Unit {0}) E → S → Type 0) where
  pub record OnShown (s : S) (x : X) (r : Result (Unit {0}) E) (t : S) : Type 0 where
    pub called : call s (show x) r t
