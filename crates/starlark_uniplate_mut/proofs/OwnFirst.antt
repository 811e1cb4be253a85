-- A node whose own nodes are changed first, and then those of its parts.
use Rattle.std.proofs.Common.{◌≡◌, List, ◌++◌, Result, Ok, Err, sym, ap, ◌∙◌}
use Rattle.starlark_tree.specs.Walks.{MayWalk, MayWriteBy, WriteBy, Writing, WritesIn}
use Rattle.starlark_tree.proofs.WalkConversions.{may_at}
use Rattle.starlark_tree.proofs.Steps.{may_left}
use Rattle.starlark_uniplate_mut.proofs.Writing.{may_after, write_at, write_on, write_stops}

module _ {T X S : Type 0} (places own parts : T → List X) (split : (x : T) → places x ≡ own x ++ parts x) {may : S → X → Type 0} {goes : S → X → S
    → Type 0} where
  pub may_own : {s : S} (x : T) → MayWalk may goes s (places x) → MayWalk may goes s (own x)
  may_own x p = may_left (own x) (parts x) (may_at (split x) p)

module _ {T X Y Z S E : Type 0} {by : Writing S X E} (places own parts : T → List X) (frame : T → Y) (own_frame : T → Z)
    (split : (x : T) → places x ≡ own x ++ parts x)
    (parts_kept : (x y : T) → own_frame y ≡ own_frame x → parts y ≡ parts x)
    (frame_kept : (x y : T) → own_frame y ≡ own_frame x → frame y ≡ frame x) where
  module _ {s u : S} (x y : T) where
    pub may_parts : WritesIn own own_frame by s x y (Ok tt) u → MayWriteBy by s (places x) → MayWriteBy by u (parts y)
    may_parts q p = may_after q.calls (parts y) (may_at (split x ∙ ap (λ zs. own x ++ zs) (sym (parts_kept x y q.rest))) p)

    pub own_stopped : {e : E} → WritesIn own own_frame by s x y (Err e) u → WritesIn places frame by s x y (Err e) u
    own_stopped q = record {
      calls = write_at (sym (split x)) (sym (split y ∙ ap (λ zs. own y ++ zs) (parts_kept x y q.rest))) (write_stops (parts x) q.calls);
      rest = frame_kept x y q.rest;
    }

    pub then_parts : (z : T) {r : Result (Unit {0}) E} {w : S} → WritesIn own own_frame by s x y (Ok tt) u → own z ≡ own y → frame z ≡ frame y
        → WriteBy by u (parts y) (parts z) r w → WritesIn places frame by s x z r w
    then_parts z q o f p = record {
      calls = write_at (sym (split x ∙ ap (λ zs. own x ++ zs) (sym (parts_kept x y q.rest)))) (sym (split z ∙ ap (λ zs. zs ++ parts z) o)) (write_on q.calls p);
      rest = f ∙ frame_kept x y q.rest;
    }
