-- A closure that cannot fail, as what a mutable walk calls, in a form for proof search: the conclusion begins with the fact that it is drawn from.
use Rattle.std.proofs.Common.{List, Ok}
use Rattle.std.specs.Fn.{Mut}
use Rattle.std.specs.declared.convert.Infallible.{Infallible}
use denote.Ref.{MutBor}
use Rattle.starlark_tree.specs.Walks.{GoesWriting, MayWrite, TakesMut, may_walk}
use Rattle.starlark_tree.proofs.WalkConversions.{may_as}

module _ {F A X : Type 0} {seen : A → X} {g : Mut F (MutBor A × Unit {0}) (Unit {0} × (MutBor A × Unit {0}))} {f : F} {xs : List X} where
  pub hand : MayWrite seen g f xs
      → MayWrite seen g f xs × may_walk (TakesMut seen g) (λ s x t. (y : X) × GoesWriting {E = Infallible} seen g s x y (Ok tt) t) f xs
  hand p = (p, (may_as p (λ s x p. p) (λ s x t h. (h.0, h.1.called))).each)
