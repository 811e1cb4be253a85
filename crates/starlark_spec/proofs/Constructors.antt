-- Anything follows from an equation of two constructors. In a clause for every other constructor these are faster than `cc`.
use Rattle.std.proofs.Common.{◌≡◌, Bool, true, false, Option, Some, None}

pub not_true : {A : Type 0} → false ≡ true → A
not_true e = cc

pub not_false : {A : Type 0} → true ≡ false → A
not_false e = cc

pub not_some : {A B : Type 0} {x : A} → None ≡ Some x → B
not_some e = cc

pub not_none : {A B : Type 0} {x : A} → Some x ≡ None → B
not_none e = cc
