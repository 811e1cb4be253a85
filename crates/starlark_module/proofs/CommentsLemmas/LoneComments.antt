-- Tests of whether a comment is alone on its line.
use Rattle.std.proofs.Common.{◌≡◌, Bool, true, false, ◌&&◌, ◌||◌, refl}

-- a first test fails, and two others are made in turn
module _ (r first second third : Bool) where
  pub third_decides : first ≡ false → second ≡ true → r ≡ third → r ≡ first || (second && third)
  third_decides one two e = rw (one, two) e

  pub second_fails : first ≡ false → r ≡ second → r ≡ false → r ≡ first || (second && third)
  second_fails one e is = rw (one, ← e, is) refl
