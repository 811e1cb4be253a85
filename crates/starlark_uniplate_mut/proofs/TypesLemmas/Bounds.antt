-- Bounds.
use Rattle.std.proofs.Common.{ℕ, ◌<◌, ◌≤◌, ◌+◌, arith}

pub one_more : (m n : ℕ) → m < n + 1 → m + 1 ≤ n + 1
one_more m n small = omega (arith, small)
