-- Runs of bytes that pass a test, byte by byte.
use Rattle.std.proofs.Common.{◌≡◌, ℕ, ◌+◌, ◌<◌, ◌≤◌, Bool, true, false, inl, inr, List, length, get_or, sym, ◌∙◌, subst, arith}
use Rattle.std.proofs.lemmas.Bool.{cases_lt, false≢true}
use Rattle.std.proofs.lemmas.List.Sums.{prefix_len_passes, prefix_len_stops}
use Rattle.std.specs.List.{prefix_len}

-- a byte that passes lengthens the run
pub run_goes_on : (p : ℕ → Bool) (bytes : List ℕ) (n : ℕ) → n ≤ prefix_len p bytes → n < length bytes → p (get_or bytes n 0) ≡ true → n + 1 ≤ prefix_len p bytes
run_goes_on p bytes n run within e =
    elim (cases_lt n (prefix_len p bytes)) [
      | inl less ↦ omega arith
      | inr most ↦ let same : prefix_len p bytes ≡ n = omega arith in
          let stops = prefix_len_stops p bytes 0 (omega arith) in
          absurd (false≢true (sym (subst (λ k. p (get_or bytes k 0) ≡ false) same stops) ∙ e))
    ]

-- a byte that fails ends the run
pub run_stops_at : (p : ℕ → Bool) (bytes : List ℕ) (n : ℕ) → n ≤ prefix_len p bytes → p (get_or bytes n 0) ≡ false → n ≡ prefix_len p bytes
run_stops_at p bytes n run e =
    elim (cases_lt n (prefix_len p bytes)) [
      | inl less ↦ absurd (false≢true (sym e ∙ prefix_len_passes p bytes n 0 less))
      | inr most ↦ omega arith
    ]
