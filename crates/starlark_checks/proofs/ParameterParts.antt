-- How the parameters of a list without fault are divided.
use Rattle.std.proofs.Common.{◌≡◌, ℕ, zero, suc, ◌+◌, ◌-◌, ◌≤◌, ◌<◌, List as Seq, [], ◌∷◌, ◌++◌, length, Option, Some, None, IfSome, append-nil, refl, ap}
use Rattle.std.proofs.Common.{subst, sym, ◌∙◌, arith}
use Rattle.std.specs.Prelude.{option_map}
use Rattle.std.specs.List.{position_from, range_with_len}
use Rattle.std.specs.Option.{unwrap_or}
use Rattle.starlark_tree.specs.Ast.{Payloads, Parameter}
use Rattle.starlark_checks.specs.Calls.{optional}
use Rattle.starlark_checks.specs.Faults.{first_fault}
use Rattle.starlark_checks.specs.Parameters.{Parts, entry_fault, indices, is_slash, named, places, positional, takes_args, takes_kwargs}
use Rattle.starlark_checks.specs.declared.def.DefParamIndices.{DefParamIndices}
use Rattle.starlark_checks.proofs.ParameterLemmas.{one, args_at, kwargs_at, slash_at, room}

range-append : (a m n : ℕ) → range_with_len a (m + n) ≡ range_with_len a m ++ range_with_len (a + m) n
range-append a zero n = let none : zero + n ≡ n = omega arith in let same : a ≡ a + zero = omega arith in ap (range_with_len a) none
    ∙ ap (λ b. range_with_len b n) same
range-append a (suc m) n =
    let more : suc m + n ≡ suc (m + n) = omega arith in
    let same : (a + 1) + m ≡ a + suc m = omega arith in
    ap (range_with_len a) more ∙ ap (λ r. a ∷ r) (range-append (a + 1) m n ∙ ap (λ b. range_with_len (a + 1) m ++ range_with_len b n) same)

split : (a b c : ℕ) → a ≤ b → b ≤ c → places a c ≡ places a b ++ places b c
split a b c low high =
    let whole : c - a ≡ (b - a) + (c - b) = omega arith in
    let at : a + (b - a) ≡ b = omega arith in
    ap (range_with_len a) whole ∙ range-append a (b - a) (c - b) ∙ ap (λ k. places a b ++ range_with_len k (c - b)) at

place : (a : ℕ) → places a (a + 1) ≡ a ∷ []
place a = let single : (a + 1) - a ≡ 1 = omega arith in ap (range_with_len a) single

first_place : (a c : ℕ) → a < c → places a c ≡ a ∷ places (a + 1) c
first_place a c within =
    let low : a ≤ a + 1 = omega arith in
    let high : a + 1 ≤ c = omega arith in
    split a (a + 1) c low high ∙ ap (λ r. r ++ places (a + 1) c) (place a)

last_place : (b k c : ℕ) → b ≤ k → k + 1 ≡ c → places b c ≡ places b k ++ k ∷ []
last_place b k c low is =
    let high : k ≤ k + 1 = omega arith in
    ap (places b) (sym is) ∙ split b k (k + 1) low high ∙ ap (λ r. places b k ++ r) (place k)

-- from the positional ones on
after_positional : (positional count : ℕ) (args kwargs : Option ℕ) → IfSome args (λ a. a ≡ positional) → IfSome kwargs (λ k. k + 1 ≡ count)
    → positional + (one args + one kwargs) ≤ count
    → places positional count ≡ optional args ++ (places (unwrap_or (option_map (λ place. place + 1) args) positional) (unwrap_or kwargs count)
    ++ optional kwargs)
after_positional p count None None is last fit = sym (append-nil (places p count))
after_positional p count None (Some k) is last fit =
    let at : k + 1 ≡ count = last in
    let within : p + (0 + 1) ≤ count = fit in
    let low : p ≤ k = omega arith in last_place p k count low at
after_positional p count (Some a) None is last fit =
    let same : a ≡ p = is in
    let within : p + (1 + 0) ≤ count = fit in
    let high : a < count = omega arith in
    ap (λ n. places n count) (sym same) ∙ first_place a count high ∙ ap (λ r. a ∷ r) (sym (append-nil (places (a + 1) count)))
after_positional p count (Some a) (Some k) is last fit =
    let same : a ≡ p = is in
    let at : k + 1 ≡ count = last in
    let within : p + (1 + 1) ≤ count = fit in
    let high : a < count = omega arith in
    let low : a + 1 ≤ k = omega arith in
    ap (λ n. places n count) (sym same) ∙ first_place a count high ∙ ap (λ r. a ∷ r) (last_place (a + 1) k count low at)

parts_of : (i : DefParamIndices) (count : ℕ) → i.num_positional_only ≤ i.num_positional → IfSome i.args (λ a. a ≡ i.num_positional)
    → IfSome i.kwargs (λ k. k + 1 ≡ count)
    → i.num_positional + (one i.args + one i.kwargs) ≤ count → Parts i count
parts_of i count low a k fit =
    let high : i.num_positional ≤ count = omega arith in
    let first : 0 ≤ i.num_positional_only = omega arith in
    let below : i.num_positional_only ≤ count = omega arith in
    record {
      positional_only = low;
      args = a;
      kwargs = k;
      joined =
          split 0 i.num_positional_only count first below
          ∙ ap (λ r. places 0 i.num_positional_only ++ r)
          (split i.num_positional_only i.num_positional count low high
          ∙ ap (λ r. places i.num_positional_only i.num_positional ++ r) (after_positional i.num_positional count i.args i.kwargs a k fit));
    }

each : (o : Option ℕ) (P : ℕ → Type 0) → ((k : ℕ) → o ≡ Some k → P k) → IfSome o P
each None P says = tt
each (Some k) P says = says k refl

within : (o : Option ℕ) (m : ℕ) → ((k : ℕ) → o ≡ Some k → k ≤ m) → unwrap_or o 0 ≤ m
within None m says = omega arith
within (Some k) m says = says k refl

module _ {P : Payloads} (ps : Seq (Parameter P)) (none : first_fault entry_fault [] ps ≡ None) where
  pub parts : Parts (indices ps) (length (named ps))
  parts =
      parts_of (indices ps) (length (named ps)) (within (position_from is_slash 0 ps) (positional ps) (λ k is. let at : k ≤ 0 + positional ps =
      slash_at [] ps 0 k none is in omega arith))
      (each (position_from takes_args 0 (named ps)) (λ k. k ≡ positional ps) (λ k is. let at : k ≡ 0 + positional ps = args_at [] ps 0 k refl none is in
      omega arith))
      (each (position_from takes_kwargs 0 (named ps)) (λ k. k + 1 ≡ length (named ps)) (λ k is. let at : k + 1 ≡ 0 + length (named ps) =
      kwargs_at [] ps 0 k none is in omega arith))
      (room [] ps 0 0)

  pub parts_seen : (i : DefParamIndices) (count : ℕ) → i ≡ indices ps → count ≡ length (named ps) → Parts i count
  parts_seen i count one two =
      let Q : DefParamIndices → Type 0 = λ j. Parts j count in
      let R : ℕ → Type 0 = λ n. Parts (indices ps) n in subst Q (sym one) (subst R (sym two) parts)
