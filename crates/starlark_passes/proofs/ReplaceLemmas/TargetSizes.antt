-- How large a target is: how many targets are in it, counting lists too.
use Rattle.std.proofs.Common.{◌≡◌, ℕ, zero, suc, ◌+◌, ◌<◌, ◌≤◌, List, [], ◌∷◌, length, get_or, map, ap, arith}
use Rattle.std.proofs.lemmas.List.{length-map}
use Rattle.starlark_lexer.specs.Tokens.{Span}
use Rattle.starlark_tree.specs.Ast as t
use Rattle.starlark_tree.specs.Ast.{no_payload, targets_of}
use Rattle.starlark_passes.specs.Replace.Parts.{Part}
use Rattle.starlark_passes.specs.Replace.Replacing.{Table}
use Rattle.starlark_passes.proofs.ReplaceLemmas.Loops.{SoFar, next_is}
use Rattle.starlark_passes.proofs.ReplaceLemmas.Steps.{Lawful}

abbrev mutual
  pub target_size : t.Target no_payload → ℕ
  target_size (t.TupleTarget s xs) = 2 + targets_size xs
  target_size (t.IndexTarget s a i) = 1
  target_size (t.DotTarget s e w) = 1
  target_size (t.NameTarget s w p) = 1

  pub targets_size : t.Targets no_payload → ℕ
  targets_size t.no_targets = 0
  targets_size (t.targets x xs) = target_size x + targets_size xs

pub size_at : (xs : List (t.Target no_payload)) (i : ℕ) (d : t.Target no_payload) → i < length xs → target_size (get_or xs i d) ≤ targets_size (targets_of xs)
size_at [] i d within = absurd (omega arith)
size_at (x ∷ xs) zero d within = omega arith
size_at (x ∷ xs) (suc i) d within = let h = size_at xs i d (omega arith) in omega (arith, h)

-- a target of those that a loop goes over is smaller than they
pub item_falls : {H : Type 0} {table : Table} {p : Part (t.Target no_payload)} (law : Lawful table p) (seen : H → t.Target no_payload) (old : List H) (i : ℕ)
    (now : List H) (d : H) (n : ℕ)
    → i < length old → SoFar law seen old i now → 1 + targets_size (targets_of (map seen old)) ≡ n → target_size (seen (get_or now i d)) < n
item_falls law seen old i now d n within so_far is =
    let here = next_is law seen old i now d so_far in
    let h = size_at (map seen old) i (seen d) (rw (length-map old seen) within) in
    rw here (omega (arith, h, is))

-- and they are smaller than the target that they make
pub list_falls : (x : t.Target no_payload) (ts : t.Targets no_payload) (s : Span) (n : ℕ) → x ≡ t.TupleTarget s ts → target_size x ≡ n → 1 + targets_size ts < n
list_falls x ts s n e is = let h = ap target_size e in omega (arith, h, is)
