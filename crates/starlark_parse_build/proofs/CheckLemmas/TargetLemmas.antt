-- The parts of a target, one after another.
use Rattle.std.proofs.Common.{◌≡◌, ℕ, ◌+◌, suc, List as Seq, [], ◌∷◌, ◌++◌, Result, Ok, Err, refl, sym, ap, ◌∙◌}
use Rattle.std.specs.Option.{option_or}
use Rattle.starlark_tree.specs.Ast as t
use Rattle.starlark_tree.specs.Ast.{no_payload, Expression, expression, Expressions, no_expressions, expressions, expressions_of, Target, Targets, no_targets}
use Rattle.starlark_tree.specs.Ast.{targets, targets_of}
use Rattle.starlark_spec.specs.Faults.{Fault}
use Rattle.starlark_spec.specs.Targets.{map_ok, both, target, parts}
use Rattle.starlark_spec.specs.Machine.Faults.{fault_of}
use Rattle.starlark_spec.specs.Trees.{target_of, target_or_none}
use Rattle.starlark_parse_build.specs.Check.Checks.{Names}
use Rattle.starlark_spec.specs.declared.refusal.Refusal.{Refusal}
use Rattle.starlark_parse_build.proofs.CheckLemmas.FaultLemmas.{fault_map, fault_both, names_same, names_first}

-- how deep tuples and lists are, and how many parts they have
abbrev mutual
  pub weight : Expression no_payload → ℕ
  weight (expression s (t.Tuple es)) = suc (weights es)
  weight (expression s (t.List es)) = suc (weights es)
  weight (expression s other) = 0

  pub weights : Expressions no_payload → ℕ
  weights no_expressions = 0
  weights (expressions e es) = suc (weight e + weights es)

-- targets before others
pub append : Seq (Target no_payload) → Targets no_payload → Targets no_payload
append [] xs = xs
append (y ∷ ys) xs = targets y (append ys xs)

append_more : (ys : Seq (Target no_payload)) (y : Target no_payload) (xs : Targets no_payload) → append ys (targets y xs) ≡ append (ys ++ y ∷ []) xs
unfolding append
append_more [] y xs = refl
append_more (z ∷ ys) y xs = ap (targets z) (append_more ys y xs)

append_none : (ys : Seq (Target no_payload)) → append ys no_targets ≡ targets_of ys
unfolding append
append_none [] = refl
append_none (y ∷ ys) = ap (targets y) (append_none ys)

pub made_none : (r : Result (Targets no_payload) Fault) → r ≡ map_ok (append []) r
unfolding append
made_none (Ok xs) = refl
made_none (Err f) = refl

made_more : (ys : Seq (Target no_payload)) (y : Target no_payload) (r : Result (Targets no_payload) Fault) → map_ok (append ys) (map_ok (targets y) r)
    ≡ map_ok (append (ys ++ y ∷ [])) r
made_more ys y (Ok xs) = ap Ok (append_more ys y xs)
made_more ys y (Err f) = refl

module _ (whole : Result (Targets no_payload) Fault) (ys : Seq (Target no_payload)) (e : Expression no_payload) (es : Seq (Expression no_payload))
    (left : whole ≡ map_ok (append ys) (parts (expressions_of (e ∷ es)))) where
  -- one more
  pub one_more : (y : Target no_payload) → target e ≡ Ok y → whole ≡ map_ok (append (ys ++ y ∷ [])) (parts (expressions_of es))
  one_more y is = left ∙ ap (λ r. map_ok (append ys) (both targets r (parts (expressions_of es)))) is ∙ made_more ys y (parts (expressions_of es))

  -- what is not a target
  pub none_here : (error : Refusal) → Names (fault_of (target e)) error → Names (fault_of whole) error
  none_here error names =
      names_same (option_or (fault_of (target e)) (fault_of (parts (expressions_of es)))) (fault_of whole) error
      (λ x is. ap fault_of left ∙ fault_map (append ys) (parts (expressions_of (e ∷ es))) ∙ fault_both targets (target e) (parts (expressions_of es)) ∙ is)
      (names_first _ _ error names)

-- all of them
pub all_made : (whole : Result (Targets no_payload) Fault) (ys : Seq (Target no_payload)) (rest : Seq (Expression no_payload))
    → whole ≡ map_ok (append ys) (parts (expressions_of rest)) → rest ≡ [] → whole ≡ Ok (targets_of ys)
all_made whole ys rest left none = left ∙ ap (λ es. map_ok (append ys) (parts (expressions_of es))) none ∙ ap Ok (append_none ys)

-- a target is the one that a tree has
pub target_is : (e : Expression no_payload) (x : Target no_payload) → target e ≡ Ok x → x ≡ target_of e
target_is e x is = sym (ap target_or_none is)
