use Rattle.std.proofs.Common.{◌≡◌, ◌+◌, ◌∷◌, suc, ap, sym, ◌∙◌, arith}
use Rattle.starlark_tree.specs.Ast.{expressions_of}
use Rattle.starlark_tree.specs.Views.{all_expressions, expression_of}
use Rattle.starlark_parse_held.specs.Held.{expressions_in, rest_of, targets_in, unboxed_of}
use Rattle.starlark_spec.specs.Targets as targets
use Rattle.starlark_spec.specs.Machine.Faults.{fault_of}
use Rattle.starlark_spec.specs.Targets.{map_ok}
use Rattle.starlark_parse_build.proofs.CheckLemmas.FaultLemmas.{found_alike, fault_both, fault_map, names_first, names_same, no_fault}
use Rattle.starlark_parse_build.proofs.CheckLemmas.TargetLemmas.{append, weight, weights, made_none, one_more, all_made}
use Rattle.starlark_parse_build.proofs.CheckLemmas.TargetForms.{tuple_made, list_made, tuple_found, list_found, dot_made, index_made, name_made, tuple_lighter}
use Rattle.starlark_parse_build.proofs.CheckLemmas.TargetForms.{list_lighter}
use Rattle.starlark_parse_build.proofs.check.target.+targets.Goals as goal
use Rattle.starlark_parse_build.proofs.check.target.+targets.Goals.{tree_target-in-Tuple+in_ok-parts-in-Tuple, tree_target-in-List+in_ok-parts-in-List}
use Rattle.starlark_parse_build.proofs.check.target.+targets.Goals.{tree_target-in-Dot, tree_target-in-Index, tree_target-in-Identifier}

pub parts-parts-init : goal.parts-parts-init
parts-parts-init t c =
    let whole = targets.parts (expressions_of (expressions_in c.args.values)) in
    let same : weights (expressions_of (rest_of c.into_rest-rest.result)) ≡ weights (expressions_of (expressions_in c.args.values)) =
    ap (λ es. weights (expressions_of es)) c.into_rest-rest.ensures in (
      made_none whole ∙ ap (λ ys. map_ok (append ys) whole) (sym c.new-targets.ensures)
          ∙ ap (λ es. map_ok (append (targets_in c.new-targets.result)) (targets.parts (expressions_of es))) (sym c.into_rest-rest.ensures),
      omega arith,
    )

pub parts-parts-preserved : goal.parts-parts-preserved
parts-parts-preserved t c =
    let at = c.parts in
    let steps : rest_of at.rest ≡ expression_of c.in-Some.tree ∷ rest_of c.next.new.self = c.in-Some.ensures.taken in
    let left = at.invariant.0 ∙ ap (λ es. map_ok (append (targets_in at.targets)) (targets.parts (expressions_of es))) steps in
    let fewer : weights (expressions_of (rest_of at.rest))
    ≡ suc (weight (expression_of c.in-Some.tree) + weights (expressions_of (rest_of c.next.new.self))) = ap (λ es. weights (expressions_of es)) steps in
    let was = at.invariant.1 in (
      one_more (targets.parts (expressions_of (expressions_in c.args.values))) (targets_in at.targets) (expression_of c.in-Some.tree) (rest_of c.next.new.self)
          left _ c.in_ok-tree_target.ensures.ok ∙ ap (λ ys. map_ok (append ys) (targets.parts (expressions_of (rest_of c.next.new.self))))
          (sym c.in_ok-push.ensures),
      omega arith,
    )

pub parts-returns-clause-ok : goal.parts-returns-clause-ok
parts-returns-clause-ok t c = all_made _ _ _ c.parts.invariant.0 c.in_default.ensures.all

pub tree_target-parts-requires : goal.tree_target-parts-requires
tree_target-parts-requires t c =
    let lighter : weight (unboxed_of c.args.value) ≡ suc (weights (all_expressions c.in-Tuple.trees.items)) =
    tuple_lighter c.into_tree-node.result c.args.value.tree c.into_tree-node.ensures c.in-Tuple.trees c.in-Tuple.is in
    let same = c.decreases in
    (omega arith, tt)

pub tree_target-parts-requires-in-List : goal.tree_target-parts-requires-in-List
tree_target-parts-requires-in-List t c =
    let lighter : weight (unboxed_of c.args.value) ≡ suc (weights (all_expressions c.in-List.trees.items)) =
    list_lighter c.into_tree-node.result c.args.value.tree c.into_tree-node.ensures c.in-List.trees c.in-List.is in
    let same = c.decreases in
    (omega arith, tt)

pub tree_target-returns-clause-ok : goal.tree_target-returns-clause-ok
tree_target-returns-clause-ok t c =
    let whole = c.into_tree-node.result in
    let held = c.args.value.tree in
    let same = c.into_tree-node.ensures in
    elim c.match-node.branch [
      | tree_target-in-Tuple+in_ok-parts-in-Tuple w ↦ rw (w.node-is)
          (tuple_made whole held same _ _ _ w.in-Tuple.is w.into_trees.ensures w.in_ok-parts-in-Tuple.ensures.ok)
      | tree_target-in-List+in_ok-parts-in-List w ↦ rw (w.node-is)
          (list_made whole held same _ _ _ w.in-List.is w.into_trees-in-List.ensures w.in_ok-parts-in-List.ensures.ok)
      | tree_target-in-Dot w ↦ rw (w.node-is) (dot_made whole held same _ _ w.in-Dot.is)
      | tree_target-in-Index w ↦ rw (w.node-is) (index_made whole held same _ w.in-Index.is)
      | tree_target-in-Identifier w ↦ rw (w.node-is) (name_made whole held same _ w.bound.result w.in-Identifier.is w.bound.ensures)
    ]

pub tree_target-returns-clause-finds : goal.tree_target-returns-clause-finds
tree_target-returns-clause-finds t c = no_fault _ _ (tree_target-returns-clause-ok t c)

pub tree_target-returns-in_err-parts-in-Tuple-clause-finds : goal.tree_target-returns-in_err-parts-in-Tuple-clause-finds
tree_target-returns-in_err-parts-in-Tuple-clause-finds t c =
    found_alike _ _ _ (tuple_found c.into_tree-node.result c.args.value.tree c.into_tree-node.ensures _ _ c.in-Tuple.is c.in_err-parts-in-Tuple.ensures.finds)
    c.from_residual.ensures.1

pub tree_target-returns-in_err-parts-in-List-clause-finds : goal.tree_target-returns-in_err-parts-in-List-clause-finds
tree_target-returns-in_err-parts-in-List-clause-finds t c =
    found_alike _ _ _ (list_found c.into_tree-node.result c.args.value.tree c.into_tree-node.ensures _ _ c.in-List.is c.in_err-parts-in-List.ensures.finds)
    c.from_residual-in_err-parts-in-List.ensures.1

pub parts-returns-in_err-tree_target-clause-finds : goal.parts-returns-in_err-tree_target-clause-finds
parts-returns-in_err-tree_target-clause-finds t c =
    let at = c.parts in
    let steps : rest_of at.rest ≡ expression_of c.in-Some.tree ∷ rest_of c.next.new.self = c.in-Some.ensures.taken in
    let left = at.invariant.0 ∙ ap (λ es. map_ok (append (targets_in at.targets)) (targets.parts (expressions_of es))) steps in
    let whole = ap fault_of left ∙ fault_map _ _ ∙ fault_both _ _ _ in
    found_alike _ _ _ (names_same _ _ _ (λ x is. whole ∙ is) (names_first _ _ _ c.in_err-tree_target.ensures.finds)) c.from_residual.ensures.1
