use Rattle.starlark_parse_held.specs.Held.{annotation_of, expression_of}
use Rattle.starlark_parse_build.proofs.CheckLemmas.FaultLemmas.{found_alike, no_fault}
use Rattle.starlark_parse_build.proofs.CheckLemmas.AssignmentLemmas.{names_then, no_target_found, type_found, assigned_whole}
use Rattle.starlark_parse_build.proofs.check.assignment.assigned_target.Goals as goal

pub returns-in_err-check_left-clause-finds : goal.returns-in_err-check_left-clause-finds
returns-in_err-check_left-clause-finds c = found_alike _ _ _ (names_then _ _ _ c.in_err-check_left.ensures) c.from_residual.ensures.1

pub returns-in_err-target-clause-finds : goal.returns-in_err-target-clause-finds
returns-in_err-target-clause-finds c =
    found_alike _ _ _ (no_target_found (expression_of c.args.left) (annotation_of c.args.annotation.now) c.args.operator c.in_ok-check_left.ensures _
    c.in_err-target.ensures.finds) c.from_residual-in_err-target.ensures.1

pub returns-in_err-check_type-clause-finds : goal.returns-in_err-check_type-clause-finds
returns-in_err-check_type-clause-finds c =
    found_alike _ _ _
    (type_found (expression_of c.args.left) (annotation_of c.args.annotation.now) c.args.operator c.in_ok-check_left.ensures _ c.in_ok-target.ensures.ok _
    c.in_err-check_type.ensures) c.from_residual-in_err-check_type.ensures.1

pub returns-clause-ok : goal.returns-clause-ok
returns-clause-ok c =
    assigned_whole (expression_of c.args.left) (annotation_of c.args.annotation.now) c.args.operator c.in_ok-check_left.ensures _ c.in_ok-target.ensures.ok
    c.in_ok-check_type.ensures

pub returns-clause-finds : goal.returns-clause-finds
returns-clause-finds c =
    no_fault _ _ (assigned_whole (expression_of c.args.left) (annotation_of c.args.annotation.now) c.args.operator c.in_ok-check_left.ensures _
    c.in_ok-target.ensures.ok c.in_ok-check_type.ensures)
