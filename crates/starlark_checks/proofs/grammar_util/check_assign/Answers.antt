use Rattle.std.proofs.Common.{ap, subst}
use Rattle.starlark_tree.specs.Ast.{Expression, no_payload}
use Rattle.starlark_tree.specs.Views.{expression_of}
use Rattle.starlark_spec.specs.Targets.{target}
use Rattle.starlark_spec.specs.Refusals.{refused}
use Rattle.starlark_checks.specs.Faults.{RefusesOutcome}
use Rattle.starlark_checks.proofs.GrammarUtil.ErrorLemmas.{refuses_named}
use Rattle.starlark_checks.proofs.grammar_util.check_assign.Goals as goal

pub returns-in_ok-from_refusal-in-Err-clause-err : goal.returns-in_ok-from_refusal-in-Err-clause-err
returns-in_ok-from_refusal-in-Err-clause-err c =
    let told = c.in_ok-from_refusal-in-Err in
    let held = expression_of c.in_ok-held.held.tree.value in
    subst (λ (e : Expression no_payload). RefusesOutcome c.args.codemap.now (target e) told.field-0) (ap expression_of c.in_ok-held.ensures)
    (refuses_named c.args.codemap.now (target held) (refused c.in-Err.refusal) told.field-0 c.in-Err.ensures.finds told.ensures)
