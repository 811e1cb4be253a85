use Rattle.std.proofs.Common.{◌≡◌, Result, Ok, IfOk, IfErr, ap, subst, ◌∙◌}
use Rattle.starlark_tree.specs.Ast.{Form, no_payload}
use Rattle.starlark_tree.specs.Views.{expression_of, form_seen}
use Rattle.starlark_spec.specs.Faults.{Fault}
use Rattle.starlark_checks.specs.Faults.{RefusesOutcome}
use Rattle.starlark_checks.proofs.GrammarUtil.StatementLemmas.{same_assignment}
use Rattle.starlark_checks.proofs.grammar_util.check_assignment.Goals as goal

pub returns-clause-ok : goal.returns-clause-ok
returns-clause-ok c =
    let same = same_assignment c.args.op (ap expression_of c.in_ok-left.ensures) c.held_type-annotation.ensures
    (ap expression_of (c.in_ok-right.ensures ∙ c.into_tree.ensures)) in
    subst (λ (r : Result (Form no_payload) Fault). IfOk c.assigned.result (λ s. r ≡ Ok (form_seen s))) same c.assigned.ensures.ok

pub returns-clause-err : goal.returns-clause-err
returns-clause-err c =
    let same = same_assignment c.args.op (ap expression_of c.in_ok-left.ensures) c.held_type-annotation.ensures
    (ap expression_of (c.in_ok-right.ensures ∙ c.into_tree.ensures)) in
    subst (λ (r : Result (Form no_payload) Fault). IfErr c.assigned.result (λ e. RefusesOutcome c.args.codemap.now r e)) same c.assigned.ensures.err
