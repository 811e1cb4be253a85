use Rattle.std.proofs.Common.{ap, ◌∙◌}
use Rattle.starlark_tree.specs.Views.{statement_of}
use Rattle.starlark_spec.specs.Assignments.{assigned, assigned_target}
use Rattle.starlark_spec.specs.Refusals.{refused}
use Rattle.starlark_checks.proofs.RefusalLemmas.{refuses_made}
use Rattle.starlark_parse_held.specs.Held.{annotation_of, expression_of}
use Rattle.starlark_checks.proofs.GrammarUtil.ErrorLemmas.{refuses_named}
use Rattle.starlark_checks.proofs.GrammarUtil.StatementLemmas.{assignment_made}
use Rattle.starlark_checks.proofs.grammar_util.assigned.Goals as goal

pub returns-in-Ok-clause-ok : goal.returns-in-Ok-clause-ok
returns-in-Ok-clause-ok c =
    assignment_made (expression_of c.args.left) (annotation_of c.args.annotation) c.args.op (expression_of c.args.right) _ _ _ c.in-Ok.ensures.finds
    (ap statement_of c.into_tree-node.ensures ∙ c.in-Ok.ensures.means)

pub returns-in_ok-from_refusal-in-Err-clause-err : goal.returns-in_ok-from_refusal-in-Err-clause-err
returns-in_ok-from_refusal-in-Err-clause-err c =
    let target = assigned_target (expression_of c.args.left) (annotation_of c.args.annotation) c.args.op in
    refuses_made (assigned (annotation_of c.args.annotation) c.args.op (expression_of c.args.right))
    (refuses_named c.args.codemap.now target (refused c.in-Err.refusal) _ c.in-Err.ensures.finds c.in_ok-from_refusal-in-Err.ensures)
