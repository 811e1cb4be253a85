use Rattle.std.proofs.Common.{ap, sym, ◌∙◌}
use Rattle.starlark_lexer.specs.Tokens.{span_of}
use Rattle.starlark_tree.specs.Ast as t
use Rattle.starlark_tree.specs.Views.{shape_seen}
use Rattle.starlark_spec.specs.Faults.{rule_fault as fault, Dialect as of_dialect}
use Rattle.starlark_spec.specs.declared.error.DialectError.TheVariants as dialects
use Rattle.starlark_validate.specs.Validity.{own_faults}
use Rattle.starlark_validate.specs.Walks.InText.{own_kept}
use Rattle.starlark_validate.proofs.EntryClashes.{none_listed}
use Rattle.starlark_validate.proofs.FaultlessParts.{both}
use Rattle.starlark_validate.proofs.NodeFaults.{call_own}
use Rattle.starlark_validate.proofs.NodeParts.{lambda_own}
use Rattle.starlark_validate.proofs.clean.is_clean_expr.Goals as goal

pub returns-in-Call-clause-kept : goal.returns-in-Call-clause-kept
returns-in-Call-clause-kept c = λ h.
    ap (λ e. own_kept c.args.tests.now.dialect (shape_seen e)) c.in-Call.is ∙ sym (call_own c.args.tests.now.dialect c.in-Call.field-0 c.in-Call.args)
    ∙ c.are_clean_arguments.ensures h

pub returns-then-tests-clause-own : goal.returns-then-tests-clause-own
returns-then-tests-clause-own c = λ h.
    let d = c.args.tests.now.dialect in
    let s = span_of c.args.expr.now.span in
    ap (λ e. own_faults d (t.expression s (shape_seen e))) c.in-Lambda.is
    ∙ lambda_own d s c.in-Lambda.lambda
    ∙ both (none_listed d.enable_lambda (fault (of_dialect dialects.Lambda) s) c.if-tests.true) (rw c.deref.ensures.value at (c.are_clean_parameters.ensures h))
