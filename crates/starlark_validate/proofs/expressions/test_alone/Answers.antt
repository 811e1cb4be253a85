use Rattle.std.proofs.Common.{map, ap, sym, ◌∙◌, ◌++◌, not}
use Rattle.starlark_lexer.specs.Tokens.{span_of}
use Rattle.starlark_tree.specs.Ast as t
use Rattle.starlark_tree.specs.Views.{parameter_of, shape_seen}
use Rattle.starlark_spec.specs.Faults.{rule_fault as fault}
use Rattle.starlark_spec.specs.Faults as rules
use Rattle.starlark_spec.specs.declared.error.DialectError.TheVariants as dialects
use Rattle.starlark_validate.specs.KeptTreeFaults.{listed_if}
use Rattle.starlark_validate.specs.Validity.{own_faults, params_faults}
use Rattle.starlark_validate.proofs.NodeParts.{faultless_alone, lambda_own}
use Rattle.starlark_validate.proofs.TestSequences.{nothing, of_faults}
use Rattle.starlark_validate.proofs.expressions.test_alone.Goals as goal

pub returns-in-Literal : goal.returns-in-Literal
returns-in-Literal c =
    of_faults (sym (ap (λ e. own_faults c.args.tests.now.dialect (t.expression (span_of c.args.expr.now.span) (shape_seen e))) c.in-Literal.is))
    c.test_literal.ensures

pub returns-in-Lambda : goal.returns-in-Lambda
returns-in-Lambda c =
    let d = c.args.tests.now.dialect in
    let s = span_of c.args.expr.now.span in
    of_faults
    (ap (λ ps. listed_if (not d.enable_lambda) (fault (rules.Dialect dialects.Lambda) s) ++ params_faults d (map parameter_of ps)) c.deref.ensures.value
    ∙ sym (ap (λ e. own_faults d (t.expression s (shape_seen e))) c.in-Lambda.is ∙ lambda_own d s c.in-Lambda.lambda))
    c.test_lambda.ensures

pub returns-in_default : goal.returns-in_default
returns-in_default c =
    of_faults (faultless_alone c.args.tests.now.dialect (span_of c.args.expr.now.span) c.args.expr.now.node c.in_default.not-Literal c.in_default.not-Lambda)
    nothing
