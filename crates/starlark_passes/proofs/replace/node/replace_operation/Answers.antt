use Rattle.std.proofs.Common.{string_bytes, ap, ◌∙◌}
use Rattle.starlark_lexer.specs.Tokens.{span_of}
use Rattle.starlark_tree.specs.Ast as t
use Rattle.starlark_tree.specs.Views.{expression_of}
use Rattle.starlark_passes.specs.Replace.Replacing.{table_of}
use Rattle.starlark_passes.specs.Replace.Calls.{call_expression}
use Rattle.starlark_passes.proofs.ReplaceLemmas.CallNodes.{found, named_by, on_err, replaced_by}
use Rattle.starlark_passes.proofs.replace.node.replace_operation.Goals as goal

pub returns-in_err-arguments-clause-named : goal.returns-in_err-arguments-clause-named
returns-in_err-arguments-clause-named c =
    on_err c.from_residual-in_err-arguments.result
    (named_by (table_of c.args.replacements.now) c.args.expr.now c.in-Op.field-0 c.in-Op.field-2 c.in-Op.operator (string_bytes c.in-Some.function.now)
    c.in-Op.is
    (found c.args.replacements.now c.operator_name.result.now c.in-Op.operator c.in-Some.function.now c.operator_name.ensures c.in-Some.ensures.value))

pub returns-clause-done : goal.returns-clause-done
returns-clause-done c =
    ap expression_of c.replace-placeholder.ensures.after ∙ c.call.ensures
    ∙ ap (λ f. call_expression f (expression_of c.replace-operation.result)) c.in_ok-callee.ensures
    ∙ ap (λ x. call_expression (t.expression (span_of c.args.expr.now.span) (t.Identifier (record { text = x; span = span_of c.args.expr.now.span }) tt))
    (expression_of c.replace-operation.result)) c.as_str.ensures.value
    ∙ ap (λ e. call_expression (t.expression (span_of c.args.expr.now.span)
    (t.Identifier (record { text = string_bytes c.in-Some.function.now; span = span_of c.args.expr.now.span }) tt)) (expression_of e))
    c.replace-operation.ensures.value
    ∙ replaced_by (table_of c.args.replacements.now) c.args.expr.now c.in-Op.field-0 c.in-Op.field-2 c.in-Op.operator (string_bytes c.in-Some.function.now)
    c.in-Op.is
    (found c.args.replacements.now c.operator_name.result.now c.in-Op.operator c.in-Some.function.now c.operator_name.ensures c.in-Some.ensures.value)
