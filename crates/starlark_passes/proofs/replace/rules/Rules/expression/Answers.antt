use Rattle.starlark_lexer.specs.Tokens.{span_of}
use Rattle.std.proofs.Common.{ap}
use Rattle.starlark_tree.specs.Views.{expression_of, shape_seen}
use Rattle.starlark_passes.specs.Replace.Replacing.{table_of}
use Rattle.starlark_passes.proofs.ReplaceLemmas.EnteredNode.{entered, refused}
use Rattle.starlark_passes.proofs.replace.rules.Rules.expression.Goals as goal

pub returns-in_err-replace_operation : goal.returns-in_err-replace_operation
returns-in_err-replace_operation g c =
    refused (table_of c.args.self.now.replacements.now) (expression_of c.args.expr.now) (expression_of c.replace_operation.new.expr) c.from_residual.result
    c.from_residual.ensures.0
    c.in_err-replace_operation.ensures.named (ap expression_of c.in_err-replace_operation.ensures.kept)

pub returns : goal.returns
returns g c =
    entered (table_of c.args.self.now.replacements.now) c.below.result (expression_of c.args.expr.now) (span_of c.replace_operation.new.expr.span)
    (shape_seen c.replace_operation.new.expr.node) (shape_seen c.below.new.expr)
    c.in_ok-replace_operation.ensures.done c.below.ensures
