use Rattle.starlark_passes.proofs.ReplaceLemmas.PartLaws.{expression_law, statement_law}
use Rattle.starlark_passes.proofs.ReplaceLemmas.Shapes.{in_if_then}
use Rattle.starlark_passes.proofs.ReplaceLemmas.Steps.{joined, stopped}
use Rattle.starlark_passes.proofs.replace.statement.Blocks.if_then.Goals as goal

pub returns-in_err-replace_expression : goal.returns-in_err-replace_expression
returns-in_err-replace_expression g c = in_if_then (stopped (statement_law _) c.in_err-replace_expression.ensures _ c.from_residual.result
    c.from_residual.ensures.0)

pub returns : goal.returns
returns g c = in_if_then (joined (expression_law _) c.in_ok-replace_expression.ensures c.one.ensures)
