use Rattle.starlark_passes.proofs.ReplaceLemmas.PartLaws.{both_law, expression_law, statement_law}
use Rattle.starlark_passes.proofs.ReplaceLemmas.Shapes.{in_if_else}
use Rattle.starlark_passes.proofs.ReplaceLemmas.Steps.{joined, stopped}
use Rattle.starlark_passes.proofs.replace.statement.Blocks.if_else.Goals as goal

pub returns-in_err-replace_expression : goal.returns-in_err-replace_expression
returns-in_err-replace_expression g c = in_if_else (stopped (both_law _ (statement_law _) (statement_law _)) c.in_err-replace_expression.ensures _
    c.from_residual.result c.from_residual.ensures.0)

pub returns : goal.returns
returns g c = in_if_else (joined (expression_law _) c.in_ok-replace_expression.ensures c.two.ensures)
