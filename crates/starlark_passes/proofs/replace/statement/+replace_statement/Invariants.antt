use Rattle.starlark_tree.specs.Views.{statement_of}
use Rattle.starlark_passes.specs.Replace.Entering.{statements_in}
use Rattle.starlark_passes.proofs.replace.statement.+replace_statement.Given as goal

abbrev pub decreases-replace_statement : goal.decreases-replace_statement
decreases-replace_statement l = statements_in (statement_of l.statement.now)
