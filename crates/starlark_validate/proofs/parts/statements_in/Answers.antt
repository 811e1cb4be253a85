use Rattle.std.proofs.Common.{map, ap, sym, ◌∙◌}
use Rattle.starlark_tree.specs.Views.{form_seen, statement_of}
use Rattle.starlark_tree.specs.Children.{own_stmts}
use Rattle.starlark_validate.proofs.NodeParts.{block_statements, listed_at}
use Rattle.starlark_validate.proofs.parts.statements_in.Goals as goal

pub returns-in-Statements : goal.returns-in-Statements
returns-in-Statements c =
    listed_at c.each.result (ap (map statement_of) c.deref.ensures.value ∙ sym (ap (λ s. own_stmts (form_seen s)) c.in-Statements.is
    ∙ block_statements c.in-Statements.parts)) c.each.ensures
