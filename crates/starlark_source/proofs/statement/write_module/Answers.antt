use Rattle.starlark_source.proofs.PageLemmas.{wrote_as}
use Rattle.starlark_source.proofs.StatementLemmas.{other_module, top_module}
use Rattle.starlark_source.proofs.statement.write_module.Goals as goal

pub returns-in-Statements : goal.returns-in-Statements
returns-in-Statements c = wrote_as _ _ _ _ (rw c.deref.ensures.value at c.write_top.ensures)
    (top_module c.args.statement.now c.in-Statements.parts c.in-Statements.is)

pub returns-in_default : goal.returns-in_default
returns-in_default c = wrote_as _ _ _ _ c.write_lines.ensures (other_module c.args.statement.now c.in_default.not-Statements)
