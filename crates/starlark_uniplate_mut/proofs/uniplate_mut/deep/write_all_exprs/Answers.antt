use Rattle.starlark_uniplate_mut.proofs.AllExprs.{all_written}
use Rattle.starlark_uniplate_mut.proofs.uniplate_mut.deep.write_all_exprs.Goals as goal

pub returns : goal.returns
returns g c = all_written c.args.stmt.now c.write_statement.new.stmt c.write_statement.ensures
