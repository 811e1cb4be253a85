use Rattle.starlark_tree.specs.Views.{form_seen}
use Rattle.starlark_uniplate_mut.proofs.AllExprs.{own_called}
use Rattle.starlark_uniplate_mut.proofs.FormFrames.{same_stmts}
use Rattle.starlark_uniplate_mut.proofs.uniplate_mut.deep.AtExprsAtOwnMut.call.Goals as goal

pub returns : goal.returns
returns g c = record {
  calls = own_called c.args.stmt.now c.write_exprs.new.stmt c.write_exprs.ensures;
  rest = same_stmts (form_seen c.args.stmt.now) (form_seen c.write_exprs.new.stmt) c.write_exprs.ensures.rest;
}
