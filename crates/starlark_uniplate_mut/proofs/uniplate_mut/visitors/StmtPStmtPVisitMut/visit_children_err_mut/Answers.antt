use Rattle.std.proofs.Common.{refl}
use Rattle.starlark_tree.specs.Views.{form_seen}
use Rattle.starlark_uniplate_mut.proofs.FormFrames.{both_frames}
use Rattle.starlark_tree.proofs.Steps.{same_err}
use Rattle.starlark_uniplate_mut.proofs.WriteChildren.{children_stop, children_walk}
use Rattle.starlark_uniplate_mut.proofs.uniplate_mut.visitors.StmtPStmtPVisitMut.visit_children_err_mut.Goals as goal

pub returns-in_err-write_exprs : goal.returns-in_err-write_exprs
returns-in_err-write_exprs g c =
    let old = form_seen c.args.self.now in
    let mid = form_seen c.write_exprs.new.stmt in
    let walk = rw c.in_err-write_exprs.was at c.write_exprs.ensures in
    rw (same_err c.from_residual.result c.in_err-write_exprs.field-0.0 c.from_residual.ensures.1)
    (record {
      calls = children_stop g.V.VisitMut.stmt_calls g.V.VisitMut.expr_calls old mid walk.rest walk.calls;
      rest = both_frames old mid mid walk.rest refl;
    })

pub returns : goal.returns
returns g c =
    let old = form_seen c.args.self.now in
    let mid = form_seen c.write_exprs.new.stmt in
    let new = form_seen c.write_stmts.new.stmt in
    let walk = rw c.in_ok-write_exprs.was at c.write_exprs.ensures in
    record {
      calls = children_walk g.V.VisitMut.stmt_calls g.V.VisitMut.expr_calls old mid new walk.rest c.write_stmts.ensures.rest walk.calls
          c.write_stmts.ensures.calls;
      rest = both_frames old mid new walk.rest c.write_stmts.ensures.rest;
    }
