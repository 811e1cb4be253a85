use Rattle.std.proofs.Common.{◌∙◌, sym, ap}
use Rattle.starlark_tree.specs.Views.{form_seen}
use Rattle.starlark_uniplate_mut.specs.Types.Types.{form_enters, form_stops, type_calls}
use Rattle.starlark_uniplate_mut.proofs.AllExprs.{either_first, exprs_stay}
use Rattle.starlark_uniplate_mut.proofs.TypesLemmas.StmtTypes.{own_types, types_keep}
use Rattle.starlark_uniplate_mut.proofs.TypesLemmas.TypeWalks.{into_each}
use Rattle.starlark_uniplate_mut.specs.FormFrames.{stmts_frame}
use Rattle.starlark_uniplate_mut.proofs.FormFrames.{same_stmts}
use Rattle.starlark_uniplate_mut.proofs.Writing.{write_at}
use Rattle.starlark_uniplate_mut.proofs.types.stmt_types.write_types_and_enter.Goals as goal

pub returns-in-Err : goal.returns-in-Err
returns-in-Err g c =
    let own = rw c.in-Err.is at c.write_own_types.ensures.own in
    record {
      calls = form_stops (own_types c.args.stmt.now c.write_own_types.new.stmt own);
      rest = types_keep c.args.stmt.now c.write_own_types.new.stmt own.rest;
    }

pub returns-in-Ok : goal.returns-in-Ok
returns-in-Ok g c =
    let own = rw c.in-Ok.is at c.write_own_types.ensures.own in
    let mid = form_seen c.write_own_types.new.stmt in
    let new = form_seen c.write_exprs.new.stmt in
    record {
      calls = form_enters (own_types c.args.stmt.now c.write_own_types.new.stmt own)
          (either_first new ∙ ap stmts_frame c.write_exprs.ensures.rest ∙ sym (either_first mid))
          (into_each (type_calls g.F.FnMut) (write_at (sym (exprs_stay mid)) (sym (exprs_stay new)) c.write_exprs.ensures.calls));
      rest = same_stmts mid new c.write_exprs.ensures.rest ∙ types_keep c.args.stmt.now c.write_own_types.new.stmt own.rest;
    }
