use denote.Param.{param}
use denote.Enum.Declared.{Record}
use borrow.Enum.Known.{ValuesAt}
use Rattle.std.proofs.Common.{[], ◌∷◌, refl, sym, ap}
use Rattle.starlark_tree.specs.contracts.ast.StmtP.{enum}
use Rattle.starlark_tree.specs.declared.ast.StmtP as stmt
use Rattle.starlark_tree.specs.Children.{stmts_of_stmt}
use Rattle.starlark_uniplate_mut.specs.FormFrames.{stmts_frame_of}
use Rattle.starlark_tree.specs.Views.{statement_of}
use Rattle.starlark_tree.specs.Walks.{WritesIn}
use Rattle.starlark_tree.proofs.LentParts.{left_in}
use Rattle.starlark_uniplate_mut.proofs.Writing.{write_at, written_from}
use Rattle.starlark_uniplate_mut.proofs.uniplate_mut.block.write_stmts.Given as given
use Rattle.starlark_uniplate_mut.proofs.uniplate_mut.block.write_stmts.Goals as goal

abbrev stmts : given.Over → Record
stmts g = enum (param 0 g.row.P) (param 4 g.row.P-LoadPayload) (param 5 g.row.P-IdentPayload) (param 6 g.row.P-IdentAssignPayload) (param 7 g.row.P-DefPayload)
    (param 8 g.row.P-TypeExprPayload)

pub returns-in-IfElse : goal.returns-in-IfElse
returns-in-IfElse g c =
    let v : ValuesAt (stmts g).parts 9 = (c.in-IfElse.field-0, (c.in-IfElse.branches, tt)) in
    left_in (stmts g) 9 (λ v y. stmt.IfElse v.0 y) (λ v. v.1.0) (λ b. c.write_branches.new.branches)
    (λ e. WritesIn stmts_of_stmt stmts_frame_of g.G.AtStmtMut.calls c.args.state.now c.args.stmt.now e c.write_branches.result c.write_branches.new.state)
    c.args.stmt.now v c.in-IfElse.is
    (written_from c.in-IfElse.is (record {
      calls = write_at (ap (λ b. statement_of b.value.0 ∷ statement_of b.value.1 ∷ []) c.in-IfElse.branches-is) refl
          c.write_branches.ensures;
      rest = refl;
    }))

pub returns-in-Statements : goal.returns-in-Statements
returns-in-Statements g c =
    let v : ValuesAt (stmts g).parts 7 = (c.in-Statements.parts, tt) in
    left_in (stmts g) 7 (λ v y. stmt.Statements y) (λ v. v.0) (λ b. c.write_block.new.parts)
    (λ e. WritesIn stmts_of_stmt stmts_frame_of g.G.AtStmtMut.calls c.args.state.now c.args.stmt.now e c.write_block.result c.write_block.new.state)
    c.args.stmt.now v c.in-Statements.is
    (written_from c.in-Statements.is (written_from (sym (ap stmt.Statements c.in-Statements.parts-is)) c.write_block.ensures))

pub returns-in-If : goal.returns-in-If
returns-in-If g c =
    let v : ValuesAt (stmts g).parts 8 = (c.in-If.field-0, (c.in-If.body, tt)) in
    left_in (stmts g) 8 (λ v y. stmt.If v.0 y) (λ v. v.1.0) (λ b. c.write_body.new.body)
    (λ e. WritesIn stmts_of_stmt stmts_frame_of g.G.AtStmtMut.calls c.args.state.now c.args.stmt.now e c.write_body.result c.write_body.new.state)
    c.args.stmt.now v c.in-If.is
    (written_from c.in-If.is (record { calls = write_at (ap (λ b. statement_of b.value ∷ []) c.in-If.body-is) refl c.write_body.ensures; rest = refl }))

pub returns-in-For : goal.returns-in-For
returns-in-For g c =
    let v : ValuesAt (stmts g).parts 10 = (c.in-For.repeated, tt) in
    left_in (stmts g) 10 (λ v y. stmt.For y) (λ v. v.0) (λ b. c.write_loop_body.new.repeated)
    (λ e. WritesIn stmts_of_stmt stmts_frame_of g.G.AtStmtMut.calls c.args.state.now c.args.stmt.now e c.write_loop_body.result c.write_loop_body.new.state)
    c.args.stmt.now v c.in-For.is
    (written_from c.in-For.is (written_from (sym (ap stmt.For c.in-For.repeated-is)) c.write_loop_body.ensures))

pub returns-in-Def : goal.returns-in-Def
returns-in-Def g c =
    let v : ValuesAt (stmts g).parts 11 = (c.in-Def.def, tt) in
    left_in (stmts g) 11 (λ v y. stmt.Def y) (λ v. v.0) (λ b. c.write_def_body.new.def)
    (λ e. WritesIn stmts_of_stmt stmts_frame_of g.G.AtStmtMut.calls c.args.state.now c.args.stmt.now e c.write_def_body.result c.write_def_body.new.state)
    c.args.stmt.now v c.in-Def.is
    (written_from c.in-Def.is (written_from (sym (ap stmt.Def c.in-Def.def-is)) c.write_def_body.ensures))
