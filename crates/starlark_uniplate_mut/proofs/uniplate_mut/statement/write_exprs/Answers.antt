use denote.Param.{param}
use denote.Enum.Declared.{Record}
use borrow.Enum.Known.{ValuesAt}
use Rattle.std.proofs.Common.{[], ◌∷◌, ◌++◌, refl, sym, ap, ◌∙◌}
use Rattle.std.specs.Box.{with_value}
use Rattle.starlark_tree.specs.contracts.ast.StmtP.{enum}
use Rattle.starlark_tree.specs.declared.ast.StmtP as stmt
use Rattle.starlark_tree.specs.Children.{exprs_of_stmt}
use Rattle.starlark_uniplate_mut.specs.FormFrames.{exprs_frame_of}
use Rattle.starlark_uniplate_mut.specs.Frames.{target_frame_of}
use Rattle.starlark_tree.specs.Places.{exprs_in_target}
use Rattle.starlark_tree.specs.Views.{expression_of}
use Rattle.starlark_tree.specs.Walks.{WritesIn}
use Rattle.starlark_tree.proofs.LentParts.{kept_in, left_in}
use Rattle.starlark_uniplate_mut.proofs.WriteStatements.{modify_written}
use Rattle.starlark_uniplate_mut.proofs.Writing.{write_at, written_from}
use Rattle.starlark_uniplate_mut.proofs.uniplate_mut.statement.write_exprs.Given as given
use Rattle.starlark_uniplate_mut.proofs.uniplate_mut.statement.write_exprs.Goals as goal

abbrev stmts : given.Over → Record
stmts g = enum (param 0 g.row.P) (param 4 g.row.P-LoadPayload) (param 5 g.row.P-IdentPayload) (param 6 g.row.P-IdentAssignPayload) (param 7 g.row.P-DefPayload)
    (param 8 g.row.P-TypeExprPayload)

pub returns-in-AssignModify : goal.returns-in-AssignModify
returns-in-AssignModify g c =
    let v : ValuesAt (stmts g).parts 6 = (c.in-AssignModify.target, (c.in-AssignModify.field-1, (c.in-AssignModify.value, tt))) in
    kept_in (stmts g) 6 (λ w. stmt.AssignModify (record w.0 { node = c.write_binding.new.target }) w.1.0 (with_value w.1.1.0 c.write_binding.new.value))
    (λ e. WritesIn exprs_of_stmt exprs_frame_of g.G.AtExprMut.calls c.args.state.now c.args.stmt.now e c.write_binding.result c.write_binding.new.state)
    c.args.stmt.now v c.in-AssignModify.is
    (written_from c.in-AssignModify.is
    (modify_written c.in-AssignModify.target c.in-AssignModify.field-1 c.in-AssignModify.value c.write_binding.new.target c.write_binding.new.value
    (write_at
    (ap (λ x. exprs_in_target x.node ++ expression_of c.deref_mut.result.now ∷ []) c.in-AssignModify.target-is
    ∙ ap (λ e. exprs_in_target c.in-AssignModify.target.node ++ expression_of e ∷ []) (c.deref_mut.ensures.value
    ∙ ap (λ b. b.value) c.in-AssignModify.value-is))
    refl c.write_binding.ensures.calls)
    (c.write_binding.ensures.rest ∙ ap (λ x. target_frame_of x.node) c.in-AssignModify.target-is)))

pub returns-in-Return : goal.returns-in-Return
returns-in-Return g c =
    let v : ValuesAt (stmts g).parts 3 = (c.in-Return.value, tt) in
    left_in (stmts g) 3 (λ v y. stmt.Return y) (λ v. v.0) (λ b. c.write_returned.new.value)
    (λ e. WritesIn exprs_of_stmt exprs_frame_of g.G.AtExprMut.calls c.args.state.now c.args.stmt.now e c.write_returned.result c.write_returned.new.state)
    c.args.stmt.now v c.in-Return.is
    (written_from c.in-Return.is (written_from (sym (ap stmt.Return c.in-Return.value-is)) c.write_returned.ensures))

pub returns-in-Expression : goal.returns-in-Expression
returns-in-Expression g c =
    let v : ValuesAt (stmts g).parts 4 = (c.in-Expression.value, tt) in
    left_in (stmts g) 4 (λ v y. stmt.Expression y) (λ v. v.0) (λ b. c.write_one.new.expr)
    (λ e. WritesIn exprs_of_stmt exprs_frame_of g.G.AtExprMut.calls c.args.state.now c.args.stmt.now e c.write_one.result c.write_one.new.state)
    c.args.stmt.now v c.in-Expression.is
    (written_from c.in-Expression.is (record {
      calls = write_at (ap (λ b. expression_of b ∷ []) c.in-Expression.value-is) refl c.write_one.ensures;
      rest = refl;
    }))

pub returns-in-Assign : goal.returns-in-Assign
returns-in-Assign g c =
    let v : ValuesAt (stmts g).parts 5 = (c.in-Assign.assign, tt) in
    left_in (stmts g) 5 (λ v y. stmt.Assign y) (λ v. v.0) (λ b. c.write_assign.new.assign)
    (λ e. WritesIn exprs_of_stmt exprs_frame_of g.G.AtExprMut.calls c.args.state.now c.args.stmt.now e c.write_assign.result c.write_assign.new.state)
    c.args.stmt.now v c.in-Assign.is
    (written_from c.in-Assign.is (written_from (sym (ap stmt.Assign c.in-Assign.assign-is)) c.write_assign.ensures))

pub returns-in-If : goal.returns-in-If
returns-in-If g c =
    let v : ValuesAt (stmts g).parts 8 = (c.in-If.condition, (c.in-If.field-1, tt)) in
    left_in (stmts g) 8 (λ v y. stmt.If y v.1.0) (λ v. v.0) (λ b. c.write_one-in-If.new.expr)
    (λ e. WritesIn exprs_of_stmt exprs_frame_of g.G.AtExprMut.calls c.args.state.now c.args.stmt.now e c.write_one-in-If.result c.write_one-in-If.new.state)
    c.args.stmt.now v c.in-If.is
    (written_from c.in-If.is (record { calls = write_at (ap (λ b. expression_of b ∷ []) c.in-If.condition-is) refl c.write_one-in-If.ensures; rest = refl }))

pub returns-in-IfElse : goal.returns-in-IfElse
returns-in-IfElse g c =
    let v : ValuesAt (stmts g).parts 9 = (c.in-IfElse.condition, (c.in-IfElse.field-1, tt)) in
    left_in (stmts g) 9 (λ v y. stmt.IfElse y v.1.0) (λ v. v.0) (λ b. c.write_one-in-IfElse.new.expr)
    (λ e. WritesIn exprs_of_stmt exprs_frame_of g.G.AtExprMut.calls c.args.state.now c.args.stmt.now e c.write_one-in-IfElse.result
    c.write_one-in-IfElse.new.state)
    c.args.stmt.now v c.in-IfElse.is
    (written_from c.in-IfElse.is (record {
      calls = write_at (ap (λ b. expression_of b ∷ []) c.in-IfElse.condition-is) refl c.write_one-in-IfElse.ensures;
      rest = refl;
    }))

pub returns-in-For : goal.returns-in-For
returns-in-For g c =
    let v : ValuesAt (stmts g).parts 10 = (c.in-For.repeated, tt) in
    left_in (stmts g) 10 (λ v y. stmt.For y) (λ v. v.0) (λ b. c.write_loop.new.repeated)
    (λ e. WritesIn exprs_of_stmt exprs_frame_of g.G.AtExprMut.calls c.args.state.now c.args.stmt.now e c.write_loop.result c.write_loop.new.state)
    c.args.stmt.now v c.in-For.is
    (written_from c.in-For.is (written_from (sym (ap stmt.For c.in-For.repeated-is)) c.write_loop.ensures))

pub returns-in-Def : goal.returns-in-Def
returns-in-Def g c =
    let v : ValuesAt (stmts g).parts 11 = (c.in-Def.def, tt) in
    left_in (stmts g) 11 (λ v y. stmt.Def y) (λ v. v.0) (λ b. c.write_def.new.def)
    (λ e. WritesIn exprs_of_stmt exprs_frame_of g.G.AtExprMut.calls c.args.state.now c.args.stmt.now e c.write_def.result c.write_def.new.state)
    c.args.stmt.now v c.in-Def.is
    (written_from c.in-Def.is (written_from (sym (ap stmt.Def c.in-Def.def-is)) c.write_def.ensures))
