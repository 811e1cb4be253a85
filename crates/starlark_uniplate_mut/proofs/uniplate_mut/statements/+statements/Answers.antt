use denote.Param.{param}
use denote.Enum.Declared.{Record}
use borrow.Enum.Known.{ValuesAt}
use Rattle.std.proofs.Common.{[], ◌∷◌, get_or, Ok, refl, sym, ap, ◌∙◌, rules}
use Rattle.std.specs.Box.{with_value}
use Rattle.std.specs.List.{flat_map}
use Rattle.starlark_lexer.specs.Tokens.{span_of}
use Rattle.starlark_tree.specs.contracts.ast.StmtP.{enum}
use Rattle.starlark_tree.specs.declared.ast.StmtP as stmt
use Rattle.starlark_tree.specs.Ast.{statement}
use Rattle.starlark_tree.specs.Children.{stmts_of_stmt}
use Rattle.starlark_tree.specs.Views.{statement_of}
use Rattle.starlark_tree.specs.Walks.{MayWriteBy, WritesIn}
use Rattle.starlark_tree.proofs.LentParts.{left_in}
use Rattle.starlark_tree.proofs.WalkConversions.{may_at}
use Rattle.starlark_tree.proofs.Steps.{same_err}
use Rattle.starlark_uniplate_mut.specs.Forms.{forms_of, later_forms_of, nesting, nesting_of, own_and_nesting_of}
use Rattle.starlark_uniplate_mut.proofs.Nested.{block_forms, block_written, def_written, for_written, if_else_written, if_written, later_kept, nesting_kept}
use Rattle.starlark_uniplate_mut.proofs.Nested.{later_falls, own_written, part_falls, split, then_later}
use Rattle.starlark_uniplate_mut.specs.FormFrames.{stmts_frame_of}
use Rattle.starlark_uniplate_mut.proofs.OwnFirst.{may_parts, own_stopped}
use Rattle.starlark_uniplate_mut.proofs.WriteLoops.{all_written, item_more, item_stops, may_item, none_written}
use Rattle.starlark_uniplate_mut.proofs.Writing.{write_on, write_stops, written_from}
use Rattle.starlark_uniplate_mut.proofs.uniplate_mut.statements.+statements.Given as given
use Rattle.starlark_uniplate_mut.proofs.uniplate_mut.statements.+statements.Goals as goal

abbrev stmts : given.Over → Record
stmts g = enum (param 0 g.row.P) (param 4 g.row.P-LoadPayload) (param 5 g.row.P-IdentPayload) (param 6 g.row.P-IdentAssignPayload) (param 7 g.row.P-DefPayload)
    (param 8 g.row.P-TypeExprPayload)

pub write_block-loop-part-init : goal.write_block-loop-part-init
write_block-loop-part-init g t c =
    let may = may_at (block_forms c.args.parts.now ∙ sym (ap (flat_map (λ x. forms_of x.node)) c.deref_mut-part-items.ensures.value)) c.requires in
    record {
      to = none_written;
      next = λ d within. may_item (λ x. forms_of x.node) (λ x. nesting (statement_of x)) g.G.AtOwnMut.calls c.deref_mut-part-items.result.now _ 0 d refl within
          none_written may;
      falls = λ d within. part_falls c.args.parts.now c.deref_mut-part-items.result.now _ 0 d c.deref_mut-part-items.ensures.value within refl;
    }

pub write_block-write_statement-requires : goal.write_block-write_statement-requires
write_block-write_statement-requires g t c κs within =
    let takes = c.loop-part.invariant.next c.part-item.result c.loop-part-test.true in
    let falls = c.loop-part.invariant.falls c.part-item.result c.loop-part-test.true in
    search rules

pub write_block-returns-in_err-write_statement : goal.write_block-returns-in_err-write_statement
write_block-returns-in_err-write_statement g t c =
    rw (same_err c.from_residual.result c.in_err-write_statement.field-0.0 c.from_residual.ensures.1)
    (block_written c.args.parts.now c.deref_mut-part-items.result.now _ c.deref_mut-part-items.ensures.value
    (item_stops (λ x. forms_of x.node) (λ x. nesting (statement_of x)) g.G.AtOwnMut.calls c.deref_mut-part-items.result.now c.loop-part.part-items
    c.loop-part.part-index c.part-item.result refl c.loop-part-test.true c.loop-part.invariant.to
    (let p = rw c.in_err-write_statement.was at c.write_statement.ensures in
    record { calls = p.calls; rest = ap (statement (span_of (get_or c.loop-part.part-items c.loop-part.part-index c.part-item.result).span)) p.rest })))

pub write_block-loop-part-preserved : goal.write_block-loop-part-preserved
write_block-loop-part-preserved g t c =
    let may = may_at (block_forms c.args.parts.now ∙ sym (ap (flat_map (λ x. forms_of x.node)) c.deref_mut-part-items.ensures.value)) c.requires in
    let more = item_more (λ x. forms_of x.node) (λ x. nesting (statement_of x)) g.G.AtOwnMut.calls c.deref_mut-part-items.result.now c.loop-part.part-items
    c.loop-part.part-index c.part-item.result refl c.loop-part-test.true c.loop-part.invariant.to
    (let p = rw c.in_ok-write_statement.was at c.write_statement.ensures in
    record { calls = p.calls; rest = ap (statement (span_of (get_or c.loop-part.part-items c.loop-part.part-index c.part-item.result).span)) p.rest }) in
    record {
      to = more;
      next = λ d within. may_item (λ x. forms_of x.node) (λ x. nesting (statement_of x)) g.G.AtOwnMut.calls c.deref_mut-part-items.result.now _ _ d refl within
          more may;
      falls = λ d within. part_falls c.args.parts.now c.deref_mut-part-items.result.now _ _ d c.deref_mut-part-items.ensures.value within more.after;
    }

pub write_block-returns : goal.write_block-returns
write_block-returns g t c =
    block_written c.args.parts.now c.deref_mut-part-items.result.now _ c.deref_mut-part-items.ensures.value
    (all_written c.loop-part.part-index c.loop-part-test.false c.loop-part.invariant.to)

pub write_both-returns-in_err-write_statement : goal.write_both-returns-in_err-write_statement
write_both-returns-in_err-write_statement g t c =
    let p = rw c.in_err-write_statement.was at c.write_statement.ensures in
    let calls = write_stops (forms_of c.args.second.now) p.calls in
    rw (same_err c.from_residual.result c.in_err-write_statement.field-0.0 c.from_residual.ensures.1) (record { calls = calls; first = p.rest; second = refl })

pub write_both-returns : goal.write_both-returns
write_both-returns g t c =
    let p = rw c.in_ok-write_statement.was at c.write_statement.ensures in
    record { calls = write_on p.calls c.write_statement-2.ensures.calls; first = p.rest; second = c.write_statement-2.ensures.rest }

pub write_later-returns-in-Statements : goal.write_later-returns-in-Statements
write_later-returns-in-Statements g t c =
    let v : ValuesAt (stmts g).parts 7 = (c.in-Statements.parts, tt) in
    left_in (stmts g) 7 (λ v y. stmt.Statements y) (λ v. v.0) (λ w. c.write_block.new.parts)
    (λ e. WritesIn later_forms_of own_and_nesting_of g.G.AtOwnMut.calls c.args.state.now c.args.stmt.now e c.write_block.result c.write_block.new.state)
    c.args.stmt.now v c.in-Statements.is
    (written_from c.in-Statements.is (written_from (sym (ap stmt.Statements c.in-Statements.parts-is)) c.write_block.ensures))

pub write_later-returns-in-If : goal.write_later-returns-in-If
write_later-returns-in-If g t c =
    let v : ValuesAt (stmts g).parts 8 = (c.in-If.field-0, (c.in-If.body, tt)) in
    left_in (stmts g) 8 (λ v y. stmt.If v.0 y) (λ v. v.1.0) (λ b. with_value b (record c.deref_mut.result.now { node = c.write_statement.new.stmt }))
    (λ e. WritesIn later_forms_of own_and_nesting_of g.G.AtOwnMut.calls c.args.state.now c.args.stmt.now e c.write_statement.result
    c.write_statement.new.state) c.args.stmt.now v c.in-If.is
    (written_from c.in-If.is (if_written c.in-If.field-0 c.in-If.body c.deref_mut.result.now c.write_statement.new.stmt (c.deref_mut.ensures.value
    ∙ ap (λ b. b.value) c.in-If.body-is) c.write_statement.ensures))

pub write_later-returns-in-IfElse : goal.write_later-returns-in-IfElse
write_later-returns-in-IfElse g t c =
    let v : ValuesAt (stmts g).parts 9 = (c.in-IfElse.field-0, (c.in-IfElse.parts, tt)) in
    let held = c.deref_mut-in-IfElse.ensures.value ∙ ap (λ b. b.value) c.in-IfElse.parts-is in
    left_in (stmts g) 9 (λ v y. stmt.IfElse v.0 y) (λ v. v.1.0)
    (λ b. with_value b (
      record c.deref_mut-in-IfElse.result.now.0 { node = c.write_both.new.first },
      record c.deref_mut-in-IfElse.result.now.1 { node = c.write_both.new.second },
    ))
    (λ e. WritesIn later_forms_of own_and_nesting_of g.G.AtOwnMut.calls c.args.state.now c.args.stmt.now e c.write_both.result c.write_both.new.state)
    c.args.stmt.now v c.in-IfElse.is
    (written_from c.in-IfElse.is
    (if_else_written c.in-IfElse.field-0 c.in-IfElse.parts c.deref_mut-in-IfElse.result.now.0 c.deref_mut-in-IfElse.result.now.1 c.write_both.new.first
    c.write_both.new.second (ap (λ p. p.0) held) (ap (λ p. p.1) held)
    c.write_both.ensures.calls c.write_both.ensures.first c.write_both.ensures.second))

pub write_later-returns-in-For : goal.write_later-returns-in-For
write_later-returns-in-For g t c =
    let v : ValuesAt (stmts g).parts 10 = (c.in-For.repeated, tt) in
    left_in (stmts g) 10 (λ v y. stmt.For y) (λ v. v.0)
    (λ r. record r { body = with_value r.body (record c.deref_mut-in-For.result.now { node = c.write_statement-in-For.new.stmt }) })
    (λ e. WritesIn later_forms_of own_and_nesting_of g.G.AtOwnMut.calls c.args.state.now c.args.stmt.now e c.write_statement-in-For.result
    c.write_statement-in-For.new.state) c.args.stmt.now v c.in-For.is
    (written_from c.in-For.is (for_written c.in-For.repeated c.deref_mut-in-For.result.now c.write_statement-in-For.new.stmt (c.deref_mut-in-For.ensures.value
    ∙ ap (λ f. f.body.value) c.in-For.repeated-is) c.write_statement-in-For.ensures))

pub write_later-returns-in-Def : goal.write_later-returns-in-Def
write_later-returns-in-Def g t c =
    let v : ValuesAt (stmts g).parts 11 = (c.in-Def.def, tt) in
    left_in (stmts g) 11 (λ v y. stmt.Def y) (λ v. v.0)
    (λ d. record d { body = with_value d.body (record c.deref_mut-in-Def.result.now { node = c.write_statement-in-Def.new.stmt }) })
    (λ e. WritesIn later_forms_of own_and_nesting_of g.G.AtOwnMut.calls c.args.state.now c.args.stmt.now e c.write_statement-in-Def.result
    c.write_statement-in-Def.new.state) c.args.stmt.now v c.in-Def.is
    (written_from c.in-Def.is (def_written c.in-Def.def c.deref_mut-in-Def.result.now c.write_statement-in-Def.new.stmt (c.deref_mut-in-Def.ensures.value
    ∙ ap (λ d. d.body.value) c.in-Def.def-is) c.write_statement-in-Def.ensures))

pub write_statement-returns-in_err-call : goal.write_statement-returns-in_err-call
write_statement-returns-in_err-call g t c =
    rw (same_err c.from_residual.result c.in_err-call.field-0.0 c.from_residual.ensures.1)
    (own_stopped forms_of (λ z. stmts_frame_of z ∷ []) later_forms_of nesting_of stmts_of_stmt split later_kept nesting_kept c.args.stmt.now c.call.new.stmt
    (own_written c.args.stmt.now c.call.new.stmt (rw c.in_err-call.was at c.call.ensures.calls) c.call.ensures.rest))

pub write_statement-write_later-requires : goal.write_statement-write_later-requires
write_statement-write_later-requires g t c κs within =
    let own : WritesIn (λ z. stmts_frame_of z ∷ []) stmts_of_stmt g.G.AtOwnMut.calls c.args.state.now c.args.stmt.now c.call.new.stmt (Ok tt) c.call.new.state =
    own_written c.args.stmt.now c.call.new.stmt (rw c.in_ok-call.was at c.call.ensures.calls) c.call.ensures.rest in
    let takes : MayWriteBy g.G.AtOwnMut.calls c.call.new.state (later_forms_of c.call.new.stmt) =
    may_parts forms_of (λ z. stmts_frame_of z ∷ []) later_forms_of nesting_of stmts_of_stmt split later_kept nesting_kept c.args.stmt.now c.call.new.stmt
    own c.requires in
    let falls = later_falls c.args.stmt.now c.call.new.stmt t c.call.ensures.rest c.decreases in
    search rules

pub write_statement-returns : goal.write_statement-returns
write_statement-returns g t c =
    then_later c.args.stmt.now c.call.new.stmt c.write_later.new.stmt
    (own_written c.args.stmt.now c.call.new.stmt (rw c.in_ok-call.was at c.call.ensures.calls) c.call.ensures.rest) c.write_later.ensures
