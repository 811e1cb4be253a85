use denote.Param.{param}
use denote.Enum.Declared.{Record}
use borrow.Enum.Known.{ValuesAt}
use Rattle.std.proofs.Common.{[], ◌∷◌, get_or, refl, sym, ap, ◌∙◌}
use Rattle.std.specs.List.{flat_map}
use Rattle.starlark_lexer.specs.Tokens.{span_of}
use Rattle.starlark_tree.specs.contracts.ast.AssignTargetP.{enum}
use Rattle.starlark_tree.specs.declared.ast.AssignTargetP
use Rattle.starlark_uniplate_mut.specs.Frames.{target_frame, target_frame_of}
use Rattle.starlark_tree.specs.Places.{exprs_in_target}
use Rattle.starlark_tree.specs.Views.{expression_of, target_of}
use Rattle.starlark_tree.specs.Walks.{WritesIn}
use Rattle.starlark_tree.proofs.LentParts.{left_in}
use Rattle.starlark_tree.proofs.Nodes.{tuple_exprs}
use Rattle.starlark_tree.proofs.Steps.{same_err}
use Rattle.starlark_tree.proofs.WalkConversions.{may_at}
use Rattle.starlark_uniplate_mut.proofs.WriteLoops.{all_written, item_more, item_stops, may_item, none_written}
use Rattle.starlark_uniplate_mut.proofs.Writing.{write_at, written_from}
use Rattle.starlark_uniplate_mut.proofs.Framed.{target_same}
use Rattle.starlark_uniplate_mut.proofs.WrittenTargets.{part_falls, tuple_written}
use Rattle.starlark_uniplate_mut.proofs.uniplate_mut.target.+target.Given as given
use Rattle.starlark_uniplate_mut.proofs.uniplate_mut.target.+target.Goals as goal

abbrev targets : given.Over → Record
targets g = enum (param 0 g.row.P) (param 4 g.row.P-LoadPayload) (param 5 g.row.P-IdentPayload) (param 6 g.row.P-IdentAssignPayload)
    (param 7 g.row.P-DefPayload) (param 8 g.row.P-TypeExprPayload)

pub write_parts-loop-part-init : goal.write_parts-loop-part-init
write_parts-loop-part-init g t c =
    let may = may_at (tuple_exprs c.args.parts.now ∙ sym (ap (flat_map (λ x. exprs_in_target x.node)) c.deref_mut-part-items.ensures.value)) c.requires in
    record {
      to = none_written;
      next = λ d within. may_item (λ x. exprs_in_target x.node) (λ x. target_frame (target_of x)) g.G.AtExprMut.calls c.deref_mut-part-items.result.now _ 0 d
          refl within none_written may;
      falls = λ d within. part_falls c.args.parts.now c.deref_mut-part-items.result.now _ 0 d c.deref_mut-part-items.ensures.value within refl;
    }

pub write_parts-returns-in_err-write_target : goal.write_parts-returns-in_err-write_target
write_parts-returns-in_err-write_target g t c =
    rw (same_err c.from_residual.result c.in_err-write_target.field-0.0 c.from_residual.ensures.1)
    (tuple_written c.args.parts.now c.deref_mut-part-items.result.now _ c.deref_mut-part-items.ensures.value
    (item_stops (λ x. exprs_in_target x.node) (λ x. target_frame (target_of x)) g.G.AtExprMut.calls c.deref_mut-part-items.result.now c.loop-part.part-items
    c.loop-part.part-index
    c.part-item.result refl c.loop-part-test.true c.loop-part.invariant.to (let p = rw c.in_err-write_target.was at c.write_target.ensures in
    record {
      calls = p.calls;
      rest = target_same (span_of (get_or c.loop-part.part-items c.loop-part.part-index c.part-item.result).span)
          (get_or c.loop-part.part-items c.loop-part.part-index c.part-item.result).node c.write_target.new.target p.rest;
    })))

pub write_parts-loop-part-preserved : goal.write_parts-loop-part-preserved
write_parts-loop-part-preserved g t c =
    let may = may_at (tuple_exprs c.args.parts.now ∙ sym (ap (flat_map (λ x. exprs_in_target x.node)) c.deref_mut-part-items.ensures.value)) c.requires in
    let more = item_more (λ x. exprs_in_target x.node) (λ x. target_frame (target_of x)) g.G.AtExprMut.calls c.deref_mut-part-items.result.now
    c.loop-part.part-items
    c.loop-part.part-index c.part-item.result refl c.loop-part-test.true c.loop-part.invariant.to
    (let p = rw c.in_ok-write_target.was at c.write_target.ensures in
    record {
      calls = p.calls;
      rest = target_same (span_of (get_or c.loop-part.part-items c.loop-part.part-index c.part-item.result).span)
          (get_or c.loop-part.part-items c.loop-part.part-index c.part-item.result).node c.write_target.new.target p.rest;
    }) in
    record {
      to = more;
      next = λ d within. may_item (λ x. exprs_in_target x.node) (λ x. target_frame (target_of x)) g.G.AtExprMut.calls c.deref_mut-part-items.result.now _ _ d
          refl within more may;
      falls = λ d within. part_falls c.args.parts.now c.deref_mut-part-items.result.now _ _ d c.deref_mut-part-items.ensures.value within more.after;
    }

pub write_parts-returns : goal.write_parts-returns
write_parts-returns g t c =
    tuple_written c.args.parts.now c.deref_mut-part-items.result.now _ c.deref_mut-part-items.ensures.value
    (all_written c.loop-part.part-index c.loop-part-test.false c.loop-part.invariant.to)

pub write_target-returns-in-Tuple : goal.write_target-returns-in-Tuple
write_target-returns-in-Tuple g t c =
    let v : ValuesAt (targets g).parts 0 = (c.in-Tuple.parts, tt) in
    left_in (targets g) 0 (λ v y. AssignTargetP.Tuple y) (λ v. v.0) (λ w. c.write_parts.new.parts)
    (λ e. WritesIn exprs_in_target target_frame_of g.G.AtExprMut.calls c.args.state.now c.args.target.now e c.write_parts.result c.write_parts.new.state)
    c.args.target.now v c.in-Tuple.is
    (written_from c.in-Tuple.is (written_from (sym (ap AssignTargetP.Tuple c.in-Tuple.parts-is)) c.write_parts.ensures))

pub write_target-returns-in-Index : goal.write_target-returns-in-Index
write_target-returns-in-Index g t c =
    let v : ValuesAt (targets g).parts 1 = (c.in-Index.parts, tt) in
    left_in (targets g) 1 (λ v y. AssignTargetP.Index y) (λ v. v.0) (λ b. c.write_boxed_pair.new.pair)
    (λ e. WritesIn exprs_in_target target_frame_of g.G.AtExprMut.calls c.args.state.now c.args.target.now e c.write_boxed_pair.result
    c.write_boxed_pair.new.state) c.args.target.now v c.in-Index.is
    (written_from c.in-Index.is (record {
      calls = write_at (ap (λ b. expression_of b.value.0 ∷ expression_of b.value.1 ∷ []) c.in-Index.parts-is) refl c.write_boxed_pair.ensures;
      rest = refl;
    }))

pub write_target-returns-in-Dot : goal.write_target-returns-in-Dot
write_target-returns-in-Dot g t c =
    let v : ValuesAt (targets g).parts 2 = (c.in-Dot.object, (c.in-Dot.field-1, tt)) in
    left_in (targets g) 2 (λ v y. AssignTargetP.Dot y v.1.0) (λ v. v.0) (λ b. c.write_boxed.new.expr)
    (λ e. WritesIn exprs_in_target target_frame_of g.G.AtExprMut.calls c.args.state.now c.args.target.now e c.write_boxed.result c.write_boxed.new.state)
    c.args.target.now v c.in-Dot.is
    (written_from c.in-Dot.is (record { calls = write_at (ap (λ b. expression_of b.value ∷ []) c.in-Dot.object-is) refl c.write_boxed.ensures; rest = refl }))
