use denote.Param.{param}
use denote.Enum.Declared.{Record}
use borrow.Enum.Known.{ValuesAt}
use Rattle.std.proofs.Common.{[], ◌∷◌, get_or, refl, sym, ap, ◌∙◌}
use Rattle.std.specs.List.{flat_map}
use Rattle.starlark_lexer.specs.Tokens.{span_of}
use Rattle.starlark_tree.specs.contracts.ast.AssignTargetP.{enum}
use Rattle.starlark_tree.specs.declared.ast.AssignTargetP
use Rattle.starlark_uniplate_mut.specs.Frames.{unnamed, unnamed_of}
use Rattle.starlark_tree.specs.Names.{lvalues_of, name_of}
use Rattle.starlark_tree.specs.Views.{target_of}
use Rattle.starlark_tree.specs.Walks.{WritesIn}
use Rattle.starlark_tree.proofs.LentParts.{left_in}
use Rattle.starlark_tree.proofs.BoundNames.{tuple_lvalues}
use Rattle.starlark_tree.proofs.Steps.{same_err}
use Rattle.starlark_tree.proofs.WalkConversions.{may_at}
use Rattle.starlark_uniplate_mut.proofs.WriteLoops.{all_written, item_more, item_stops, may_item, none_written}
use Rattle.starlark_uniplate_mut.proofs.Writing.{write_at, written_from}
use Rattle.starlark_uniplate_mut.proofs.WrittenTargets.{part_falls}
use Rattle.starlark_uniplate_mut.proofs.WrittenNames.{tuple_written, unnamed_same}
use Rattle.starlark_uniplate_mut.proofs.uniplate_mut.lvalue.+lvalue.Given as given
use Rattle.starlark_uniplate_mut.proofs.uniplate_mut.lvalue.+lvalue.Goals as goal

abbrev targets : given.Over → Record
targets g = enum (param 0 g.row.P) (param 4 g.row.P-LoadPayload) (param 5 g.row.P-IdentPayload) (param 6 g.row.P-IdentAssignPayload)
    (param 7 g.row.P-DefPayload) (param 8 g.row.P-TypeExprPayload)

pub write_part_names-loop-part-init : goal.write_part_names-loop-part-init
write_part_names-loop-part-init g t c =
    let may = may_at (tuple_lvalues c.args.parts.now ∙ sym (ap (flat_map (λ x. lvalues_of x.node)) c.deref_mut-part-items.ensures.value)) c.requires in
    record {
      to = none_written;
      next = λ d within. may_item (λ x. lvalues_of x.node) (λ x. unnamed (target_of x)) g.G.AtNameMut.calls c.deref_mut-part-items.result.now _ 0 d refl within
          none_written may;
      falls = λ d within. part_falls c.args.parts.now c.deref_mut-part-items.result.now _ 0 d c.deref_mut-part-items.ensures.value within refl;
    }

pub write_part_names-returns-in_err-write_lvalues : goal.write_part_names-returns-in_err-write_lvalues
write_part_names-returns-in_err-write_lvalues g t c =
    rw (same_err c.from_residual.result c.in_err-write_lvalues.field-0.0 c.from_residual.ensures.1)
    (tuple_written c.args.parts.now c.deref_mut-part-items.result.now _ c.deref_mut-part-items.ensures.value
    (item_stops (λ x. lvalues_of x.node) (λ x. unnamed (target_of x)) g.G.AtNameMut.calls c.deref_mut-part-items.result.now c.loop-part.part-items
    c.loop-part.part-index
    c.part-item.result refl c.loop-part-test.true c.loop-part.invariant.to (let p = rw c.in_err-write_lvalues.was at c.write_lvalues.ensures in
    record {
      calls = p.calls;
      rest = unnamed_same (span_of (get_or c.loop-part.part-items c.loop-part.part-index c.part-item.result).span)
          (get_or c.loop-part.part-items c.loop-part.part-index c.part-item.result).node c.write_lvalues.new.target p.rest;
    })))

pub write_part_names-loop-part-preserved : goal.write_part_names-loop-part-preserved
write_part_names-loop-part-preserved g t c =
    let may = may_at (tuple_lvalues c.args.parts.now ∙ sym (ap (flat_map (λ x. lvalues_of x.node)) c.deref_mut-part-items.ensures.value)) c.requires in
    let more = item_more (λ x. lvalues_of x.node) (λ x. unnamed (target_of x)) g.G.AtNameMut.calls c.deref_mut-part-items.result.now c.loop-part.part-items
    c.loop-part.part-index c.part-item.result refl c.loop-part-test.true c.loop-part.invariant.to
    (let p = rw c.in_ok-write_lvalues.was at c.write_lvalues.ensures in
    record {
      calls = p.calls;
      rest = unnamed_same (span_of (get_or c.loop-part.part-items c.loop-part.part-index c.part-item.result).span)
          (get_or c.loop-part.part-items c.loop-part.part-index c.part-item.result).node c.write_lvalues.new.target p.rest;
    }) in
    record {
      to = more;
      next = λ d within. may_item (λ x. lvalues_of x.node) (λ x. unnamed (target_of x)) g.G.AtNameMut.calls c.deref_mut-part-items.result.now _ _ d refl within
          more may;
      falls = λ d within. part_falls c.args.parts.now c.deref_mut-part-items.result.now _ _ d c.deref_mut-part-items.ensures.value within more.after;
    }

pub write_part_names-returns : goal.write_part_names-returns
write_part_names-returns g t c =
    tuple_written c.args.parts.now c.deref_mut-part-items.result.now _ c.deref_mut-part-items.ensures.value
    (all_written c.loop-part.part-index c.loop-part-test.false c.loop-part.invariant.to)

pub write_lvalues-returns-in-Tuple : goal.write_lvalues-returns-in-Tuple
write_lvalues-returns-in-Tuple g t c =
    let v : ValuesAt (targets g).parts 0 = (c.in-Tuple.parts, tt) in
    left_in (targets g) 0 (λ v y. AssignTargetP.Tuple y) (λ v. v.0) (λ w. c.write_part_names.new.parts)
    (λ e. WritesIn lvalues_of unnamed_of g.G.AtNameMut.calls c.args.state.now c.args.target.now e c.write_part_names.result c.write_part_names.new.state)
    c.args.target.now v c.in-Tuple.is
    (written_from c.in-Tuple.is (written_from (sym (ap AssignTargetP.Tuple c.in-Tuple.parts-is)) c.write_part_names.ensures))

pub write_lvalues-returns-in-Identifier : goal.write_lvalues-returns-in-Identifier
write_lvalues-returns-in-Identifier g t c =
    let v : ValuesAt (targets g).parts 3 = (c.in-Identifier.name, tt) in
    left_in (targets g) 3 (λ v y. AssignTargetP.Identifier y) (λ v. v.0) (λ n. c.write_name.new.name)
    (λ e. WritesIn lvalues_of unnamed_of g.G.AtNameMut.calls c.args.state.now c.args.target.now e c.write_name.result c.write_name.new.state)
    c.args.target.now v c.in-Identifier.is
    (written_from c.in-Identifier.is (record { calls = write_at (ap (λ n. name_of n ∷ []) c.in-Identifier.name-is) refl c.write_name.ensures; rest = refl }))
