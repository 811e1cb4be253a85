use Rattle.std.proofs.Common.{map, sym, ap, ◌∙◌}
use Rattle.std.specs.List.{flat_map}
use Rattle.starlark_lexer.specs.Tokens.{span_of}
use Rattle.starlark_tree.specs.Places.{behind}
use Rattle.starlark_tree.specs.Views.{expression_of, form_seen}
use Rattle.starlark_validate.specs.Clean.{all_in, all_in_placed, form_parts, placed_of}
use Rattle.starlark_validate.specs.Walks.InText.{form_exprs}
use Rattle.starlark_validate.specs.Walks.Statements.{around_of}
use Rattle.starlark_validate.proofs.FaultlessParts.{in_right, statement_clean}
use Rattle.starlark_validate.proofs.PlacedParts.{parts_fall, placed_inside}
use Rattle.starlark_validate.proofs.WorkLists.{popped_falls, popped_none}
use Rattle.starlark_validate.proofs.clean.is_clean.Goals as goal

pub loop-placed-smaller : goal.loop-placed-smaller
loop-placed-smaller c =
    let a = around_of c.in-Some.placed.around in
    let s = c.in-Some.placed.statement.now in
    popped_falls placed_of placed_inside c.loop-placed.statements.items c.pop.new.self.items c.add_parts.new.found.items c.in-Some.placed
    (form_parts a (form_seen s.node)) c.in-Some.ensures.items c.in_ok-add_parts.ensures
    (parts_fall a (span_of s.span) (form_seen s.node))

pub loop-placed-preserved : goal.loop-placed-preserved
loop-placed-preserved c = λ none.
    let d = c.args.tests.now.dialect in
    let a = around_of c.in-Some.placed.around in
    let s = c.in-Some.placed.statement.now in
    let exprs = in_right (all_in d) (map (behind expression_of) c.loop-placed.exprs.items) (form_exprs (form_seen s.node))
    (ap (flat_map (all_in d)) (sym (rw c.in_ok-add_exprs_in_stmt.was at c.add_exprs_in_stmt.ensures).adds)
    ∙ c.in_ok-exprs_are_clean.ensures c.if-not-exprs_are_clean.false) in
    c.loop-placed.invariant
    (popped_none placed_of (all_in_placed d) c.loop-placed.statements.items c.pop.new.self.items c.add_parts.new.found.items c.in-Some.placed
    (form_parts a (form_seen s.node)) c.in-Some.ensures.items c.in_ok-add_parts.ensures
    (statement_clean d a (span_of s.span) (form_seen s.node) (c.is_clean_alone.ensures.own c.if-not-is_clean_alone.false)
    (c.is_clean_alone.ensures.load c.if-not-is_clean_alone.false) exprs) none)
