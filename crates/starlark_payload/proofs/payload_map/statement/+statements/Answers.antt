use Rattle.starlark_payload.proofs.FunctionLemmas.Loops.{all_mapped, next_made, none_mapped}
use Rattle.starlark_payload.proofs.Loops.{item_smaller}
use Rattle.starlark_payload.proofs.Made.{placed, taken_from}
use Rattle.starlark_payload.proofs.Rows.{block_mapped}
use Rattle.starlark_payload.proofs.Statements.{block_smaller, def_mapped, maps_statement}
use Rattle.starlark_payload.specs.Function.Mapped.{MapsStatement}
use Rattle.starlark_payload.specs.Function.Steps.{◌⨾◌}
use Rattle.starlark_tree.specs.Views.{statement_of}
use Rattle.std.proofs.Common.{arith, refl}
use Rattle.starlark_payload.proofs.payload_map.statement.+statements.Goals as goal

pub map_both-returns-in-Ok-map_stmt : goal.map_both-returns-in-Ok-map_stmt
map_both-returns-in-Ok-map_stmt g t c = (c.map_stmt.new.f, (refl, c.in-Ok.ensures), (refl, c.in-Ok-map_stmt.ensures))

pub map_stmts-loop-item-preserved : goal.map_stmts-loop-item-preserved
map_stmts-loop-item-preserved g t c =
    next_made (λ x y. MapsStatement g.F.AstPayloadFunction.calls (statement_of x) (statement_of y)) _ c.loop-item.mapping
    c.next.new.self c.in_ok-mapping-2.mapping c.next.result c.in-Some.item _ _ _ _ c.loop-item.invariant c.in-Some.is c.next.ensures.some c.next.ensures.mapped
    c.in_ok-mapping-2.ensures.rest c.in_ok-mapping-2.ensures.mapped
    (placed _ _ _ _ c.spanned.ensures.node c.spanned.ensures.span c.map_stmt.ensures)

pub map_stmts-returns : goal.map_stmts-returns
map_stmts-returns g t c =
    rw c.finish.ensures (all_mapped _ c.args.items.items c.loop-item.mapping c.next.new.self c.next.result _ _ c.loop-item.invariant c.in_default.is
    c.next.ensures.all c.next.ensures.mapped)

pub map_headed-returns-in-Ok-map_body : goal.map_headed-returns-in-Ok-map_body
map_headed-returns-in-Ok-map_body g t c = (c.map_spanned.new.f, c.in-Ok.ensures, c.in-Ok-map_body.ensures)

pub map_if_else-returns-in-Ok-pair_in_box : goal.map_if_else-returns-in-Ok-pair_in_box
map_if_else-returns-in-Ok-pair_in_box g t c =
    let both = taken_from (λ x y. (maps_statement g.F.AstPayloadFunction.calls x.0 y.0 ⨾ maps_statement g.F.AstPayloadFunction.calls x.1 y.1)
    c.map_spanned.new.f c.map_both.new.f) _ _ _ c.in-Ok-pair_in_box.branches.value c.into_inner.ensures c.in-Ok-pair_in_box.ensures c.map_both.ensures in
    (c.map_spanned.new.f, c.in-Ok.ensures, both)

pub map_for-returns-in-Ok-map_headed : goal.map_for-returns-in-Ok-map_headed
map_for-returns-in-Ok-map_headed g t c = (c.map_variable.new.f, c.in-Ok.ensures, c.in-Ok-map_headed.ensures)

pub map_def-returns-in-Ok-map_body : goal.map_def-returns-in-Ok-map_body
map_def-returns-in-Ok-map_body g t c =
    def_mapped g.F.AstPayloadFunction.calls c.args.stmt (record {
      name = c.map_spanned_assign_ident-name.result;
      params = c.in-Ok.signature.0;
      return_type = c.in-Ok.signature.1;
      body = c.in-Ok-map_body.body;
      payload = c.map_def-payload.result;
    }) _ _ _ _ _ c.map_spanned_assign_ident-name.ensures.word c.map_spanned_assign_ident-name.ensures.payload c.in-Ok.ensures c.in-Ok-map_body.ensures
    c.map_def-payload.ensures

pub map_stmt-returns-in-Ok-map_stmts : goal.map_stmt-returns-in-Ok-map_stmts
map_stmt-returns-in-Ok-map_stmts g t c = rw c.in-Statements.is (block_mapped g.F.AstPayloadFunction.calls c.in-Statements.items c.in-Ok-map_stmts.part _ _
    c.in-Ok-map_stmts.ensures)

pub map_stmts-map_stmt-requires : goal.map_stmts-map_stmt-requires
map_stmts-map_stmt-requires g t c κs within = (
  item_smaller c.args.items.items c.loop-item.invariant.0 c.loop-item.mapping c.next.new.self c.next.result c.loop-item.invariant.1 c.next.ensures.some
      c.in-Some.item _ 4 0 1 t c.in-Some.is c.decreases (omega arith),
  within,
)

pub map_stmt-map_stmts-requires : goal.map_stmt-map_stmts-requires
map_stmt-map_stmts-requires g t c κs within = (block_smaller _ c.in-Statements.items t c.in-Statements.is c.decreases, within)

pub map_stmts-loop-item-init : goal.map_stmts-loop-item-init
map_stmts-loop-item-init g t c = none_mapped _ c.args.items.items c.in_ok-mapping.mapping _ c.in_ok-mapping.ensures.rest c.in_ok-mapping.ensures.mapped
