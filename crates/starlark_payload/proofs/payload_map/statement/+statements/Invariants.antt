use Rattle.std.proofs.Common.{ℕ, ◌+◌, ◌*◌, length}
use Rattle.std.specs.Vec.Iter.{into_iter_items}
use Rattle.starlark_payload.specs.Function.Mapped.{MapsStatement}
use Rattle.starlark_payload.proofs.FunctionLemmas.Loops.{MappedTo}
use Rattle.starlark_tree.specs.Views.{statement_of}
use Rattle.starlark_payload.proofs.payload_map.statement.+statements.Given as goal

abbrev pub decreases-map_stmt : goal.decreases-map_stmt
decreases-map_stmt g l = 4 * goal.size-map_stmt g l + 0

abbrev pub decreases-map_body : goal.decreases-map_body
decreases-map_body g l = 4 * goal.size-map_body g l + 1

abbrev pub decreases-map_both : goal.decreases-map_both
decreases-map_both g l = 4 * goal.size-map_both g l + 1

abbrev pub decreases-map_stmts : goal.decreases-map_stmts
decreases-map_stmts g l = 4 * goal.size-map_stmts g l + 1

abbrev pub decreases-map_headed : goal.decreases-map_headed
decreases-map_headed g l = 4 * goal.size-map_headed g l + 2

abbrev pub decreases-map_if_else : goal.decreases-map_if_else
decreases-map_if_else g l = 4 * goal.size-map_if_else g l + 3

abbrev pub decreases-map_for : goal.decreases-map_for
decreases-map_for g l = 4 * goal.size-map_for g l + 3

abbrev pub decreases-map_def : goal.decreases-map_def
decreases-map_def g l = 4 * goal.size-map_def g l + 2

abbrev pub invariant-map_stmts-loop-item : goal.invariant-map_stmts-loop-item
invariant-map_stmts-loop-item g l =
    MappedTo (λ x y. MapsStatement g.F.AstPayloadFunction.calls (statement_of x) (statement_of y)) l.fn.items.items l.mapping l.fn.f l.f

abbrev pub decreases-map_stmts-loop-item : goal.decreases-map_stmts-loop-item
decreases-map_stmts-loop-item g l = length (into_iter_items l.mapping.rest)
