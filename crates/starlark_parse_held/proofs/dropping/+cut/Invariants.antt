use Rattle.std.proofs.Common.{◌≤◌, ◌+◌, ◌*◌, drop}
use Rattle.std.specs.List.{sum_by}
use Rattle.starlark_parse_held.specs.Weight.{statement_weight, weight}
use Rattle.starlark_parse_held.proofs.dropping.+cut.Given as goal

abbrev pub decreases-cut : goal.decreases-cut
decreases-cut l = 3 * l.levels

abbrev pub decreases-cut_each : goal.decreases-cut_each
decreases-cut_each l = 3 * l.levels + 1

abbrev pub decreases-cut_parts : goal.decreases-cut_parts
decreases-cut_parts l = 3 * l.levels + 2

abbrev pub invariant-cut_each-loop-stmt : goal.invariant-cut_each-loop-stmt
invariant-cut_each-loop-stmt l =
    sum_by weight l.cut_off.items + sum_by statement_weight (drop l.stmt-index l.stmts)
    ≤ sum_by weight l.fn.cut_off.items + sum_by statement_weight l.fn.stmts
