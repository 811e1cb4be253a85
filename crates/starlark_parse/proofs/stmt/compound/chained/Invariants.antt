use Rattle.std.proofs.Common.{◌≡◌, ◌≤◌, map, vec_len}
use Rattle.std.specs.List.{All}
use Rattle.starlark_parse_held.specs.Held.{other_of}
use Rattle.starlark_parse.specs.Stmt.Statements.{branch_seen, folded}
use Rattle.starlark_parse.proofs.stmt.compound.chained.Given as goal

abbrev pub invariant-chaining : goal.invariant-chaining
invariant-chaining l = record {
  begins : All (λ b. b.begin.byte ≤ l.end.byte) l.branches.items;
  same : folded (map branch_seen l.branches.items) (other_of l.other) l.end.byte ≡ folded (map branch_seen l.fn.branches.items) (other_of l.fn.last) l.end.byte;
}

abbrev pub decreases-chaining : goal.decreases-chaining
decreases-chaining l = vec_len l.branches
