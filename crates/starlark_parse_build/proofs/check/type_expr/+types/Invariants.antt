use Rattle.std.proofs.Common.{◌≡◌, ◌+◌, ◌*◌, None, take}
use Rattle.starlark_tree.specs.Views.{all_expressions}
use Rattle.starlark_spec.specs.Machine.Faults.{fault_of}
use Rattle.starlark_spec.specs.Types as types
use Rattle.starlark_parse_build.proofs.check.type_expr.+types.Given as goal

abbrev pub invariant-read_all-loop-x : goal.invariant-read_all-loop-x
invariant-read_all-loop-x l = fault_of (types.readings (all_expressions (take l.x-index l.xs))) ≡ None

abbrev pub invariant-all_arguments-loop-x : goal.invariant-all_arguments-loop-x
invariant-all_arguments-loop-x l = fault_of (types.all_arguments (all_expressions (take l.x-index l.xs))) ≡ None

abbrev pub decreases-read : goal.decreases-read
decreases-read l = 8 * goal.size-read l

abbrev pub decreases-argument : goal.decreases-argument
decreases-argument l = 8 * goal.size-argument l + 1

abbrev pub decreases-read_all : goal.decreases-read_all
decreases-read_all l = 8 * goal.size-read_all l + 2

abbrev pub decreases-all_arguments : goal.decreases-all_arguments
decreases-all_arguments l = 8 * goal.size-all_arguments l + 2

abbrev pub decreases-indexed : goal.decreases-indexed
decreases-indexed l = 8 * goal.size-indexed l + 2

abbrev pub decreases-indexed_by_two : goal.decreases-indexed_by_two
decreases-indexed_by_two l = 8 * goal.size-indexed_by_two l + 2

abbrev pub decreases-list : goal.decreases-list
decreases-list l = 8 * goal.size-list l + 3
