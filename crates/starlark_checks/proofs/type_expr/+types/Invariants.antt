use Rattle.std.proofs.Common.{◌≡◌, ◌+◌, ◌*◌, Ok, take}
use Rattle.starlark_tree.specs.Views.{all_expressions}
use Rattle.starlark_spec.specs.Types as types
use Rattle.starlark_checks.specs.TypeViews.{all_types}
use Rattle.starlark_checks.proofs.type_expr.+types.Given as goal

abbrev pub invariant-unpack_all-loop-x : goal.invariant-unpack_all-loop-x
invariant-unpack_all-loop-x g l = types.readings (all_expressions (take l.x-index l.xs)) ≡ Ok (all_types l.parts.items)

abbrev pub invariant-all_arguments-loop-x : goal.invariant-all_arguments-loop-x
invariant-all_arguments-loop-x g l = types.all_arguments (all_expressions (take l.x-index l.xs)) ≡ Ok (all_types l.parts.items)

abbrev pub decreases-form : goal.decreases-form
decreases-form g l = 8 * goal.size-form g l

abbrev pub decreases-unpack : goal.decreases-unpack
decreases-unpack g l = 8 * goal.size-unpack g l + 1

abbrev pub decreases-operands : goal.decreases-operands
decreases-operands g l = 8 * goal.size-operands g l + 2

abbrev pub decreases-argument : goal.decreases-argument
decreases-argument g l = 8 * goal.size-argument g l + 2

abbrev pub decreases-unpack_all : goal.decreases-unpack_all
decreases-unpack_all g l = 8 * goal.size-unpack_all g l + 3

abbrev pub decreases-all_arguments : goal.decreases-all_arguments
decreases-all_arguments g l = 8 * goal.size-all_arguments g l + 3

abbrev pub decreases-indexed : goal.decreases-indexed
decreases-indexed g l = 8 * goal.size-indexed g l + 3

abbrev pub decreases-indexed_by_two : goal.decreases-indexed_by_two
decreases-indexed_by_two g l = 8 * goal.size-indexed_by_two g l + 3

abbrev pub decreases-list : goal.decreases-list
decreases-list g l = 8 * goal.size-list g l + 4
