use Rattle.std.proofs.Common.{◌+◌, ◌*◌}
use Rattle.starlark_tree_rows.proofs.unpacking.types.+show.Given as goal

abbrev pub decreases-push_type : goal.decreases-push_type
decreases-push_type l = 2 * goal.size-push_type l

abbrev pub decreases-push_types : goal.decreases-push_types
decreases-push_types l = 2 * goal.size-push_types l + 1
