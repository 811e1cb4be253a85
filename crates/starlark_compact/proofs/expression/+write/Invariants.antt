use Rattle.std.proofs.Common.{◌≡◌, ◌++◌, take}
use Rattle.std.specs.List.{flat_map}
use Rattle.starlark_compact.specs.Code.{bytes_of_arg}
use Rattle.starlark_compact.specs.Code.{bytes_of_clause}
use Rattle.starlark_compact.specs.Code.{bytes_of_expression}
use Rattle.starlark_compact.specs.Code.{bytes_of_pair}
use Rattle.starlark_compact.specs.Code.{bytes_of_param}
use Rattle.starlark_compact.specs.Code.{bytes_of_spanned_target}
use Rattle.starlark_compact.proofs.expression.+write.Given as goal

abbrev pub invariant-write_exprs-loop-item : goal.invariant-write_exprs-loop-item
invariant-write_exprs-loop-item l = l.out.items ≡ l.initial.out.items ++ flat_map bytes_of_expression (take l.item-index l.items)

abbrev pub invariant-write_entries-loop-pair : goal.invariant-write_entries-loop-pair
invariant-write_entries-loop-pair l = l.out.items ≡ l.initial.out.items ++ flat_map bytes_of_pair (take l.pair-index l.pairs)

abbrev pub invariant-write_arguments-loop-arg : goal.invariant-write_arguments-loop-arg
invariant-write_arguments-loop-arg l = l.out.items ≡ l.initial.out.items ++ flat_map bytes_of_arg (take l.arg-index l.args)

abbrev pub invariant-write_parameters-loop-param : goal.invariant-write_parameters-loop-param
invariant-write_parameters-loop-param l = l.out.items ≡ l.initial.out.items ++ flat_map bytes_of_param (take l.param-index l.params)

abbrev pub invariant-write_more_clauses-loop-clause : goal.invariant-write_more_clauses-loop-clause
invariant-write_more_clauses-loop-clause l = l.out.items ≡ l.initial.out.items ++ flat_map bytes_of_clause (take l.clause-index l.clauses)

abbrev pub invariant-write_target_items-loop-item : goal.invariant-write_target_items-loop-item
invariant-write_target_items-loop-item l = l.out.items ≡ l.initial.out.items ++ flat_map bytes_of_spanned_target (take l.item-index l.items)
