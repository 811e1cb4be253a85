use Rattle.std.proofs.Common.{◌≡◌, ◌++◌, take}
use Rattle.std.specs.List.{flat_map}
use Rattle.starlark_compact.specs.Code.{bytes_of_load_arg}
use Rattle.starlark_compact.proofs.statement.write_load_args.Given as goal

abbrev pub invariant-loop-arg : goal.invariant-loop-arg
invariant-loop-arg l = l.out.items ≡ l.initial.out.items ++ flat_map bytes_of_load_arg (take l.arg-index l.args)
