use Rattle.std.proofs.Common.{◌≡◌, take}
use Rattle.std.specs.List.{All}
use Rattle.starlark_checks.specs.Calls.{IsOfKind}
use Rattle.starlark_checks.proofs.call.leading.Given as goal

abbrev pub invariant-loop-argument : goal.invariant-loop-argument
invariant-loop-argument g l = record {
  counted : l.count ≡ l.argument-index;
  all : All (IsOfKind l.fn.of) (take l.argument-index l.args);
}
