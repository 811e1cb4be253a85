use Rattle.std.proofs.Common.{◌≡◌, ◌++◌, take}
use Rattle.std.specs.List.{flat_map}
use Rattle.starlark_json.specs.Tree.Tokens.{load_arg_tokens}
use Rattle.starlark_json.proofs.tree.statement.write_load_args.Given as goal

abbrev pub invariant-loop-arg : goal.invariant-loop-arg
invariant-loop-arg l =
    (l.out.tokens ≡ l.initial.out.tokens ++ flat_map load_arg_tokens (take l.arg-index l.args)) × (l.out.before ≡ l.initial.out.before)
