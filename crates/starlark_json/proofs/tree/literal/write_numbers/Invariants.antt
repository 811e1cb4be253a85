use Rattle.std.proofs.Common.{◌≡◌, ◌++◌, take}
use Rattle.std.specs.List.{flat_map}
use Rattle.starlark_json.specs.Tree.Tokens.{number_tokens}
use Rattle.starlark_json.proofs.tree.literal.write_numbers.Given as goal

abbrev pub invariant-loop-byte : goal.invariant-loop-byte
invariant-loop-byte l =
    (l.out.tokens ≡ l.initial.out.tokens ++ flat_map number_tokens (take l.byte-index l.bytes)) × (l.out.before ≡ l.initial.out.before)
