use Rattle.std.proofs.Common.{◌≡◌, ◌++◌, take}
use Rattle.std.specs.List.{flat_map}
use Rattle.starlark_json.specs.Tree.Tokens.{statement_tokens}
use Rattle.starlark_json.proofs.tree.statement.+write.Given as goal

abbrev pub invariant-write_parts-loop-part : goal.invariant-write_parts-loop-part
invariant-write_parts-loop-part l =
    (l.out.tokens ≡ l.initial.out.tokens ++ flat_map statement_tokens (take l.part-index l.parts)) × (l.out.before ≡ l.initial.out.before)
