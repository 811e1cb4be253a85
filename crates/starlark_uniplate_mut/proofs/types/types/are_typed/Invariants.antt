use Rattle.std.proofs.Common.{◌≡◌, [], take}
use Rattle.std.specs.List.{flat_map}
use Rattle.starlark_uniplate.specs.Types.{types_in_parameter}
use Rattle.starlark_uniplate_mut.proofs.types.types.are_typed.Given as goal

abbrev pub invariant-loop-parameter : goal.invariant-loop-parameter
invariant-loop-parameter g l = flat_map (λ p. types_in_parameter p.node) (take l.parameter-index l.parameters) ≡ []
