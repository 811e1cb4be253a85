use Rattle.std.proofs.Common.{refl}
use Rattle.starlark_uniplate.specs.Types.{types_in_parameter}
use Rattle.starlark_uniplate_mut.proofs.TypesLemmas.ParameterTypes.{some_in}
use Rattle.starlark_uniplate_mut.proofs.types.types.are_typed.Goals as goal

pub returns-then-is_typed-clause-some : goal.returns-then-is_typed-clause-some
returns-then-is_typed-clause-some g c =
    λ same. some_in (λ p. types_in_parameter p.node) c.args.parameters.now c.loop-parameter.parameter-index c.parameter-item.result c.loop-parameter-test.true
    c.parameter-item.is (c.if-is_typed.ensures.some refl)
