use Rattle.std.proofs.Common.{get_or, refl}
use Rattle.starlark_lexer.specs.Tokens.{span_of}
use Rattle.starlark_tree.specs.Views.{parameter_of}
use Rattle.starlark_tree.proofs.Steps.{same_err}
use Rattle.starlark_uniplate.specs.Types.{types_in_parameter}
use Rattle.starlark_uniplate_mut.specs.Types.Types.{type_calls, untyped_parameter}
use Rattle.starlark_uniplate_mut.proofs.TypesLemmas.ParameterTypes.{untyped_same}
use Rattle.starlark_uniplate_mut.proofs.WriteLoops.{all_written, item_more, item_stops, may_item, none_written}
use Rattle.starlark_uniplate_mut.proofs.types.types.write_parameter_types.Goals as goal

pub loop-parameter-init : goal.loop-parameter-init
loop-parameter-init g c = record {
  to = none_written;
  next = λ d within. may_item (λ p. types_in_parameter p.node) (λ p. untyped_parameter (parameter_of p)) (type_calls g.F.FnMut) c.args.parameters.now _ 0 d
      refl within none_written c.requires;
}

pub returns-in_err-write_parameter_type : goal.returns-in_err-write_parameter_type
returns-in_err-write_parameter_type g c =
    rw (same_err c.from_residual.result c.in_err-write_parameter_type.field-0.0 c.from_residual.ensures.1)
    (item_stops (λ p. types_in_parameter p.node) (λ p. untyped_parameter (parameter_of p)) (type_calls g.F.FnMut) c.args.parameters.now
    c.loop-parameter.parameters c.loop-parameter.parameter-index c.parameter-item.result refl c.loop-parameter-test.true c.loop-parameter.invariant.to
    (let p = rw c.in_err-write_parameter_type.was at c.write_parameter_type.ensures in
    record {
      calls = p.calls;
      rest = untyped_same (span_of
          (get_or c.loop-parameter.parameters c.loop-parameter.parameter-index c.parameter-item.result).span)
          (get_or c.loop-parameter.parameters c.loop-parameter.parameter-index c.parameter-item.result).node c.write_parameter_type.new.parameter p.rest;
    }))

pub loop-parameter-preserved : goal.loop-parameter-preserved
loop-parameter-preserved g c =
    let more = item_more (λ p. types_in_parameter p.node) (λ p. untyped_parameter (parameter_of p)) (type_calls g.F.FnMut) c.args.parameters.now
    c.loop-parameter.parameters c.loop-parameter.parameter-index c.parameter-item.result refl c.loop-parameter-test.true c.loop-parameter.invariant.to
    (let p = rw c.in_ok-write_parameter_type.was at c.write_parameter_type.ensures in
    record {
      calls = p.calls;
      rest = untyped_same (span_of
          (get_or c.loop-parameter.parameters c.loop-parameter.parameter-index c.parameter-item.result).span)
          (get_or c.loop-parameter.parameters c.loop-parameter.parameter-index c.parameter-item.result).node c.write_parameter_type.new.parameter p.rest;
    })
    in
    record {
      to = more;
      next = λ d within. may_item (λ p. types_in_parameter p.node) (λ p. untyped_parameter (parameter_of p)) (type_calls g.F.FnMut) c.args.parameters.now _ _
          d refl within more c.requires;
    }

pub returns : goal.returns
returns g c = all_written c.loop-parameter.parameter-index c.loop-parameter-test.false c.loop-parameter.invariant.to
