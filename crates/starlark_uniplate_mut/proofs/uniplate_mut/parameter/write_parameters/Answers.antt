use Rattle.std.proofs.Common.{get_or, refl}
use Rattle.starlark_lexer.specs.Tokens.{span_of}
use Rattle.starlark_uniplate_mut.specs.Frames.{parameter_frame}
use Rattle.starlark_tree.specs.Places.{exprs_in_parameter}
use Rattle.starlark_tree.specs.Views.{parameter_of}
use Rattle.starlark_tree.proofs.Steps.{same_err}
use Rattle.starlark_uniplate_mut.proofs.WriteLoops.{all_written, item_more, item_stops}
use Rattle.starlark_uniplate_mut.proofs.Framed.{parameter_same}
use Rattle.starlark_uniplate_mut.proofs.uniplate_mut.parameter.write_parameters.Goals as goal

pub returns-in_err-write_parameter : goal.returns-in_err-write_parameter
returns-in_err-write_parameter g c =
    rw (same_err c.from_residual.result c.in_err-write_parameter.field-0.0 c.from_residual.ensures.1)
    (item_stops (λ p. exprs_in_parameter p.node) (λ p. parameter_frame (parameter_of p)) g.G.AtExprMut.calls c.args.parameters.now c.loop-parameter.parameters
    c.loop-parameter.parameter-index c.parameter-item.result refl c.loop-parameter-test.true c.loop-parameter.invariant
    (let p = (rw c.in_err-write_parameter.was at c.write_parameter.ensures) in
    record {
      calls = p.calls;
      rest = parameter_same (span_of
          (get_or c.loop-parameter.parameters c.loop-parameter.parameter-index c.parameter-item.result).span)
          (get_or c.loop-parameter.parameters c.loop-parameter.parameter-index c.parameter-item.result).node c.write_parameter.new.parameter p.rest;
    }))

pub loop-parameter-preserved : goal.loop-parameter-preserved
loop-parameter-preserved g c = item_more (λ p. exprs_in_parameter p.node) (λ p. parameter_frame (parameter_of p)) g.G.AtExprMut.calls c.args.parameters.now
    c.loop-parameter.parameters c.loop-parameter.parameter-index c.parameter-item.result refl c.loop-parameter-test.true c.loop-parameter.invariant
    (let p = (rw c.in_ok-write_parameter.was at c.write_parameter.ensures) in
    record {
      calls = p.calls;
      rest = parameter_same (span_of
          (get_or c.loop-parameter.parameters c.loop-parameter.parameter-index c.parameter-item.result).span)
          (get_or c.loop-parameter.parameters c.loop-parameter.parameter-index c.parameter-item.result).node c.write_parameter.new.parameter p.rest;
    })

pub returns : goal.returns
returns g c = all_written c.loop-parameter.parameter-index c.loop-parameter-test.false c.loop-parameter.invariant
