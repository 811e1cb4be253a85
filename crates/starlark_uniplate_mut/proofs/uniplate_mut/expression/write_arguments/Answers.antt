use Rattle.std.proofs.Common.{[], ◌∷◌, get_or, refl}
use Rattle.starlark_lexer.specs.Tokens.{span_of}
use Rattle.starlark_uniplate_mut.specs.Frames.{argument_frame}
use Rattle.starlark_tree.specs.Parts.{argument_expression}
use Rattle.starlark_tree.specs.Views.{argument_of, expression_of}
use Rattle.starlark_tree.proofs.Steps.{same_err}
use Rattle.starlark_uniplate_mut.proofs.WriteLoops.{all_written, item_more, item_stops, places_written}
use Rattle.starlark_uniplate_mut.proofs.Framed.{argument_same}
use Rattle.starlark_uniplate_mut.proofs.uniplate_mut.expression.write_arguments.Goals as goal

pub returns-in_err-write_argument : goal.returns-in_err-write_argument
returns-in_err-write_argument g c =
    rw (same_err c.from_residual.result c.in_err-write_argument.field-0.0 c.from_residual.ensures.1)
    (places_written (λ a. expression_of (argument_expression a.node)) (item_stops (λ a. expression_of (argument_expression a.node) ∷ [])
    (λ a. argument_frame (argument_of a)) g.G.AtExprMut.calls c.args.arguments.now c.loop-argument.arguments c.loop-argument.argument-index
    c.argument-item.result refl c.loop-argument-test.true c.loop-argument.invariant.to
    (let p = (rw c.in_err-write_argument.was at c.write_argument.ensures) in
    record {
      calls = p.calls;
      rest = argument_same (span_of (get_or c.loop-argument.arguments c.loop-argument.argument-index c.argument-item.result).span)
          (get_or c.loop-argument.arguments c.loop-argument.argument-index c.argument-item.result).node c.write_argument.new.argument p.rest;
    })))

pub loop-argument-preserved : goal.loop-argument-preserved
loop-argument-preserved g c = record {
  to = item_more (λ a. expression_of (argument_expression a.node) ∷ []) (λ a. argument_frame (argument_of a))
      g.G.AtExprMut.calls c.args.arguments.now c.loop-argument.arguments c.loop-argument.argument-index c.argument-item.result refl c.loop-argument-test.true
      c.loop-argument.invariant.to (let p = (rw c.in_ok-write_argument.was at c.write_argument.ensures) in
      record {
        calls = p.calls;
        rest = argument_same (span_of (get_or c.loop-argument.arguments c.loop-argument.argument-index c.argument-item.result).span)
            (get_or c.loop-argument.arguments c.loop-argument.argument-index c.argument-item.result).node c.write_argument.new.argument p.rest;
      });
}

pub returns : goal.returns
returns g c = places_written (λ a. expression_of (argument_expression a.node))
    (all_written c.loop-argument.argument-index c.loop-argument-test.false c.loop-argument.invariant.to)
