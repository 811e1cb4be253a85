use Rattle.std.proofs.Common.{[], ◌∷◌, ◌++◌, map, refl, ap, ◌∙◌}
use Rattle.std.specs.Box.{with_value}
use Rattle.std.specs.List.{flat_map}
use Rattle.std.specs.Vec.{with_items}
use Rattle.starlark_tree.specs.Places.{exprs_in_parameter}
use Rattle.starlark_tree.specs.Views.{expression_of, parameter_of}
use Rattle.starlark_uniplate_mut.specs.Frames.{parameter_frame}
use Rattle.starlark_uniplate_mut.proofs.Writing.{write_at}
use Rattle.starlark_uniplate_mut.proofs.Written.{items_as_framed, lambda_written}
use Rattle.starlark_uniplate_mut.proofs.uniplate_mut.node.write_lambda_parts.Goals as goal

pub returns : goal.returns
returns g c =
    let old = c.args.lambda.now in
    let same = c.write_lambda.ensures.rest ∙ ap (map (λ p. parameter_frame (parameter_of p))) c.deref_mut.ensures.value in
    lambda_written old (record old { params = with_items old.params c.write_lambda.new.parameters; body = with_value old.body c.write_lambda.new.body })
    c.write_lambda.new.parameters c.write_lambda.new.body
    (items_as_framed (λ p. parameter_frame (parameter_of p)) old.params c.write_lambda.new.parameters same) refl refl
    (write_at (ap (λ ys. flat_map (λ p. exprs_in_parameter p.node) ys ++ expression_of c.deref_mut-2.result.now ∷ []) c.deref_mut.ensures.value
    ∙ ap (λ x. flat_map (λ p. exprs_in_parameter p.node) old.params.items ++ expression_of x ∷ []) c.deref_mut-2.ensures.value) refl
    c.write_lambda.ensures.calls)
    same
