use Rattle.std.proofs.Common.{◌∷◌, map, refl, ap, ◌∙◌}
use Rattle.std.specs.Vec.{with_items}
use Rattle.starlark_tree.specs.Parts.{argument_expression}
use Rattle.starlark_tree.specs.Views.{argument_of, expression_of}
use Rattle.starlark_uniplate_mut.specs.Frames.{argument_frame}
use Rattle.starlark_uniplate_mut.proofs.Writing.{write_at}
use Rattle.starlark_uniplate_mut.proofs.Written.{call_written, items_as_framed}
use Rattle.starlark_uniplate_mut.proofs.uniplate_mut.node.write_called.Goals as goal

pub returns : goal.returns
returns g c =
    let old = c.args.args.now in
    let same = c.write_call.ensures.rest ∙ ap (map (λ a. argument_frame (argument_of a))) c.deref_mut-2.ensures.value in
    call_written c.args.callee.now c.write_call.new.callee old (record old { args = with_items old.args c.write_call.new.arguments }) c.write_call.new.arguments
    (items_as_framed (λ a. argument_frame (argument_of a)) old.args c.write_call.new.arguments same)
    (write_at (ap (λ x. expression_of x ∷ map (λ a. expression_of (argument_expression a.node)) c.deref_mut-2.result.now) c.deref_mut.ensures.value
    ∙ ap (λ ys. expression_of c.args.callee.now.value ∷ map (λ a. expression_of (argument_expression a.node)) ys) c.deref_mut-2.ensures.value) refl
    c.write_call.ensures.calls)
    same
