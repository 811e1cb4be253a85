use Rattle.std.proofs.Common.{◌++◌, ◌∷◌, [], ap, ◌∙◌}
use Rattle.starlark_passes.proofs.ReplaceLemmas.CallNodes.{call_made}
use Rattle.starlark_passes.proofs.replace.node.call.Goals as goal

pub returns-in-Op : goal.returns-in-Op
returns-in-Op c =
    call_made c.args.operation c.in-Op.left c.in-Op.right c.into_box.result c.args.callee.tree c.in-Op.field-1 (record { args = c.push-in-Op.new.arguments })
    c.argument.result c.argument-in-Op.result
    c.in-Op.is c.into_box.ensures
    (c.push-in-Op.ensures.items
    ∙ ap (λ l. l ++ c.argument-in-Op.result ∷ [])
    (c.push.ensures.items ∙ ap (λ l. l ++ c.argument.result ∷ []) c.requires.empty))
    c.argument.ensures c.argument-in-Op.ensures
