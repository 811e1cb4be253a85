use Rattle.std.proofs.Common.{◌∙◌}
use Rattle.starlark_checks.proofs.TypePaths.{text_more, text_whole}
use Rattle.starlark_checks.proofs.type_expr.path.path_text.Goals as goal

pub loop-name-preserved : goal.loop-name-preserved
unfolding lib.Utf8.encode
loop-name-preserved g c =
    text_more _ _ _ c.name-item.result _ _ _ c.loop-name-test.true c.name-item.is c.loop-name.invariant c.in_ok-push.ensures.bytes
    c.in_ok-push_str.ensures.bytes

pub returns : goal.returns
returns g c = c.loop-name.invariant ∙ text_whole c.args.path.now c.deref-name-items.result.now c.loop-name.name-index c.loop-name-test.false
    c.deref-name-items.ensures.value
