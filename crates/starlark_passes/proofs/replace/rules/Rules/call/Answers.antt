use Rattle.std.proofs.Common.{◌≡◌, length, ap, arith}
use Rattle.starlark_passes.proofs.ReplaceLemmas.Loops.{each_lawful}
use Rattle.starlark_passes.proofs.ReplaceLemmas.PartLaws.{argument_law, expression_law}
use Rattle.starlark_passes.proofs.ReplaceLemmas.Steps.{joined, stopped}
use Rattle.starlark_tree.proofs.LentParts.{with_items_all}
use Rattle.starlark_passes.proofs.replace.rules.Rules.call.Goals as goal

pub returns-in_err-one : goal.returns-in_err-one
returns-in_err-one g c = stopped (each_lawful _ _ (argument_law _)) c.in_err-one.ensures _ c.from_residual.result c.from_residual.ensures.0

pub returns : goal.returns
returns g c =
    let e = ap length c.deref_mut.ensures.value in
    let kept : length c.arguments.new.arguments ≡ length c.args.arguments.now.args.items = omega (arith, e, c.arguments.auto.arguments) in
    rw (with_items_all c.args.arguments.now.args c.arguments.new.arguments kept, ← c.deref_mut.ensures.value)
    (joined (expression_law _) c.in_ok-one.ensures c.arguments.ensures)
