use Rattle.std.proofs.Common.{◌≡◌, length, ap, arith}
use Rattle.starlark_passes.proofs.ReplaceLemmas.Loops.{each_lawful}
use Rattle.starlark_passes.proofs.ReplaceLemmas.PartLaws.{expression_law, parameter_law}
use Rattle.starlark_passes.proofs.ReplaceLemmas.Steps.{joined, stopped}
use Rattle.starlark_tree.proofs.LentParts.{with_items_all}
use Rattle.starlark_passes.proofs.replace.rules.Rules.lambda.Goals as goal

pub returns-in_err-parameters : goal.returns-in_err-parameters
returns-in_err-parameters g c =
    let e = ap length c.deref_mut.ensures.value in
    let kept : length c.parameters.new.parameters ≡ length c.args.lambda.now.params.items = omega (arith, e, c.parameters.auto.parameters) in
    rw (with_items_all c.args.lambda.now.params c.parameters.new.parameters kept, ← c.deref_mut.ensures.value)
    (stopped (expression_law _) c.in_err-parameters.ensures _ c.from_residual.result c.from_residual.ensures.0)

pub returns : goal.returns
returns g c =
    let e = ap length c.deref_mut.ensures.value in
    let kept : length c.parameters.new.parameters ≡ length c.args.lambda.now.params.items = omega (arith, e, c.parameters.auto.parameters) in
    rw (with_items_all c.args.lambda.now.params c.parameters.new.parameters kept, ← c.deref_mut.ensures.value, ← c.deref_mut-2.ensures.value)
    (joined (each_lawful _ _ (parameter_law _)) c.in_ok-parameters.ensures c.one.ensures)
