use Rattle.std.proofs.Common.{◌≡◌, length, ap, arith}
use Rattle.starlark_passes.proofs.ReplaceLemmas.Loops.{each_lawful}
use Rattle.starlark_passes.proofs.ReplaceLemmas.PartLaws.{both_law, parameter_law, statement_law, type_law}
use Rattle.starlark_passes.proofs.ReplaceLemmas.Steps.{joined, stopped}
use Rattle.starlark_tree.proofs.LentParts.{with_items_all}
use Rattle.starlark_passes.proofs.replace.statement.Blocks.definition.Goals as goal

pub returns-in_err-replace_signature-clause-replaced : goal.returns-in_err-replace_signature-clause-replaced
returns-in_err-replace_signature-clause-replaced g c =
    let e = ap length c.deref_mut.ensures.value in
    let kept : length c.replace_signature.new.parameters ≡ length c.args.def.now.params.items = omega (arith, e, c.replace_signature.auto.parameters) in
    rw (with_items_all c.args.def.now.params c.replace_signature.new.parameters kept, ← c.deref_mut.ensures.value)
    (stopped (statement_law _) c.in_err-replace_signature.ensures _ c.from_residual.result c.from_residual.ensures.0)

pub returns-clause-replaced : goal.returns-clause-replaced
returns-clause-replaced g c =
    let e = ap length c.deref_mut.ensures.value in
    let kept : length c.replace_signature.new.parameters ≡ length c.args.def.now.params.items = omega (arith, e, c.replace_signature.auto.parameters) in
    rw (with_items_all c.args.def.now.params c.replace_signature.new.parameters kept, ← c.deref_mut.ensures.value, ← c.deref_mut-2.ensures.value)
    (joined (both_law _ (each_lawful _ _ (parameter_law _)) (type_law _)) c.in_ok-replace_signature.ensures c.one.ensures)
