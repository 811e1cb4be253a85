use Rattle.std.proofs.Common.{sym, ◌∙◌, [], ◌∷◌}
use Rattle.starlark_spec.specs.Machine.Firsts.{starts_operand}
use Rattle.starlark_expected.specs.declared.word.Word.TheVariants.{VariablesTail}
use Rattle.starlark_expected.specs.Words.{bit_or_start}
use Rattle.starlark_expected.proofs.Replies.{chosen, does_after}
use Rattle.starlark_expected.proofs.reply.after_variables_comma.Goals as goal

pub returns-then-is_operand : goal.returns-then-is_operand
returns-then-is_operand c =
    chosen _ _ _ (starts_operand c.args.kind) _ _ (sym c.is_operand.ensures ∙ c.if-is_operand.true)
    (does_after (bit_or_start c.args.kind) _ _ _ _ _ (VariablesTail ∷ []) c.in_ok-push.ensures.items c.required.ensures c.operands.ensures)
