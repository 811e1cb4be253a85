use Rattle.std.proofs.Common.{sym, ◌∙◌}
use Rattle.starlark_spec.specs.Machine.Firsts.{starts_small}
use Rattle.starlark_expected.specs.Words.{simple_start}
use Rattle.starlark_expected.proofs.Replies.{chosen, does_required}
use Rattle.starlark_expected.proofs.reply.after_semicolon.Goals as goal

pub returns-then-is_small : goal.returns-then-is_small
returns-then-is_small c =
    chosen _ _ _ (starts_small c.args.kind) _ _ (sym c.is_small.ensures ∙ c.if-is_small.true)
    (does_required (simple_start c.args.kind) _ _ _ _ c.required.ensures c.simple.ensures)
