use Rattle.std.proofs.Common.{sym, ◌∙◌}
use Rattle.starlark_spec.specs.Machine.Firsts.{starts_test}
use Rattle.starlark_expected.specs.Words.{test_start}
use Rattle.starlark_expected.proofs.Replies.{chosen, does_required}
use Rattle.starlark_expected.proofs.reply.bound_tail.Goals as goal

pub returns-then-is_test : goal.returns-then-is_test
returns-then-is_test c =
    chosen _ _ _ (starts_test c.args.kind) _ _ (sym c.is_test.ensures ∙ c.if-is_test.true)
    (does_required (test_start c.args.kind) _ _ _ _ c.required.ensures c.test.ensures)
