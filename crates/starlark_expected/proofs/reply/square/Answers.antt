use Rattle.std.proofs.Common.{sym, ◌∙◌, [], ◌∷◌}
use Rattle.starlark_spec.specs.Machine.Firsts.{starts_test}
use Rattle.starlark_expected.specs.declared.word.Word.TheVariants.{SquareRest}
use Rattle.starlark_expected.specs.Words.{test_start}
use Rattle.starlark_expected.proofs.Replies.{chosen, does_after}
use Rattle.starlark_expected.proofs.reply.square.Goals as goal

pub returns-then-is_test : goal.returns-then-is_test
returns-then-is_test c =
    chosen _ _ _ (starts_test c.args.kind) _ _ (sym c.is_test.ensures ∙ c.if-is_test.true)
    (does_after (test_start c.args.kind) _ _ _ _ _ (SquareRest ∷ []) c.in_ok-push.ensures.items c.required.ensures c.test.ensures)
