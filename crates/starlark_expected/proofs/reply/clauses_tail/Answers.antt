use Rattle.std.proofs.Common.{sym, ◌∙◌, [], ◌∷◌}
use Rattle.starlark_lexer.specs.declared.kind.Kind.TheVariants as kinds
use Rattle.starlark_lexer.specs.Kinds.{is}
use Rattle.starlark_expected.specs.declared.word.Word.TheVariants.{ClausesTail}
use Rattle.starlark_expected.specs.Words.{clause_start}
use Rattle.starlark_expected.proofs.Replies.{chosen, does_after}
use Rattle.starlark_expected.proofs.reply.clauses_tail.Goals as goal

pub returns-then-is : goal.returns-then-is
returns-then-is c =
    chosen _ _ _ (is c.args.kind kinds.For) _ _ (sym c.is.ensures ∙ c.if-is.true)
    (does_after (clause_start c.args.kind) _ _ _ _ _ (ClausesTail ∷ []) c.in_ok-push.ensures.items c.required.ensures c.clause.ensures)
