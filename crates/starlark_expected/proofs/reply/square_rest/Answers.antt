use Rattle.std.proofs.Common.{sym, ◌∙◌, [], ◌∷◌}
use Rattle.starlark_lexer.specs.declared.kind.Kind.TheVariants as kinds
use Rattle.starlark_lexer.specs.Kinds.{is}
use Rattle.starlark_expected.specs.declared.word.Word.TheVariants.{Token, ClausesTail}
use Rattle.starlark_expected.specs.Words.{clause_start}
use Rattle.starlark_expected.proofs.Replies.{chosen, does_after, otherwise}
use Rattle.starlark_expected.proofs.reply.square_rest.Goals as goal

pub returns-then-is-2 : goal.returns-then-is-2
returns-then-is-2 c =
    otherwise _ _ _ (is c.args.kind kinds.Comma) _ _ (sym c.is.ensures ∙ c.if-is.false)
    (chosen _ _ _ (is c.args.kind kinds.For) _ _ (sym c.is-2.ensures ∙ c.if-is-2.true)
    (does_after (clause_start c.args.kind) _ _ _ _ _ (Token kinds.ClosingSquare ∷ ClausesTail ∷ []) c.in_ok-begun.ensures.pushes c.required.ensures
    c.clause.ensures))
