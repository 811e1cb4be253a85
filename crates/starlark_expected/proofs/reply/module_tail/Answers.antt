use Rattle.std.proofs.Common.{sym, ◌∙◌, [], ◌∷◌}
use Rattle.starlark_lexer.specs.declared.kind.Kind.TheVariants as kinds
use Rattle.starlark_lexer.specs.Kinds.{is}
use Rattle.starlark_expected.specs.declared.word.Word.TheVariants.{ModuleTail}
use Rattle.starlark_expected.specs.Words.{statement_start}
use Rattle.starlark_expected.proofs.Replies.{does_after, otherwise}
use Rattle.starlark_expected.proofs.reply.module_tail.Goals as goal

pub returns : goal.returns
returns c =
    otherwise _ _ _ (is c.args.kind kinds.End) _ _ (sym c.is.ensures ∙ c.if-is.false)
    (otherwise _ _ _ (is c.args.kind kinds.Newline) _ _ (sym c.is-2.ensures ∙ c.if-is-2.false)
    (does_after (statement_start c.args.kind) _ _ _ _ _ (ModuleTail ∷ []) c.in_ok-push.ensures.items c.required.ensures c.statement.ensures))
