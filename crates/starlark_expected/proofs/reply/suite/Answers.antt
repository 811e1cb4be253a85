use Rattle.std.proofs.Common.{sym, ◌∙◌}
use Rattle.starlark_lexer.specs.declared.kind.Kind.TheVariants as kinds
use Rattle.starlark_lexer.specs.Kinds.{is}
use Rattle.starlark_expected.specs.Words.{simple_start}
use Rattle.starlark_expected.proofs.Replies.{does_required, otherwise}
use Rattle.starlark_expected.proofs.reply.suite.Goals as goal

pub returns : goal.returns
returns c =
    otherwise _ _ _ (is c.args.kind kinds.Newline) _ _ (sym c.is.ensures ∙ c.if-is.false)
    (does_required (simple_start c.args.kind) _ _ _ _ c.required.ensures c.simple.ensures)
