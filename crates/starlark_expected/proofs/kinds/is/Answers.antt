use Rattle.std.proofs.Common.{refl, ◌∙◌}
use Rattle.starlark_lexer.proofs.KindTags.{tag_is}
use Rattle.starlark_expected.proofs.kinds.is.Goals as goal

pub returns : goal.returns
returns c = c.eq.ensures ∙ rw (tag_is c.args.kind, tag_is c.args.other) refl
