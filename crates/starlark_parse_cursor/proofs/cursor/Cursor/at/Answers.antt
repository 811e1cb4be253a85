use Rattle.std.proofs.Common.{ap, ◌∙◌}
use Rattle.starlark_lexer.specs.Kinds.{is}
use Rattle.starlark_lexer.proofs.KindTags.{tag_is}
use Rattle.starlark_parse_cursor.proofs.cursor.Cursor.at.Goals as goal

pub returns : goal.returns
returns g c = c.eq.ensures ∙ rw (tag_is c.kind.result, tag_is c.args.kind) (ap (λ k. is k c.args.kind) c.kind.ensures)
