use Rattle.std.proofs.Common.{◌∙◌}
use Rattle.starlark_lexer.specs.Tokens.{from_to}
use Rattle.starlark_parse_build.proofs.Rows.{kwargs_seen}
use Rattle.starlark_parse_build.proofs.parameter.typed_kwargs_parameter.Goals as goal

pub returns : goal.returns
returns c =
    c.spanned.ensures
    ∙ kwargs_seen (from_to c.args.begin.byte c.args.end.byte) c.assigned.result c.type_tree.result _ _ c.assigned.ensures c.type_tree.ensures
