use Rattle.starlark_parse_cursor.proofs.Paths.{gives_exits}
use Rattle.starlark_parse.proofs.ExprLemmas.Suffixes.{no_name, attribute_wants, attribute_found}
use Rattle.starlark_parse.proofs.expr.primary.attribute.Goals as goal

pub returns-in_err-name-clause-parses : goal.returns-in_err-name-clause-parses
returns-in_err-name-clause-parses g c dot = gives_exits _ _ _ _ _ _ c.from_residual.ensures.1 (no_name dot c.in_err-name.ensures.takes)

pub returns-in_err-attribute_of-clause-parses : goal.returns-in_err-attribute_of-clause-parses
returns-in_err-attribute_of-clause-parses g c dot = gives_exits _ _ _ _ _ _ c.from_residual-in_err-attribute_of.ensures.1
    (attribute_wants dot c.in_ok-name.name c.in_ok-name.ensures.takes)

pub returns-clause-parses : goal.returns-clause-parses
returns-clause-parses g c dot = attribute_found dot c.in_ok-name.name c.in_ok-name.ensures.takes c.in_ok-attribute_of.ensures.means
