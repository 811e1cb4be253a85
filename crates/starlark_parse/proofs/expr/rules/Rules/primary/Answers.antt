use Rattle.starlark_parse_cursor.proofs.Paths.{exits}
use Rattle.starlark_parse.proofs.ExprLemmas.Suffixes.{atom_fails, atom_read, suffixed_found}
use Rattle.starlark_parse.proofs.expr.rules.Rules.primary.Goals as goal

pub returns-in_err-atom-clause-parses : goal.returns-in_err-atom-clause-parses
returns-in_err-atom-clause-parses g c = exits _ _ _ _ _ _ _ c.from_residual.ensures.1 (atom_fails c.in_err-atom.ensures.parses)

pub returns-then-not-at_suffix-clause-parses : goal.returns-then-not-at_suffix-clause-parses
returns-then-not-at_suffix-clause-parses g c = suffixed_found c.in_ok-atom.atom (atom_read c.in_ok-atom.atom c.in_ok-atom.ensures.parses) (cc)

pub returns-clause-parses : goal.returns-clause-parses
returns-clause-parses g c = c.suffixes.ensures.parses _ (atom_read c.in_ok-atom.atom c.in_ok-atom.ensures.parses)
