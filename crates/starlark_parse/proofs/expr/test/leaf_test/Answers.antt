use Rattle.starlark_parse_cursor.proofs.Paths.{exits}
use Rattle.starlark_parse.proofs.ExprLemmas.Single.{leaf_fails, atom_alone}
use Rattle.starlark_parse.proofs.expr.test.leaf_test.Goals as goal

pub returns-in_err-atom-clause-parses : goal.returns-in_err-atom-clause-parses
returns-in_err-atom-clause-parses g c = exits _ _ _ _ _ _ _ c.from_residual.ensures.1 (leaf_fails c.requires.leaf c.in_err-atom.ensures.parses)

pub returns-then-at_expression_end-clause-parses : goal.returns-then-at_expression_end-clause-parses
returns-then-at_expression_end-clause-parses g c = atom_alone c.requires.leaf c.in_ok-atom.atom c.in_ok-atom.ensures.parses (cc)

pub returns-clause-parses : goal.returns-clause-parses
returns-clause-parses g c = c.after_atom.ensures.parses _ c.requires.leaf c.in_ok-atom.ensures.parses
