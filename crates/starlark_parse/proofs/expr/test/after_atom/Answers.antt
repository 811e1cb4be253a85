use Rattle.starlark_parse_cursor.proofs.Paths.{exits}
use Rattle.starlark_parse.proofs.ExprLemmas.Suffixes.{atom_read}
use Rattle.starlark_parse.proofs.ExprLemmas.Single.{primary_fails, primary_alone, primary_unary, leaf_no_lambda, leaf_no_not}
use Rattle.starlark_parse.proofs.expr.test.after_atom.Goals as goal

pub returns-in_err-operand-clause-parses : goal.returns-in_err-operand-clause-parses
returns-in_err-operand-clause-parses g c start h d =
    exits _ _ _ _ _ _ _ c.from_residual.ensures.1 (primary_fails h (c.in_err-operand.ensures.parses start (atom_read c.args.atom d)))

pub returns-then-at_expression_end-clause-parses : goal.returns-then-at_expression_end-clause-parses
returns-then-at_expression_end-clause-parses g c start h d =
    primary_alone h c.in_ok-operand.operand (c.in_ok-operand.ensures.parses start (atom_read c.args.atom d)) (cc)

pub returns-clause-parses : goal.returns-clause-parses
returns-clause-parses g c start h d =
    c.after_operand.ensures.parses start (leaf_no_lambda _ h) (leaf_no_not _ h)
    (primary_unary h c.in_ok-operand.operand (c.in_ok-operand.ensures.parses start (atom_read c.args.atom d)))
