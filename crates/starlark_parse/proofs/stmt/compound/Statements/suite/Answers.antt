use Rattle.std.proofs.Common.{refl}
use Rattle.starlark_parse_cursor.specs.Reading.{at}
use Rattle.starlark_parse_cursor.proofs.Paths.{exits}
use Rattle.starlark_parse.proofs.StmtLemmas.Blocks.{line_parses, block_fails, suite_found, no_dedent}
use Rattle.starlark_parse.proofs.stmt.compound.Statements.suite.Goals as goal

pub returns-then-not-at-clause-parses : goal.returns-then-not-at-clause-parses
returns-then-not-at-clause-parses g c = line_parses _ (at c.args.cursor.now) _ _ c.line.result (cc, refl) c.line.ensures.parses

pub returns-in_err-opening-clause-parses : goal.returns-in_err-opening-clause-parses
returns-in_err-opening-clause-parses g c = exits _ _ _ _ _ _ _ c.from_residual.ensures.1 c.in_err-opening.ensures.opens

pub returns-in_err-block-clause-parses : goal.returns-in_err-block-clause-parses
returns-in_err-block-clause-parses g c = exits _ _ _ _ _ _ _ c.from_residual-in_err-block.ensures.1
    (block_fails c.in_ok-opening.ensures.opens c.in_err-block.ensures.parses)

pub returns-in_err-closing-clause-parses : goal.returns-in_err-closing-clause-parses
returns-in_err-closing-clause-parses g c =
    exits _ _ _ _ _ _ _ c.from_residual-in_err-closing.ensures.1 (no_dedent c.in_ok-opening.ensures.opens c.in_ok-block.block c.in_ok-block.ensures.parses
    c.in_err-closing.ensures.closes)

pub returns-clause-parses : goal.returns-clause-parses
returns-clause-parses g c = suite_found c.in_ok-opening.ensures.opens c.in_ok-block.block c.in_ok-block.ensures.parses c.in_ok-closing.ensures.closes
