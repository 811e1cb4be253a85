use Rattle.std.proofs.Common.{refl}
use Rattle.starlark_parse_cursor.specs.Reading.{at}
use Rattle.starlark_parse.specs.Stmt.Statements.{Closed.by_dedent, Closed.by_end}
use Rattle.starlark_parse.proofs.StmtLemmas.Blocks.{stays_open}
use Rattle.starlark_parse.proofs.stmt.compound.closing.Goals as goal

pub returns-then-at-clause-closes : goal.returns-then-at-clause-closes
returns-then-at-clause-closes g c = by_end (cc) refl

pub returns-in_err-_dedent-clause-closes : goal.returns-in_err-_dedent-clause-closes
returns-in_err-_dedent-clause-closes g c =
    let e = c.in_err-_dedent.ensures.expects in
    stays_open _ (at c.args.cursor.now) _ _ _ c.from_residual.ensures.1 (cc, e.0, e.1, e.2)

pub returns-clause-closes : goal.returns-clause-closes
returns-clause-closes g c = by_dedent c.in_ok-_dedent.ensures.expects
