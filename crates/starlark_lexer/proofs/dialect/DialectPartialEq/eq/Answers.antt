use Rattle.std.proofs.Common.{rules, tests}
use Rattle.starlark_lexer.proofs.DialectLemmas.{same_dialect-decides}
use Rattle.starlark_lexer.proofs.dialect.DialectPartialEq.eq.Goals as goal

pub returns-then-self-other-7-clause-exact : goal.returns-then-self-other-7-clause-exact
returns-then-self-other-7-clause-exact c =
    same_dialect-decides c.eq.result c.args.self.now c.args.other.now (search (rules, tests))
