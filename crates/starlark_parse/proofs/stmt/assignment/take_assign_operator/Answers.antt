use Rattle.std.proofs.Common.{refl}
use Rattle.starlark_lexer.specs.Tokens.{lexeme, span_of}
use Rattle.starlark_lexer.specs.Tokens as tokens
use Rattle.starlark_spec.specs.Grammar.AssignSign.{equal_sign}
use Rattle.starlark_parse.proofs.StmtLemmas.SmallStatements.{sign_taken}
use Rattle.starlark_parse.proofs.stmt.assignment.take_assign_operator.Goals as goal

pub returns-in-Some-clause-takes : goal.returns-in-Some-clause-takes
returns-in-Some-clause-takes g c = (lexeme tokens.Equal (span_of c.in-Some._equal), equal_sign, c.in-Some.ensures.takes, refl, refl)

pub returns-clause-takes : goal.returns-clause-takes
returns-clause-takes g c = sign_taken c.kind.result c.in_default.ensures.takes.1 c.kind.ensures c.in-Some-augmented.ensures c.in-Some-skip.ensures.takes
