use Rattle.starlark_checks.proofs.RefusalLemmas.{lexer_named}
use Rattle.starlark_checks.proofs.error.Error.from_refusal.Goals as goal

pub returns-in-Lexer : goal.returns-in-Lexer
returns-in-Lexer c = rw (c.in-Lexer.is) (lexer_named c.args.codemap.now c.in-Lexer.error c.from_lexer.result c.from_lexer.ensures.error)
