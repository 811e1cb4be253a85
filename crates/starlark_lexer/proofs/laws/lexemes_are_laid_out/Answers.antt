use Rattle.starlark_lexer.proofs.OrderLaws.{lexemes_laid_out}
use Rattle.starlark_lexer.proofs.laws.lexemes_are_laid_out.Goals as goal

pub returns : goal.returns
returns c = lexemes_laid_out
