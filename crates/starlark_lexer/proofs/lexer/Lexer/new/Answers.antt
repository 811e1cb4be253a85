use Rattle.std.proofs.Common.{refl}
use Rattle.starlark_lexer.proofs.RunLaws.{all_lexemes}
use Rattle.starlark_lexer.proofs.lexer.Lexer.new.Goals as goal

pub returns-clause-items : goal.returns-clause-items
returns-clause-items c = λ xs all. all_lexemes _ c.args.text.now xs (rw (c.new.ensures.items, c.new-2.ensures.items) refl) all
