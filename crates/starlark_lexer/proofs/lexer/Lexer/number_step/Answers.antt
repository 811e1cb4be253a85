use Rattle.std.proofs.lemmas.Str.{IsUtf8-had}
use Rattle.starlark_lexer.proofs.CutFits.{number_fits}
use Rattle.starlark_lexer.proofs.lexer.Lexer.number_step.Goals as goal

pub take_cut-requires : goal.take_cut-requires
take_cut-requires c = rw c.in-Ok.ensures (number_fits c.args.self.now.rest.now (IsUtf8-had _ c.args.self.now.utf8) c.requires.some c.requires.begins)
