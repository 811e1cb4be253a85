use Rattle.std.proofs.lemmas.Str.{IsUtf8-had}
use Rattle.starlark_lexer.proofs.LineLemmas.{IsCharBoundary-whitespace}
use Rattle.starlark_lexer.proofs.lexer.Lexer.indent.Goals as goal

pub take-requires : goal.take-requires
take-requires c = rw c.requires (IsCharBoundary-whitespace c.args.self.now.rest.now (IsUtf8-had _ c.args.self.now.utf8))
