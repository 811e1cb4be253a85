use Rattle.std.proofs.lemmas.Str.{IsUtf8-had}
use Rattle.starlark_lexer.proofs.LineLemmas.{IsCharBoundary-skip_len}
use Rattle.starlark_lexer.proofs.lexer.Lexer.token_step.Goals as goal

pub advance-requires : goal.advance-requires
advance-requires c =
    rw (c.skip_len-skipped.ensures.len, c.as_bytes.ensures.value) (IsCharBoundary-skip_len _ c.args.self.now.rest.now (IsUtf8-had _ c.args.self.now.utf8))
