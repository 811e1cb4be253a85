use Rattle.std.proofs.lemmas.Str.{IsUtf8-had}
use Rattle.starlark_lexer.proofs.LineLemmas.{IsCharBoundary-blank_lines}
use Rattle.starlark_lexer.proofs.lexer.Lexer.line_step.Goals as goal

pub advance-requires : goal.advance-requires
advance-requires c =
    rw (c.blank_lines-skipped.ensures.len, c.as_bytes.ensures.value) (IsCharBoundary-blank_lines c.args.self.now.rest.now (IsUtf8-had _ c.args.self.now.utf8))
