use Rattle.std.proofs.Common.{◌≡◌, get_or, arith}
use Rattle.std.proofs.lemmas.Str.{IsUtf8-had, IsCharBoundary-after_ascii}
use Rattle.std.proofs.lemmas.Grind.{common_steps}
use Rattle.starlark_lexer.proofs.lexer.Lexer.front_step.Goals as goal

pub take-requires : goal.take-requires
take-requires c =
    let first : get_or c.args.self.now.rest.now 0 0 ≡ 125 = grind (arith, common_steps) in
    IsCharBoundary-after_ascii c.args.self.now.rest.now 0 (IsUtf8-had _ c.args.self.now.utf8) c.requires (omega arith)

pub take-requires-then-byte_at-ne61 : goal.take-requires-then-byte_at-ne61
take-requires-then-byte_at-ne61 c =
    let first : get_or c.args.self.now.rest.now 0 0 ≡ 33 = grind (arith, common_steps) in
    IsCharBoundary-after_ascii c.args.self.now.rest.now 0 (IsUtf8-had _ c.args.self.now.utf8) c.requires (omega arith)
