use Rattle.std.proofs.Common.{arith}
use Rattle.std.proofs.lemmas.Str.{IsUtf8-had, IsCharBoundary-start}
use Rattle.starlark_lexer.proofs.LineLemmas.{IsCharBoundary-whitespace, whitespace_len-le}
use Rattle.starlark_lexer.proofs.lexer.Lexer.indent_step.Goals as goal

pub advance-requires : goal.advance-requires
advance-requires c = rw c.requires (IsCharBoundary-whitespace c.args.self.now.rest.now (IsUtf8-had _ c.args.self.now.utf8))

pub take-requires : goal.take-requires
take-requires c = IsCharBoundary-start c.args.self.now.rest.now (IsUtf8-had _ c.args.self.now.utf8)

pub overflow_add-self : goal.overflow_add-self
overflow_add-self c =
    let small = c.args.self.now.small in let within = whitespace_len-le c.args.self.now.rest.now in let is = c.requires in omega arith

pub refuse-requires-clause-small : goal.refuse-requires-clause-small
refuse-requires-clause-small c =
    let small = c.args.self.now.small in let within = whitespace_len-le c.args.self.now.rest.now in let is = c.requires in omega arith
