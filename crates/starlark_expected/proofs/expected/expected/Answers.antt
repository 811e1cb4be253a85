use Rattle.std.proofs.Common.{subst, reverse, IfSome, Option}
use Rattle.starlark_expected.specs.declared.due.Due.{Due}
use Rattle.starlark_expected.specs.MayFollow.{Decides, tokens_of}
use Rattle.starlark_expected.proofs.Members.{exact}
use Rattle.starlark_expected.proofs.expected.expected.Goals as goal

pub returns-clause-exact : goal.returns-clause-exact
returns-clause-exact c =
    exact (tokens_of c.args.lexemes.now) c.in-Some.due.words.items c.deref.result.now c.in-Some.due.named c.in_ok-kinds.kinds.items c.in_ok-ask.field-0
    c.is_whole-is_end.result
    (subst (λ (o : Option Due). IfSome o (λ due. Decides (tokens_of c.args.lexemes.now) (reverse due.words.items) due.named)) c.in-Some.is
    c.in_ok-due.ensures.decides) c.in_ok-kinds.ensures c.deref.ensures.value c.in_ok-ask.ensures c.is_whole-is_end.ensures
