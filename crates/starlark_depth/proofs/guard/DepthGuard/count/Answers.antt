use Rattle.std.proofs.Common.{◌≤◌, subst}
use Rattle.starlark_lexer.specs.Tokens.{terminal}
use Rattle.starlark_depth.specs.Counted.{state_of}
use Rattle.starlark_depth.specs.Depths.{effect, state_depth, step}
use Rattle.starlark_depth.proofs.Uncounted.{within_limit, is_within}
use Rattle.starlark_depth.proofs.guard.DepthGuard.count.Goals as goal

pub returns-in-Ok-consume-clause-passes : goal.returns-in-Ok-consume-clause-passes
returns-in-Ok-consume-clause-passes g c =
    let old = c.args.self.now.depth in
    let new = c.consume.new.self in
    let less = subst (λ n. state_depth (state_of new) ≤ n) c.in-Ok-consume.ensures.limit (within_limit new) in
    let after = step (effect (terminal c.in-Ok.token)) (state_of old) in
    rw c.in-Ok.is (is_within old.limit (state_of new) after c.in-Ok-consume.ensures.goes less, c.requires.running)
