use Rattle.std.proofs.Common.{◌≡◌, refl, subst, arith}
use Rattle.starlark_depth.specs.Depths.{step}
use Rattle.starlark_depth.specs.Nested.{nested_in}
use Rattle.starlark_depth.proofs.Uncounted.{next_plain, next_counted, all_counted}
use Rattle.starlark_depth.proofs.depth.count_all.Goals as goal

pub loop-kind-init : goal.loop-kind-init
loop-kind-init c = record { nested = c.requires.nested; same = refl; depth = c.requires.shallow; plain = c.requires.plain }

pub apply-requires-clause-plain : goal.apply-requires-clause-plain
apply-requires-clause-plain c = rw c.effect_of.ensures (next_plain c.loop-kind.invariant c.loop-kind-test.true)

pub apply-requires-clause-shallow : goal.apply-requires-clause-shallow
apply-requires-clause-shallow c = c.loop-kind.invariant.nested

pub loop-kind-preserved : goal.loop-kind-preserved
loop-kind-preserved c =
    next_counted c.loop-kind.invariant c.loop-kind-test.true c.apply.new.self
    (subst (λ e. nested_in c.apply.new.self ≡ step e (nested_in c.loop-kind.nesting)) c.effect_of.ensures c.in-Ok.ensures.goes)
    c.in-Ok.ensures.shallow

pub returns-clause-goes : goal.returns-clause-goes
returns-clause-goes c = all_counted c.loop-kind.invariant (omega (arith, c.loop-kind-test.false))

pub returns-clause-nested : goal.returns-clause-nested
returns-clause-nested c = c.loop-kind.invariant.nested
