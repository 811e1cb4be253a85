use Rattle.starlark_diagnostics.proofs.things.start.Goals as goal

pub returns-then-has : goal.returns-then-has
returns-then-has c = (c.has.ensures.0 c.if-has.true, c.has_all.ensures c.if-not-has_all.false)

pub returns-then-has-2 : goal.returns-then-has-2
returns-then-has-2 c = (c.has-else-has.ensures.0 c.if-has-2.true, c.has_all.ensures c.if-not-has_all.false)
