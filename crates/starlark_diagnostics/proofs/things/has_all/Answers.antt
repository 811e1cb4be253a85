use Rattle.starlark_lexer.specs.declared.kind.Kind.TheVariants.{Identifier}
use Rattle.starlark_spec.specs.Nodes.{IsMember}
use Rattle.starlark_diagnostics.proofs.Expecting.{each_next, each_of}
use Rattle.starlark_diagnostics.proofs.things.has_all.Goals as goal

pub loop-kind-preserved : goal.loop-kind-preserved
loop-kind-preserved c =
    each_next (λ kind. IsMember kind c.args.set.now.kinds.items) c.args.kinds.now c.loop-kind.kind-index Identifier c.loop-kind-test.true
    (c.has.ensures.0 c.if-not-has.false) c.loop-kind.invariant

pub returns : goal.returns
returns c is =
    each_of (λ kind. IsMember kind c.args.set.now.kinds.items) c.args.kinds.now c.loop-kind.kind-index c.loop-kind-test.false c.loop-kind.invariant
