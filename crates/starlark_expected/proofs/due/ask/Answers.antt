use Rattle.starlark_expected.proofs.Stack.{ask_takes, ask_refuses, ask_passes}
use Rattle.starlark_expected.proofs.due.ask.Goals as goal

pub returns-in-Takes : goal.returns-in-Takes
returns-in-Takes c =
    ask_takes c.args.words.now c.loop-word.rest.now c.in-Some.others.now _ _ c.in-Some.word.now c.args.named c.args.kind c.in_ok-reply.field-0
    c.in-Some.ensures.cases.0 _ c.loop-word.invariant c.in_ok-reply.ensures c.in-Takes.is

pub loop-word-preserved : goal.loop-word-preserved
loop-word-preserved c =
    ask_passes c.args.words.now c.loop-word.rest.now c.in-Some.others.now _ _ c.in-Some.word.now c.args.named c.args.kind c.in_ok-reply.field-0
    c.in-Some.ensures.cases.0 c.loop-word.invariant c.in_ok-reply.ensures c.in-Passes.is

pub returns-in-Refuses : goal.returns-in-Refuses
returns-in-Refuses c =
    ask_refuses c.args.words.now c.loop-word.rest.now c.in-Some.others.now _ _ c.in-Some.word.now c.args.named c.args.kind c.in_ok-reply.field-0
    c.in-Some.ensures.cases.0 c.loop-word.invariant c.in_ok-reply.ensures c.in-Refuses.is
