use Rattle.starlark_expected.proofs.Stack.{take_takes, take_refuses, take_passes, take_fewer}
use Rattle.starlark_expected.proofs.due.Due.take.Goals as goal

pub returns-in-Takes : goal.returns-in-Takes
returns-in-Takes c =
    take_takes _ c.loop-word.self.words.items c.pop.new.self.items c.reply.new.out.items c.in-Some.word c.loop-word.self.named c.args.kind
    c.in_ok-argument.field-0 c.in-Some.ensures.items c.loop-word.invariant c.in_ok-argument.ensures c.in-Takes.argument _ c.in-Takes.is c.is_named-self.ensures

pub loop-word-smaller : goal.loop-word-smaller
loop-word-smaller c =
    take_fewer _ c.loop-word.self.words.items c.pop.new.self.items c.reply.new.out.items c.in-Some.word c.loop-word.self.named c.args.kind
    c.in_ok-argument.field-0 c.in-Some.ensures.items c.loop-word.invariant c.in_ok-argument.ensures c.in-Passes.is

pub loop-word-preserved : goal.loop-word-preserved
loop-word-preserved c =
    take_passes _ c.loop-word.self.words.items c.pop.new.self.items c.reply.new.out.items c.in-Some.word c.loop-word.self.named c.args.kind
    c.in_ok-argument.field-0 c.in-Some.ensures.items c.loop-word.invariant c.in_ok-argument.ensures c.in-Passes.is

pub returns-in-Refuses : goal.returns-in-Refuses
returns-in-Refuses c =
    take_refuses _ c.loop-word.self.words.items c.pop.new.self.items c.reply.new.out.items c.in-Some.word c.loop-word.self.named c.args.kind
    c.in_ok-argument.field-0 c.in-Some.ensures.items c.loop-word.invariant c.in_ok-argument.ensures _ c.in-Refuses.is
