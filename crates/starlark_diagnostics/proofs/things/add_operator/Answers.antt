use Rattle.starlark_diagnostics.proofs.Expecting.{one_more}
use Rattle.starlark_diagnostics.proofs.things.add_operator.Goals as goal

pub returns : goal.returns
returns c =
    one_more c.args.set.now.kinds.items c.args.things.now.items c.push.new.self.items _ c.requires (c.has.ensures.0 c.if-not-has.false, tt)
    c.in_ok-push.ensures.items
