use Rattle.std.proofs.Common.{subst, sym, Vec, Global}
use Rattle.std.specs.List.{AllByRecursion}
use Rattle.starlark_diagnostics.specs.Stops.{IsIn}
use Rattle.starlark_diagnostics.specs.declared.thing.Thing.{Thing}
use Rattle.starlark_diagnostics.proofs.Expecting.{one_more}
use Rattle.starlark_diagnostics.proofs.things.add_tokens.Goals.{then-has+then-not-hides+in_ok-push, else-has}
use Rattle.starlark_diagnostics.proofs.things.add_tokens.Goals as goal

pub loop-kind-preserved : goal.loop-kind-preserved
loop-kind-preserved c = elim c.if-has.branch [
  | then-has+then-not-hides+in_ok-push w ↦
      subst (λ (v : Vec Thing Global). AllByRecursion (IsIn c.args.set.now.kinds.items) v.items) (sym w.things-is)
      (one_more c.args.set.now.kinds.items c.loop-kind.things.items w.push.new.self.items _ c.loop-kind.invariant (c.has.ensures.0 w.if-has.true, tt)
      w.in_ok-push.ensures.items)
  | else-has w ↦ subst (λ (v : Vec Thing Global). AllByRecursion (IsIn c.args.set.now.kinds.items) v.items) (sym w.things-is) c.loop-kind.invariant
]
