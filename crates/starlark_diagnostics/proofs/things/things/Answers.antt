use Rattle.std.proofs.Common.{subst, sym, Vec, Global}
use Rattle.std.specs.List.{AllByRecursion}
use Rattle.starlark_diagnostics.specs.Stops.{IsIn}
use Rattle.starlark_diagnostics.specs.declared.thing.Thing.{Thing}
use Rattle.starlark_diagnostics.proofs.Expecting.{started}
use Rattle.starlark_diagnostics.proofs.things.things.Goals.{in-Some+in_ok-push, in_default}
use Rattle.starlark_diagnostics.proofs.things.things.Goals as goal

pub add_tokens-requires : goal.add_tokens-requires
add_tokens-requires c = elim c.match-start.branch [
  | in-Some+in_ok-push w ↦
      subst (λ (v : Vec Thing Global). AllByRecursion (IsIn c.args.set.now.kinds.items) v.items) (sym w.things-is)
      (started c.args.set.now.kinds.items c.start-start.result w.in-Some.start c.new-things.result.items w.push.new.self.items c.start-start.ensures
      w.in-Some.is c.new-things.ensures.items w.in_ok-push.ensures.items)
  | in_default w ↦
      subst (λ (v : Vec Thing Global). AllByRecursion (IsIn c.args.set.now.kinds.items) v.items) (sym w.things-is)
      (subst (AllByRecursion (IsIn c.args.set.now.kinds.items)) (sym c.new-things.ensures.items) tt)
]
