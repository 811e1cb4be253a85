use Rattle.std.proofs.Common.{take, subst, sym, ◌+◌, reverse, Vec, Global}
use Rattle.starlark_lexer.specs.declared.kind.Kind.{Kind}
use Rattle.starlark_lexer.specs.declared.kind.Kind.TheVariants.{Identifier}
use Rattle.starlark_expected.specs.Words.{outcome}
use Rattle.starlark_expected.specs.MayFollow.{IsTook, Chosen, none_left}
use Rattle.starlark_expected.proofs.Members.{one_chosen, one_left, chosen_of_all}
use Rattle.starlark_expected.proofs.expected.following.Goals.{then-takes+in_ok-push, else-takes}
use Rattle.starlark_expected.proofs.expected.following.Goals as goal

pub loop-kind-preserved : goal.loop-kind-preserved
loop-kind-preserved c = elim c.if-takes.branch [
  | then-takes+in_ok-push w ↦
      subst (λ (v : Vec Kind Global). Chosen (λ kind. IsTook (outcome (reverse c.args.due.now.words.items) c.args.due.now.named kind))
      (take (c.loop-kind.kind-index + 1) c.args.all.now) v.items) (sym w.kinds-is)
      (one_chosen c.args.all.now c.loop-kind.kinds.items c.loop-kind.kind-index Identifier c.args.due.now.words.items c.deref.result.now c.args.due.now.named
      c.in_ok-ask.field-0 c.takes.result c.loop-kind-test.true c.deref.ensures.value c.in_ok-ask.ensures c.takes.ensures c.loop-kind.invariant
      w.push.new.self.items w.if-takes.true w.in_ok-push.ensures.items)
  | else-takes w ↦
      subst (λ (v : Vec Kind Global). Chosen (λ kind. IsTook (outcome (reverse c.args.due.now.words.items) c.args.due.now.named kind))
      (take (c.loop-kind.kind-index + 1) c.args.all.now) v.items) (sym w.kinds-is)
      (one_left c.args.all.now c.loop-kind.kinds.items c.loop-kind.kind-index Identifier c.args.due.now.words.items c.deref.result.now c.args.due.now.named
      c.in_ok-ask.field-0 c.takes.result c.loop-kind-test.true c.deref.ensures.value c.in_ok-ask.ensures c.takes.ensures c.loop-kind.invariant
      w.if-takes.false)
]

pub loop-kind-init : goal.loop-kind-init
loop-kind-init c = rw c.new-kinds.ensures.items none_left

pub returns : goal.returns
returns c =
    chosen_of_all (λ kind. IsTook (outcome (reverse c.args.due.now.words.items) c.args.due.now.named kind)) c.args.all.now c.loop-kind.kinds.items
    c.loop-kind.kind-index c.loop-kind-test.false c.loop-kind.invariant
