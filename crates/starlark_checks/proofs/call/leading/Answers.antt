use Rattle.std.proofs.Common.{◌≡◌, ◌∙◌, sym, arith}
use Rattle.std.proofs.lemmas.List.{take_more}
use Rattle.std.proofs.lemmas.List.Elements.{All-push}
use Rattle.starlark_tree.specs.Views.{argument_of}
use Rattle.starlark_checks.specs.Calls.{kind_of, IsOfKind}
use Rattle.starlark_checks.proofs.CallParts.{stops_at, stops_end}
use Rattle.starlark_checks.proofs.KindLemmas.{kinds_other, kinds_same}
use Rattle.starlark_checks.proofs.call.leading.Goals as goal

pub returns-then-ne-clause-stops : goal.returns-then-ne-clause-stops
returns-then-ne-clause-stops g c =
    rw c.loop-argument.invariant.counted
    (stops_at c.args.of c.args.args.now c.loop-argument.argument-index c.argument-item.result c.loop-argument-test.true c.argument-item.is
    (λ same. kinds_other c.kind.result c.args.of c.if-ne.ensures (c.kind.ensures ∙ same)))

pub loop-argument-preserved : goal.loop-argument-preserved
loop-argument-preserved g c =
    let next = take_more c.args.args.now c.loop-argument.argument-index c.argument-item.result c.loop-argument-test.true in
    let same : kind_of (argument_of c.argument-item.result) ≡ c.args.of = sym c.kind.ensures ∙ kinds_same c.kind.result c.args.of c.if-ne.ensures in
    let now = c.loop-argument.invariant.counted in
    record {
      counted = omega arith;
      all = rw (next, ← c.argument-item.is) (All-push (IsOfKind c.args.of) _ _ c.loop-argument.invariant.all same);
    }

pub returns-clause-all : goal.returns-clause-all
returns-clause-all g c = rw c.loop-argument.invariant.counted c.loop-argument.invariant.all

pub returns-then-ne-clause-within : goal.returns-then-ne-clause-within
returns-then-ne-clause-within g c = let now = c.loop-argument.invariant.counted in let before = c.loop-argument-test.true in omega (arith, now, before)

pub returns-then-ne-clause-all : goal.returns-then-ne-clause-all
returns-then-ne-clause-all g c = rw c.loop-argument.invariant.counted c.loop-argument.invariant.all

pub returns-clause-within : goal.returns-clause-within
returns-clause-within g c = let now = c.loop-argument.invariant.counted in let most = c.loop-argument.auto.argument-index-end in omega (arith, now, most)

pub returns-clause-stops : goal.returns-clause-stops
returns-clause-stops g c =
    rw c.loop-argument.invariant.counted (stops_end c.args.of c.args.args.now c.loop-argument.argument-index c.loop-argument-test.false)
