use Rattle.std.proofs.Common.{map, take}
use Rattle.starlark_tree.specs.Views.{argument_of}
use Rattle.starlark_checks.specs.Calls.{argument_fault}
use Rattle.starlark_validate.proofs.EntryClashes.{first_grows, unclashing}
use Rattle.starlark_validate.proofs.clean.arguments.are_in_order.Goals as goal

pub loop-at-preserved : goal.loop-at-preserved
loop-at-preserved c =
    first_grows argument_of c.args.args.now c.loop-at.at c.index-args-at.result c.loop-at-test.true c.index-args-at.is argument_fault c.loop-at.invariant
    (unclashing (map argument_of (take c.loop-at.at c.args.args.now)) (argument_of c.index-args-at.result)
    (c.clashes_with_any.ensures c.if-clashes_with_any.false))
