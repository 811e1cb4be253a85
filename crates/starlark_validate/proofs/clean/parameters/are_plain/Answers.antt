use Rattle.starlark_tree.specs.Views.{parameter_of}
use Rattle.starlark_checks.specs.Parameters.{entry_fault, is_plain}
use Rattle.starlark_validate.proofs.EntryClashes.{all_grows, first_grows}
use Rattle.starlark_validate.proofs.clean.parameters.are_plain.Goals as goal

pub loop-at-preserved : goal.loop-at-preserved
loop-at-preserved c = (
  all_grows parameter_of c.args.params.now c.loop-at.at c.index-params-at.result c.loop-at-test.true c.index-params-at.is is_plain c.loop-at.invariant.0
      (c.is_plain_after.ensures.plain c.if-not-is_plain_after.false),
  first_grows parameter_of c.args.params.now c.loop-at.at c.index-params-at.result c.loop-at-test.true c.index-params-at.is entry_fault c.loop-at.invariant.1
      (c.is_plain_after.ensures.fits c.if-not-is_plain_after.false),
)
