use Rattle.std.proofs.Common.{Err, ap, refl}
use Rattle.starlark_validate.specs.TestResults.{at_fault}
use Rattle.starlark_validate.proofs.TestSequences.{none_there}
use Rattle.starlark_validate.proofs.context.Tests.load.Goals as goal

pub returns : goal.returns
returns c = rw (none_there c.args.names.now c.if-not-is_empty.ensures) (at_fault _ (ap Err c.in_ok-new_spanned.ensures) refl)
