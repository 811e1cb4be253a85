use Rattle.std.proofs.Common.{Err, ap, refl}
use Rattle.starlark_validate.specs.TestResults.{at_fault}
use Rattle.starlark_validate.proofs.context.Tests.f_string.Goals as goal

pub returns : goal.returns
returns c = rw c.if-self.false (at_fault _ (ap Err c.in_ok-new_spanned.ensures) refl)
