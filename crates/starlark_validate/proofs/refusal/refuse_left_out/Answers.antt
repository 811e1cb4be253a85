use Rattle.std.proofs.Common.{Err, ap, refl}
use Rattle.starlark_validate.specs.TestResults.{at_fault}
use Rattle.starlark_validate.proofs.refusal.refuse_left_out.Goals as goal

pub returns-then-is_left_out : goal.returns-then-is_left_out
returns-then-is_left_out c = rw c.if-is_left_out.true (at_fault _ (ap Err c.in_ok-new_spanned.ensures) refl)
