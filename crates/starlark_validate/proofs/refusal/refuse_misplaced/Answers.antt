use Rattle.std.proofs.Common.{Err, ap, refl}
use Rattle.starlark_validate.specs.TestResults.{at_fault}
use Rattle.starlark_validate.proofs.refusal.refuse_misplaced.Goals as goal

pub returns-then-is_misplaced : goal.returns-then-is_misplaced
returns-then-is_misplaced c = rw c.if-is_misplaced.true (at_fault _ (ap Err c.in_ok-new_spanned.ensures) refl)
