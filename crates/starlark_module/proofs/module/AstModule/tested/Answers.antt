use Rattle.starlark_module.proofs.Found.{handed_on}
use Rattle.starlark_module.proofs.module.AstModule.tested.Goals as goal

pub returns-in_err-validate-clause-tested : goal.returns-in_err-validate-clause-tested
returns-in_err-validate-clause-tested c = handed_on c.from_residual.result c.from_residual.ensures.1 c.in_err-validate.ensures
