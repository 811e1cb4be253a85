use Rattle.std.proofs.Common.{map}
use Rattle.starlark_tree.specs.Views.{argument_of}
use Rattle.starlark_checks.specs.Calls.{call_fault}
use Rattle.starlark_validate.proofs.TestSequences.{refused_so, same_err}
use Rattle.starlark_validate.proofs.context.Tests.arguments.Goals as goal

pub returns-in_err-unpack : goal.returns-in_err-unpack
returns-in_err-unpack c =
    rw (same_err c.from_residual.result c.in_err-unpack.field-0.0 c.from_residual.ensures.1)
    (refused_so (call_fault (map argument_of c.args.args.now.args.items)) _ c.in_err-unpack.ensures.err)
