use Rattle.std.proofs.Common.{sym, ap, ◌∙◌}
use Rattle.starlark_tree.specs.Views.{shape_seen}
use Rattle.starlark_validate.specs.Walks.InText.{own_kept}
use Rattle.starlark_validate.proofs.NodeFaults.{call_own, f_string_own, nothing_own}
use Rattle.starlark_validate.proofs.TestSequences.{nothing, of_faults}
use Rattle.starlark_validate.proofs.context.Tests.expr_itself.Goals as goal

pub returns-in-Call : goal.returns-in-Call
returns-in-Call c =
    of_faults (call_own c.args.self.now.dialect c.in-Call.field-0 c.in-Call.args
    ∙ sym (ap (λ e. own_kept c.args.self.now.dialect (shape_seen e)) c.in-Call.is)) c.arguments.ensures

pub returns-in-FString : goal.returns-in-FString
returns-in-FString c =
    of_faults (f_string_own c.args.self.now.dialect c.in-FString.f_string ∙ sym (ap (λ e. own_kept c.args.self.now.dialect (shape_seen e)) c.in-FString.is))
    c.f_string.ensures

pub returns-in_default : goal.returns-in_default
returns-in_default c = of_faults (nothing_own c.args.self.now.dialect c.args.expr.now c.in_default.not-Call c.in_default.not-FString) nothing
