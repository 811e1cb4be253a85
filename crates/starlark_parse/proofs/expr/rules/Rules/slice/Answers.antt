use Rattle.starlark_parse_cursor.proofs.Paths.{gives_exits}
use Rattle.starlark_parse.proofs.ExprLemmas.Suffixes.{stop_fails, stop_found, step_fails, step_found}
use Rattle.starlark_parse.proofs.expr.rules.Rules.slice.Goals as goal

pub returns-in_err-stop-clause-parses : goal.returns-in_err-stop-clause-parses
returns-in_err-stop-clause-parses g c = gives_exits _ _ _ _ _ _ c.from_residual.ensures.1 (stop_fails c.in_err-stop.ensures.parses)

pub returns-in_default-clause-parses : goal.returns-in_default-clause-parses
returns-in_default-clause-parses g c = stop_found c.args.start c.in_ok-stop.stop c.in_ok-stop.ensures.parses c.in_default.ensures.takes

pub returns-in_err-step-clause-parses : goal.returns-in_err-step-clause-parses
returns-in_err-step-clause-parses g c =
    gives_exits _ _ _ _ _ _ c.from_residual-in_err-step.ensures.1
    (step_fails c.args.start c.in_ok-stop.stop c.in_ok-stop.ensures.parses c.in-Some.ensures.takes c.in_err-step.ensures.parses)

pub returns-clause-parses : goal.returns-clause-parses
returns-clause-parses g c =
    step_found c.args.start c.in_ok-stop.stop c.in_ok-stop.ensures.parses c.in-Some.ensures.takes c.in_ok-step.step c.in_ok-step.ensures.parses
