use Rattle.std.proofs.Common.{sym, ◌∙◌}
use Rattle.starlark_parse_held.specs.Held.{expression_of}
use Rattle.starlark_parse_cursor.proofs.Paths.{exits}
use Rattle.starlark_parse.proofs.ExprLemmas.Checked.{found_wants}
use Rattle.starlark_parse.proofs.ExprLemmas.Arguments.{added, name_plain, is_no_name, no_name_alone, same_positional}
use Rattle.starlark_parse.proofs.ExprLemmas.AddedLeaves.{found_as}
use Rattle.starlark_parse.proofs.expr.rules.Rules.named.Goals as goal

pub returns-in-Ok-clause-parses : goal.returns-in-Ok-clause-parses
returns-in-Ok-clause-parses g c start b n d = c.value_of.ensures.parses _ start b n (found_as d (sym c.in-Ok.ensures ∙ d.means))

pub returns-in_err-push_positional-in-Err-clause-parses : goal.returns-in_err-push_positional-in-Err-clause-parses
returns-in_err-push_positional-in-Err-clause-parses g c start b n d =
    exits _ _ _ _ _ _ _ c.from_residual.ensures.1
    (found_wants (no_name_alone (name_plain _ n) (expression_of c.args.first) d (is_no_name d _ d.means c.in-Err.ensures.1) b))

pub returns-in_ok-push_positional-in-Err-clause-parses : goal.returns-in_ok-push_positional-in-Err-clause-parses
returns-in_ok-push_positional-in-Err-clause-parses g c start b n d =
    added _ (same_positional _ _ c.in_ok-push_positional-in-Err.ensures c.in-Err.ensures.0)
    (no_name_alone (name_plain _ n) (expression_of c.args.first) d (is_no_name d _ d.means c.in-Err.ensures.1) b)
