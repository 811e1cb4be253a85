use Rattle.starlark_parse_cursor.proofs.Paths.{exits}
use Rattle.starlark_parse.proofs.ExprLemmas.Entries.{key_fails, no_value, value_fails as entry_value_fails, entry_found}
use Rattle.starlark_parse.proofs.expr.rules.Rules.entry.Goals as goal

pub returns-in_err-key-clause-parses : goal.returns-in_err-key-clause-parses
returns-in_err-key-clause-parses g c = exits _ _ _ _ _ _ _ c.from_residual.ensures.1 (key_fails c.in_err-key.ensures.parses)

pub returns-in_err-expect-clause-parses : goal.returns-in_err-expect-clause-parses
returns-in_err-expect-clause-parses g c =
    exits _ _ _ _ _ _ _ c.from_residual-in_err-expect.ensures.1 (no_value c.in_ok-key.key c.in_ok-key.ensures.parses c.in_err-expect.ensures.expects)

pub returns-in_err-value-clause-parses : goal.returns-in_err-value-clause-parses
returns-in_err-value-clause-parses g c =
    exits _ _ _ _ _ _ _ c.from_residual-in_err-value.ensures.1 (entry_value_fails c.in_ok-key.key c.in_ok-key.ensures.parses c.in_ok-expect.ensures.expects
    c.in_err-value.ensures.parses)

pub returns-clause-parses : goal.returns-clause-parses
returns-clause-parses g c = entry_found c.in_ok-key.key c.in_ok-key.ensures.parses c.in_ok-expect.ensures.expects c.in_ok-value.value
    c.in_ok-value.ensures.parses
