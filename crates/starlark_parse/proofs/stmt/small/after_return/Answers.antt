use Rattle.std.proofs.Common.{Some, refl, ap}
use Rattle.starlark_lexer.specs.Tokens.{from_to}
use Rattle.starlark_lexer.specs.declared.span.Pos.{Pos}
use Rattle.starlark_tree.specs.Ast.{statement, Return}
use Rattle.starlark_parse_held.specs.Held.{expression_of}
use Rattle.starlark_parse_cursor.proofs.Paths.{exits}
use Rattle.starlark_parse.proofs.StmtLemmas.SmallStatements.{added, no_value_found, return_wants, value_fails, value_wants, value_found}
use Rattle.starlark_parse.proofs.stmt.small.after_return.Goals as goal

pub returns-in_err-value-clause-parses : goal.returns-in_err-value-clause-parses
returns-in_err-value-clause-parses g c = exits _ _ _ _ _ _ _ c.from_residual-in_err-value.ensures.1 (value_fails (cc) c.in_err-value.ensures.parses)

pub returns-in_err-return_statement-clause-parses : goal.returns-in_err-return_statement-clause-parses
returns-in_err-return_statement-clause-parses g c = exits _ _ _ _ _ _ _ c.from_residual.ensures.1 return_wants

pub returns-then-not-at_test-clause-parses : goal.returns-then-not-at_test-clause-parses
returns-then-not-at_test-clause-parses g c =
    added _ c.in_ok-return_statement.ensures (no_value_found (ap (λ (p : Pos). p.byte) c.requires.keyword) (cc) refl)

pub returns-in_err-return_value-clause-parses : goal.returns-in_err-return_value-clause-parses
returns-in_err-return_value-clause-parses g c = exits _ _ _ _ _ _ _ c.from_residual-in_err-return_value.ensures.1
    (value_wants (cc) c.in_ok-value.ensures.parses)

pub returns-clause-parses : goal.returns-clause-parses
returns-clause-parses g c =
    added _ c.in_ok-return_value.ensures (value_found (cc) c.in_ok-value.ensures.parses
    (ap (λ (p : Pos). statement (from_to p.byte c.test_list.new.cursor.end.byte) (Return (Some (expression_of c.in_ok-value.value.expression))))
    c.begin.ensures))
