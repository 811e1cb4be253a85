use Rattle.std.proofs.Common.{refl, sym, ap, ◌∙◌}
use Rattle.starlark_tree.specs.Ast.{statement, Evaluate}
use Rattle.starlark_parse_held.specs.Held.{expression_of}
use Rattle.starlark_parse_cursor.proofs.Looks.{same_spans}
use Rattle.starlark_parse_cursor.proofs.Paths.{exits}
use Rattle.starlark_parse.specs.Stmt.Lines.{AddsSmall}
use Rattle.starlark_parse.proofs.StmtLemmas.SmallStatements.{added, list_wants, list_read, several_stick, single_found}
use Rattle.starlark_parse.proofs.stmt.assignment.after_list.Goals as goal

pub returns-then-assigns-clause-parses : goal.returns-then-assigns-clause-parses
returns-then-assigns-clause-parses g c = λ start b d.
    list_read d (λ v e. AddsSmall c.args.statements.now c.assignment_to.new.statements e) _ c.assignment_to.result b
    (c.assignment_to.ensures.parses d.derivation d.means.0 d.means.1 (λ rest. d.begin_is rest ∙ sym b))

pub returns-then-list-clause-parses : goal.returns-then-list-clause-parses
returns-then-list-clause-parses g c = λ start b d. several_stick d (cc) (cc) c.refusal.ensures

pub returns-in_err-expression_statement-clause-parses : goal.returns-in_err-expression_statement-clause-parses
returns-in_err-expression_statement-clause-parses g c = λ start b d. exits _ _ _ _ _ _ _ c.from_residual.ensures.1 (list_wants d)

pub returns-clause-parses : goal.returns-clause-parses
returns-clause-parses g c = λ start b d.
    added _ c.in_ok-expression_statement.ensures
    (single_found d (cc) (cc) (ap (λ s. statement s (Evaluate (expression_of c.args.list.expression))) (same_spans b refl)))
