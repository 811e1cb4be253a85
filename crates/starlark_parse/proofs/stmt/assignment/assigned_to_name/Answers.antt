use Rattle.std.proofs.Common.{ap}
use Rattle.starlark_tree.specs.Views.{expression_of, word}
use Rattle.starlark_parse_cursor.proofs.Paths.{exits}
use Rattle.starlark_parse.specs.Stmt.Lines.{assigned_to}
use Rattle.starlark_parse.proofs.StmtLemmas.SmallStatements.{added, assigned_fails, assigned_wants, assigned_found}
use Rattle.starlark_parse.proofs.stmt.assignment.assigned_to_name.Goals as goal

pub returns-in_err-right-clause-parses : goal.returns-in_err-right-clause-parses
returns-in_err-right-clause-parses g c = λ start middle sign u v. exits _ _ _ _ _ _ _ c.from_residual.ensures.1
    (assigned_fails u v c.in_err-right.ensures.parses)

pub returns-in_err-add_assigned-clause-parses : goal.returns-in_err-add_assigned-clause-parses
returns-in_err-add_assigned-clause-parses g c = λ start middle sign u v.
    exits _ _ _ _ _ _ _ c.from_residual-in_err-add_assigned.ensures.1 (assigned_wants u v c.in_ok-right.ensures.parses)

pub returns-clause-parses : goal.returns-clause-parses
returns-clause-parses g c = λ start middle sign u v.
    added _ c.in_ok-add_assigned.ensures
    (assigned_found u v c.in_ok-right.ensures.parses
    (ap (λ x. assigned_to (word c.args.name) c.test_list.new.cursor.end.byte (expression_of x)) c.into_tree.ensures))
