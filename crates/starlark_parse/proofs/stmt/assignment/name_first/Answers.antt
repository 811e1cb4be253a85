use Rattle.std.proofs.Common.{ap, ◌∙◌, arith}
use Rattle.starlark_lexer.specs.declared.span.Pos.{Pos}
use Rattle.starlark_tree.specs.Ast.{expression_span}
use Rattle.starlark_parse_cursor.proofs.Paths.{exits, begin_seen}
use Rattle.starlark_parse.proofs.StmtLemmas.SmallStatements.{list_fails, name_leaf, name_atom, name_wants}
use Rattle.starlark_parse.proofs.stmt.assignment.name_first.Goals as goal

pub returns-in-Some-clause-parses : goal.returns-in-Some-clause-parses
returns-in-Some-clause-parses g c = c.assigned_to_name.ensures.parses _ _ _ c.in_ok-name.ensures.takes c.in-Some.ensures.takes

pub returns-in_err-atom-clause-parses : goal.returns-in_err-atom-clause-parses
returns-in_err-atom-clause-parses g c =
    exits _ _ _ _ _ _ _ c.from_residual-in_err-atom.ensures.1 (name_wants c.in_ok-name.ensures.takes c.in_default.ensures.takes.1)

pub returns-in_err-list-clause-parses : goal.returns-in_err-list-clause-parses
returns-in_err-list-clause-parses g c =
    let u = c.in_ok-name.ensures.takes in
    exits _ _ _ _ _ _ _ c.from_residual-in_err-list.ensures.1
    (list_fails (c.in_err-list.ensures.parses _ (ap (λ (p : Pos). p.byte) c.begin-begin.ensures ∙ begin_seen u) (name_leaf u)
    (name_atom u c.in_ok-atom.atom c.in_default.ensures.takes.1 c.in_ok-atom.ensures)))

pub returns-clause-parses : goal.returns-clause-parses
returns-clause-parses g c =
    let u = c.in_ok-name.ensures.takes in
    let b = ap (λ (p : Pos). p.byte) c.begin-begin.ensures ∙ begin_seen u in
    c.after_list.ensures.parses _ b
    (c.in_ok-list.ensures.parses _ b (name_leaf u) (name_atom u c.in_ok-atom.atom c.in_default.ensures.takes.1 c.in_ok-atom.ensures))

pub test_list_after-requires-clause-ends : goal.test_list_after-requires-clause-ends
test_list_after-requires-clause-ends g c =
    omega (arith, ap (λ e. (expression_span e).end) c.in_ok-atom.ensures, c.in_ok-name.ensures.takes.end_is, ap (λ x. x.end) c.in_default.ensures.takes.1)
