use Rattle.std.proofs.Common.{ap, ◌∙◌}
use Rattle.starlark_lexer.specs.declared.span.Pos.{Pos}
use Rattle.starlark_tree.specs.Views.{expression_of, word}
use Rattle.starlark_parse_cursor.proofs.Paths.{exits, begin_seen}
use Rattle.starlark_parse.specs.Stmt.Lines.{assigned_to}
use Rattle.starlark_parse.proofs.StmtLemmas.Leaves.{leaf_is_token, leaf_taken, leaf_kept, leaf_ends, leaf_wants, leaf_alone}
use Rattle.starlark_parse.proofs.StmtLemmas.SmallStatements.{added, memory_fails, assigned_fails, assigned_wants, assigned_found}
use Rattle.starlark_parse.proofs.stmt.assignment.leaf_assigned.Goals as goal

pub returns-in_default-clause-parses : goal.returns-in_default-clause-parses
returns-in_default-clause-parses g c = λ start middle sign u v. absurd (c.in_default.ensures.takes.1 (leaf_is_token _ c.requires.leaf))

pub leaf_tree-requires : goal.leaf_tree-requires
leaf_tree-requires g c = leaf_taken c.in-Some.ensures.takes c.requires.leaf

pub leaf_of-requires : goal.leaf_of-requires
leaf_of-requires g c = leaf_taken c.in-Some.ensures.takes c.requires.leaf

pub returns-in_err-add_assigned-clause-parses : goal.returns-in_err-add_assigned-clause-parses
returns-in_err-add_assigned-clause-parses g c = λ start middle sign u v.
    exits _ _ _ _ _ _ _ c.from_residual-in_err-add_assigned.ensures.1 (assigned_wants u v (leaf_alone c.in-Some.ensures.takes c.requires.leaf (cc)))

pub returns-then-at-clause-parses : goal.returns-then-at-clause-parses
returns-then-at-clause-parses g c = λ start middle sign u v.
    added _ c.in_ok-add_assigned.ensures
    (assigned_found u v (leaf_alone c.in-Some.ensures.takes c.requires.leaf (cc))
    (ap (λ x. assigned_to (word c.args.name) c.take.new.self.end.byte (expression_of x)) c.into_tree.ensures
    ∙ ap (assigned_to (word c.args.name) c.take.new.self.end.byte) c.in_ok-value.ensures))

pub returns-in_err-atom-clause-parses : goal.returns-in_err-atom-clause-parses
returns-in_err-atom-clause-parses g c = λ start middle sign u v.
    exits _ _ _ _ _ _ _ c.from_residual-in_err-atom.ensures.1
    (memory_fails c.in_err-atom.ensures (assigned_fails u v (leaf_wants c.in-Some.ensures.takes c.requires.leaf)))

pub returns-in_err-right-clause-parses : goal.returns-in_err-right-clause-parses
returns-in_err-right-clause-parses g c = λ start middle sign u v.
    let t = c.in-Some.ensures.takes in
    exits _ _ _ _ _ _ _ c.from_residual-in_err-right.ensures.1
    (assigned_fails u v (c.in_err-right.ensures.parses _ (ap (λ (p : Pos). p.byte) c.begin.ensures ∙ begin_seen t) c.requires.leaf
    (leaf_kept t c.requires.leaf c.in_ok-atom.atom c.in_ok-atom.ensures)))

pub returns-in_err-add_assigned-2-clause-parses : goal.returns-in_err-add_assigned-2-clause-parses
returns-in_err-add_assigned-2-clause-parses g c = λ start middle sign u v.
    let t = c.in-Some.ensures.takes in
    exits _ _ _ _ _ _ _ c.from_residual-in_err-add_assigned-2.ensures.1
    (assigned_wants u v (c.in_ok-right.ensures.parses _ (ap (λ (p : Pos). p.byte) c.begin.ensures ∙ begin_seen t) c.requires.leaf
    (leaf_kept t c.requires.leaf c.in_ok-atom.atom c.in_ok-atom.ensures)))

pub returns-clause-parses : goal.returns-clause-parses
returns-clause-parses g c = λ start middle sign u v.
    let t = c.in-Some.ensures.takes in
    added _ c.in_ok-add_assigned-2.ensures
    (assigned_found u v (c.in_ok-right.ensures.parses _ (ap (λ (p : Pos). p.byte) c.begin.ensures ∙ begin_seen t) c.requires.leaf
    (leaf_kept t c.requires.leaf c.in_ok-atom.atom c.in_ok-atom.ensures))
    (ap (λ x. assigned_to (word c.args.name) c.test_list_after.new.cursor.end.byte (expression_of x)) c.into_tree-2.ensures))

pub test_list_after-requires-clause-ends : goal.test_list_after-requires-clause-ends
test_list_after-requires-clause-ends g c = leaf_ends c.in-Some.ensures.takes c.requires.leaf c.in_ok-atom.atom c.in_ok-atom.ensures
