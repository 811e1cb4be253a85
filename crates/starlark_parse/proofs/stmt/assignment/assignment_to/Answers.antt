use Rattle.std.proofs.Common.{rules, refl, sym, arith}
use Rattle.starlark_parse_cursor.proofs.Paths.{exits}
use Rattle.starlark_parse.proofs.StmtLemmas.SmallStatements.{added, annotation_fails, sign_absent, right_fails, assignment_found, assignment_breaks}
use Rattle.starlark_parse.proofs.stmt.assignment.assignment_to.Goals as goal

pub returns-in_err-annotation-clause-parses : goal.returns-in_err-annotation-clause-parses
returns-in_err-annotation-clause-parses g c = λ d l f b. exits _ _ _ _ _ _ _ c.from_residual.ensures.1
    (annotation_fails d f c.requires.comes c.in_err-annotation.ensures.parses)

pub returns-in_err-operator-clause-parses : goal.returns-in_err-operator-clause-parses
returns-in_err-operator-clause-parses g c = λ d l f b.
    exits _ _ _ _ _ _ _ c.from_residual-in_err-operator.ensures.1
    (sign_absent d f c.requires.comes c.in_ok-annotation.ensures.parses c.in_err-operator.ensures.takes)

pub returns-in_err-right-clause-parses : goal.returns-in_err-right-clause-parses
returns-in_err-right-clause-parses g c = λ d l f b.
    let o = c.in_ok-operator.ensures.takes in
    exits _ _ _ _ _ _ _ c.from_residual-in_err-right.ensures.1
    (right_fails d f c.requires.comes c.in_ok-annotation.ensures.parses o.2 o.3 c.in_err-right.ensures.parses)

pub returns-in-Ok-clause-moves : goal.returns-in-Ok-clause-moves
returns-in-Ok-clause-moves g c = record {
  same_reference = search rules;
  ready = search rules;
  fewer = omega (arith, c.in_ok-annotation.ensures.moves.fewer, c.in_ok-operator.ensures.moves.fewer, c.in_ok-right.ensures.moves.fewer);
  later = omega (
    arith,
    c.in_ok-annotation.ensures.moves.later,
    c.in_ok-annotation.ensures.moves.ready.later,
    c.in_ok-operator.ensures.moves.later,
    c.in_ok-operator.ensures.moves.ready.later,
    c.in_ok-right.ensures.moves.later,
  );
}

pub returns-in-Ok-clause-parses : goal.returns-in-Ok-clause-parses
returns-in-Ok-clause-parses g c = λ d l f b.
    let o = c.in_ok-operator.ensures.takes in
    added _ c.in-Ok.ensures.means
    (assignment_found d f c.requires.comes c.in_ok-annotation.ensures.parses o.2 o.3 c.in_ok-right.ensures.parses l o.4 b (sym c.in-Ok.ensures.finds) refl)

pub returns-in-Err-clause-parses : goal.returns-in-Err-clause-parses
returns-in-Err-clause-parses g c = λ d l f b.
    let o = c.in_ok-operator.ensures.takes in
    assignment_breaks d f c.requires.comes c.in_ok-annotation.ensures.parses o.2 o.3 c.in_ok-right.ensures.parses l o.4 c.in-Err.error c.in-Err.ensures.finds
    c.unless_out_of_memory.ensures
