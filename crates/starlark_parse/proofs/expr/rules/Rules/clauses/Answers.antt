use Rattle.std.proofs.Common.{rules, refl, arith}
use Rattle.starlark_parse_cursor.proofs.Paths.{exits}
use Rattle.starlark_parse.proofs.ExprLemmas.Comprehensions.{first_fails, first_wants, first_read, next_fails, next_wants, next_read, condition_fails}
use Rattle.starlark_parse.proofs.ExprLemmas.Comprehensions.{condition_wants, condition_read, clauses_found}
use Rattle.starlark_parse.proofs.expr.rules.Rules.clauses.Goals as goal

pub returns-in_err-first-clause-parses : goal.returns-in_err-first-clause-parses
returns-in_err-first-clause-parses g c = exits _ _ _ _ _ _ _ c.from_residual.ensures.1 (first_fails c.in_err-first.ensures.parses)

pub returns-in_err-clauses-clause-parses : goal.returns-in_err-clauses-clause-parses
returns-in_err-clauses-clause-parses g c = exits _ _ _ _ _ _ _ c.from_residual-in_err-clauses.ensures.1
    (first_wants c.in_ok-first.first c.in_ok-first.ensures.parses)

pub clauses-init : goal.clauses-init
clauses-init g c = record {
  same_reference = search rules;
  ready = search rules;
  fewer = c.in_ok-first.ensures.moves.fewer;
  later = c.in_ok-first.ensures.moves.later;
  read = first_read c.in_ok-first.first c.in_ok-first.ensures.parses _ c.in_ok-clauses.ensures;
}

pub returns-in_err-clause-clause-parses : goal.returns-in_err-clause-clause-parses
returns-in_err-clause-clause-parses g c = exits _ _ _ _ _ _ _ c.from_residual-in_err-clause.ensures.1
    (next_fails c.clauses.invariant.read (cc) c.in_err-clause.ensures.parses)

pub returns-in_err-push_for-clause-parses : goal.returns-in_err-push_for-clause-parses
returns-in_err-push_for-clause-parses g c =
    exits _ _ _ _ _ _ _ c.from_residual-in_err-push_for.ensures.1 (next_wants c.clauses.invariant.read (cc) c.in_ok-clause.clause c.in_ok-clause.ensures.parses)

pub clauses-preserved-then-at : goal.clauses-preserved-then-at
clauses-preserved-then-at g c = record {
  same_reference = search rules;
  ready = search rules;
  fewer = omega (arith, c.clauses.invariant.fewer, c.in_ok-clause.ensures.moves.fewer);
  later = omega (arith, c.clauses.invariant.later, c.clauses.invariant.ready.later, c.in_ok-clause.ensures.moves.later);
  read = next_read c.clauses.invariant.read (cc) c.in_ok-clause.clause c.in_ok-clause.ensures.parses _ c.in_ok-push_for.ensures;
}

pub returns-in_default-clause-parses : goal.returns-in_default-clause-parses
returns-in_default-clause-parses g c = clauses_found c.clauses.invariant.read c.clauses.clauses refl (cc) c.in_default.ensures.takes

pub returns-in_err-condition-clause-parses : goal.returns-in_err-condition-clause-parses
returns-in_err-condition-clause-parses g c =
    exits _ _ _ _ _ _ _ c.from_residual-in_err-condition.ensures.1
    (condition_fails c.clauses.invariant.read (cc) c.in-Some.ensures.takes c.in_err-condition.ensures.parses)

pub returns-in_err-push_if-clause-parses : goal.returns-in_err-push_if-clause-parses
returns-in_err-push_if-clause-parses g c =
    exits _ _ _ _ _ _ _ c.from_residual-in_err-push_if.ensures.1
    (condition_wants c.clauses.invariant.read (cc) c.in-Some.ensures.takes c.in_ok-condition.condition c.in_ok-condition.ensures.parses)

pub clauses-preserved : goal.clauses-preserved
clauses-preserved g c = record {
  same_reference = search rules;
  ready = search rules;
  fewer = omega (arith, c.clauses.invariant.fewer, c.in-Some.ensures.moves.fewer, c.in_ok-condition.ensures.moves.fewer);
  later = omega (
    arith,
    c.clauses.invariant.later,
    c.clauses.invariant.ready.later,
    c.in-Some.ensures.moves.later,
    c.in-Some.ensures.moves.ready.later,
    c.in_ok-condition.ensures.moves.later,
  );
  read = condition_read c.clauses.invariant.read (cc) c.in-Some.ensures.takes c.in_ok-condition.condition c.in_ok-condition.ensures.parses _
      c.in_ok-push_if.ensures;
}
