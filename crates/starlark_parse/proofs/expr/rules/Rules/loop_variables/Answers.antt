use Rattle.std.proofs.Common.{rules, refl, ap, ◌∙◌, arith}
use Rattle.starlark_lexer.specs.Tokens.{from_to}
use Rattle.starlark_spec.specs.Trees.{one_or_tuple}
use Rattle.starlark_parse_held.specs.Held.{expressions_in}
use Rattle.starlark_parse_cursor.specs.Reading.{at}
use Rattle.starlark_parse_cursor.proofs.Paths.{exits}
use Rattle.starlark_parse.specs.Expr.Contract.{after_trailing_comma}
use Rattle.starlark_parse.proofs.ExprLemmas.Checked.{wants_same}
use Rattle.starlark_parse.proofs.ExprLemmas.Variables.{first_due, variable_fails, variable_wants, variables_found, next_due, no_next}
use Rattle.starlark_parse.proofs.expr.rules.Rules.loop_variables.Goals as goal

pub listing-init : goal.listing-init
listing-init g c = record {
  same_reference = refl;
  ready = c.requires.ready;
  fewer = omega (arith);
  later = omega (arith);
  due = first_due _ c.new-variables.ensures;
}

pub returns-in_err-variable-clause-parses : goal.returns-in_err-variable-clause-parses
returns-in_err-variable-clause-parses g c = exits _ _ _ _ _ _ _ c.from_residual.ensures.1
    (variable_fails c.listing.invariant.due c.in_err-variable.ensures.parses)

pub returns-in_err-push-clause-parses : goal.returns-in_err-push-clause-parses
returns-in_err-push-clause-parses g c = exits _ _ _ _ _ _ _ c.from_residual-in_err-push.ensures.1
    (variable_wants c.listing.invariant.due c.in_ok-variable.variable c.in_ok-variable.ensures.parses)

pub returns-in_err-one_or_tuple-clause-parses : goal.returns-in_err-one_or_tuple-clause-parses
returns-in_err-one_or_tuple-clause-parses g c =
    exits _ _ _ _ _ _ _ c.from_residual-in_err-one_or_tuple.ensures.1
    (wants_same c.in_default.ensures.takes.1 (variable_wants c.listing.invariant.due c.in_ok-variable.variable c.in_ok-variable.ensures.parses))

pub returns-in_default-clause-parses : goal.returns-in_default-clause-parses
returns-in_default-clause-parses g c =
    variables_found c.listing.invariant.due c.in_ok-variable.variable c.in_ok-variable.ensures.parses c.in_ok-one_or_tuple.field-0 c.in_default.ensures.takes
    c.in_ok-push.ensures
    (c.in_ok-one_or_tuple.ensures ∙ ap (λ b. one_or_tuple (from_to b c.take_if.new.self.end.byte) (expressions_in c.push.new.self)) c.begin-begin.ensures)

pub returns-then-not-at_operand-clause-parses : goal.returns-then-not-at_operand-clause-parses
returns-then-not-at_operand-clause-parses g c =
    no_next c.listing.invariant.due c.in_ok-variable.variable c.in_ok-variable.ensures.parses c.in-Some.ensures.takes (cc)
    (c.no_variable.ensures ∙ ap (λ b. after_trailing_comma b (at c.take_if.new.self)) c.begin-begin.ensures)

pub listing-preserved : goal.listing-preserved
listing-preserved g c = record {
  same_reference = search rules;
  ready = search rules;
  fewer = omega (arith, c.listing.invariant.fewer, c.in_ok-variable.ensures.moves.fewer, c.in-Some.ensures.moves.fewer);
  later = omega (
    arith,
    c.listing.invariant.later,
    c.in_ok-variable.ensures.moves.later,
    c.in_ok-variable.ensures.moves.ready.later,
    c.in-Some.ensures.moves.later,
    c.in-Some.ensures.moves.ready.later,
  );
  due = next_due c.listing.invariant.due c.in_ok-variable.variable c.in_ok-variable.ensures.parses c.in-Some.ensures.takes (cc) c.in_ok-push.ensures;
}
