use Rattle.std.proofs.Common.{rules, refl, ap, arith}
use Rattle.starlark_parse_cursor.specs.Reading.{begin_at}
use Rattle.starlark_parse_cursor.proofs.Paths.{gives_exits}
use Rattle.starlark_parse_held.specs.Held.{parameter_of}
use Rattle.starlark_spec.specs.Grammar.ElementOf.{of_lambda_parameters}
use Rattle.starlark_parse.proofs.ExprLemmas.Lists.{none_given, given_as, given_more, next_fails, last_given, all_given, item_wants}
use Rattle.starlark_parse.proofs.expr.rules.Rules.parameters.Goals as goal

pub listing-init : goal.listing-init
listing-init g c = record {
  same_reference = refl;
  ready = c.requires.ready;
  fewer = omega (arith);
  later = omega (arith);
  onward = omega (arith);
  given = given_as (none_given _) c.new-parameters.ensures;
}

pub returns-in_err-parameter-clause-parses :
    goal.returns-in_err-parameter-clause-parses
returns-in_err-parameter-clause-parses g c =
    gives_exits _ _ _ _ _ _ c.from_residual.ensures.1 (next_fails of_lambda_parameters tt c.listing.invariant.given (cc) c.in_err-parameter.ensures.parses)

pub returns-in_err-push-clause-parses :
    goal.returns-in_err-push-clause-parses
returns-in_err-push-clause-parses g c =
    let d = c.in_ok-parameter.ensures.parses in
    gives_exits _ _ _ _ _ _ c.from_residual-in_err-push.ensures.1 (item_wants of_lambda_parameters tt c.listing.invariant.given (cc)
    (parameter_of c.in_ok-parameter.parameter) d d.means)

pub returns-in_default-clause-parses :
    goal.returns-in_default-clause-parses
returns-in_default-clause-parses g c =
    let d = c.in_ok-parameter.ensures.parses in
    last_given of_lambda_parameters tt c.listing.invariant.given (cc) (parameter_of c.in_ok-parameter.parameter) d d.means c.in_default.ensures.takes
    c.in_ok-push.ensures

pub returns-in_default-clause-onward :
    goal.returns-in_default-clause-onward
returns-in_default-clause-onward g c = omega (
  arith,
  c.listing.invariant.onward,
  ap begin_at c.in_default.ensures.takes.1,
  c.in_ok-parameter.ensures.moves.later,
  c.in_ok-parameter.ensures.moves.ready.later,
)

pub listing-preserved : goal.listing-preserved
listing-preserved g c =
    let d = c.in_ok-parameter.ensures.parses in
    record {
      same_reference = search rules;
      ready = search rules;
      fewer = omega (arith, c.listing.invariant.fewer, c.in_ok-parameter.ensures.moves.fewer, c.in-Some.ensures.moves.fewer);
      later = omega (
        arith,
        c.listing.invariant.later,
        c.listing.invariant.ready.later,
        c.in_ok-parameter.ensures.moves.later,
        c.in_ok-parameter.ensures.moves.ready.later,
        c.in-Some.ensures.moves.later,
      );
      onward = omega (
        arith,
        c.listing.invariant.onward,
        c.in_ok-parameter.ensures.moves.later,
        c.in_ok-parameter.ensures.moves.ready.later,
        c.in-Some.ensures.moves.later,
        c.in-Some.ensures.moves.ready.later,
      );
      given = given_as (given_more of_lambda_parameters tt c.listing.invariant.given (cc) (parameter_of c.in_ok-parameter.parameter) d d.means
          c.in-Some.ensures.takes)
          c.in_ok-push.ensures;
    }

pub returns-clause-parses : goal.returns-clause-parses
returns-clause-parses g c = all_given c.listing.invariant.given (cc)
