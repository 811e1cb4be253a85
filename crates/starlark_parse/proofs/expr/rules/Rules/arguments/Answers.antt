use Rattle.std.proofs.Common.{rules, refl, arith}
use Rattle.starlark_parse_cursor.proofs.Paths.{gives_exits}
use Rattle.starlark_spec.specs.Grammar.ElementOf.{of_arguments}
use Rattle.starlark_parse.proofs.ExprLemmas.Lists.{none_added, added_fails, more_added, last_added, all_added}
use Rattle.starlark_parse.proofs.expr.rules.Rules.arguments.Goals as goal

pub listing-init : goal.listing-init
listing-init g c = record {
  same_reference = refl;
  ready = c.requires.ready;
  fewer = omega (arith);
  later = omega (arith);
  added = none_added _ _;
}

pub returns-in_err-argument-clause-parses : goal.returns-in_err-argument-clause-parses
returns-in_err-argument-clause-parses g c = gives_exits _ _ _ _ _ _ c.from_residual.ensures.1 (added_fails c.listing.invariant.added of_arguments tt
    (cc) c.in_err-argument.ensures.parses)

pub returns-in_default-clause-parses : goal.returns-in_default-clause-parses
returns-in_default-clause-parses g c = last_added c.listing.invariant.added of_arguments tt (cc) c.in_ok-argument.ensures.parses c.in_default.ensures.takes

pub listing-preserved : goal.listing-preserved
listing-preserved g c = record {
  same_reference = search rules;
  ready = search rules;
  fewer = omega (arith, c.listing.invariant.fewer, c.in_ok-argument.ensures.moves.fewer, c.in-Some.ensures.moves.fewer);
  later = omega (
    arith,
    c.listing.invariant.later,
    c.listing.invariant.ready.later,
    c.in_ok-argument.ensures.moves.later,
    c.in_ok-argument.ensures.moves.ready.later,
    c.in-Some.ensures.moves.later,
  );
  added = more_added c.listing.invariant.added of_arguments tt (cc) c.in_ok-argument.ensures.parses c.in-Some.ensures.takes;
}

pub returns-clause-parses : goal.returns-clause-parses
returns-clause-parses g c = all_added c.listing.invariant.added (cc)
