use Rattle.std.proofs.Common.{rules, refl, arith}
use Rattle.starlark_parse_cursor.proofs.Paths.{gives_exits}
use Rattle.starlark_parse.proofs.StmtLemmas.ParameterLists.{none_listed, listed_as, listed_more, next_fails, next_wants, last_listed, all_listed}
use Rattle.starlark_parse.proofs.stmt.parameter.parameters.Goals as goal

pub listing-init : goal.listing-init
listing-init g c = record {
  same_reference = refl;
  ready = c.requires.ready;
  fewer = omega (arith);
  later = omega (arith);
  listed = listed_as (none_listed _) c.new-parameters.ensures;
}

pub returns-in_err-parameter-clause-parses : goal.returns-in_err-parameter-clause-parses
returns-in_err-parameter-clause-parses g c =
    gives_exits _ _ _ _ _ _ c.from_residual.ensures.1 (next_fails c.listing.invariant.listed (cc) c.in_err-parameter.ensures.parses)

pub returns-in_err-push-clause-parses : goal.returns-in_err-push-clause-parses
returns-in_err-push-clause-parses g c =
    gives_exits _ _ _ _ _ _ c.from_residual-in_err-push.ensures.1
    (next_wants c.listing.invariant.listed (cc) c.in_ok-parameter.parameter c.in_ok-parameter.ensures.parses)

pub returns-in_default-clause-parses : goal.returns-in_default-clause-parses
returns-in_default-clause-parses g c =
    last_listed c.listing.invariant.listed (cc) c.in_ok-parameter.parameter c.in_ok-parameter.ensures.parses c.in_default.ensures.takes c.in_ok-push.ensures

pub listing-preserved : goal.listing-preserved
listing-preserved g c = record {
  same_reference = search rules;
  ready = search rules;
  fewer = omega (arith, c.listing.invariant.fewer, c.in_ok-parameter.ensures.moves.fewer, c.in-Some.ensures.moves.fewer);
  later = omega (
    arith,
    c.listing.invariant.later,
    c.listing.invariant.ready.later,
    c.in_ok-parameter.ensures.moves.later,
    c.in_ok-parameter.ensures.moves.ready.later,
    c.in-Some.ensures.moves.later,
  );
  listed = listed_as (listed_more c.listing.invariant.listed (cc) c.in_ok-parameter.parameter c.in_ok-parameter.ensures.parses c.in-Some.ensures.takes)
      c.in_ok-push.ensures;
}

pub returns-clause-parses : goal.returns-clause-parses
returns-clause-parses g c = all_listed c.listing.invariant.listed (cc)
