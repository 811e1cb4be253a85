use Rattle.std.proofs.Common.{rules, refl, arith}
use Rattle.starlark_spec.specs.Grammar.ElementOf.{of_elements}
use Rattle.starlark_spec.specs.Trees.{tree}
use Rattle.starlark_parse_cursor.proofs.Paths.{gives_exits}
use Rattle.starlark_parse.proofs.ExprLemmas.Lists.{Given.some, none_given, gathered, gathers_more, next_fails, many_found, comma_found}
use Rattle.starlark_parse.proofs.expr.rules.Rules.more_tests.Goals as goal

pub listing-init : goal.listing-init
listing-init g c = record {
  same_reference = search rules;
  ready = search rules;
  fewer = omega (arith, c.in_ok-expect.ensures.moves.fewer);
  later = omega (arith, c.in_ok-expect.ensures.moves.later);
  gathers = λ e h start s d. gathered (gathers_more of_elements tt (none_given start) s e d d.means c.in_ok-expect.ensures.expects) h;
}

pub returns-in_err-element-clause-parses : goal.returns-in_err-element-clause-parses
returns-in_err-element-clause-parses g c e h start s d =
    gives_exits _ _ _ _ _ _ c.from_residual-in_err-element.ensures.1 (next_fails of_elements tt (some (c.listing.invariant.gathers e h start s d))
    (cc) c.in_err-element.ensures.parses)

pub listing-preserved : goal.listing-preserved
listing-preserved g c =
    let x = c.in_ok-element.ensures.parses in
    record {
      same_reference = search rules;
      ready = search rules;
      fewer = omega (arith, c.listing.invariant.fewer, c.in_ok-element.ensures.moves.fewer, c.in-Some.ensures.moves.fewer);
      later = omega (
        arith,
        c.listing.invariant.later,
        c.in_ok-element.ensures.moves.later,
        c.in-Some.ensures.moves.later,
        c.in_ok-element.ensures.moves.ready.later,
        c.listing.invariant.ready.later,
      );
      gathers = λ e h start s d. gathered (gathers_more of_elements tt (some (c.listing.invariant.gathers e h start s d)) (cc) (tree x.derivation) x refl
          c.in-Some.ensures.takes) x.means;
    }

pub returns-in_default-clause-parses : goal.returns-in_default-clause-parses
returns-in_default-clause-parses g c e h start s d =
    many_found (c.listing.invariant.gathers e h start s d) c.element.new.elements (cc) c.in_ok-element.ensures.parses c.in_default.ensures.takes

pub returns-clause-parses : goal.returns-clause-parses
returns-clause-parses g c e h start s d = comma_found c.listing.elements (c.listing.invariant.gathers e h start s d) (cc)
