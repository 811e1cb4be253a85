use Rattle.std.proofs.Common.{rules, ◌++◌, [], ◌∷◌, refl, ap, ◌∙◌, arith}
use Rattle.starlark_parse_held.specs.Held.{pair_of}
use Rattle.starlark_spec.specs.Grammar.ElementOf.{of_entries}
use Rattle.starlark_parse_cursor.proofs.Paths.{gives_exits}
use Rattle.starlark_parse.proofs.ExprLemmas.Lists.{Given.some, gathered, gathers_entry, gathers_more, next_fails, no_entry, first_entry_fails, one_entry}
use Rattle.starlark_parse.proofs.ExprLemmas.Lists.{last_entry, comma_entries, comma_wants, item_wants}
use Rattle.starlark_parse.proofs.expr.rules.Rules.entries.Goals as goal

pub returns-then-not-at_test-clause-parses : goal.returns-then-not-at_test-clause-parses
returns-then-not-at_test-clause-parses g c = no_entry c.new-entries.result (cc) c.new-entries.ensures

pub returns-in_err-key-clause-parses : goal.returns-in_err-key-clause-parses
returns-in_err-key-clause-parses g c = gives_exits _ _ _ _ _ _ c.from_residual.ensures.1 (first_entry_fails (cc) c.in_err-key.ensures.parses)

pub returns-in_default-clause-parses : goal.returns-in_default-clause-parses
returns-in_default-clause-parses g c = one_entry (cc) (c.in_ok-key.key, c.in_ok-key.value) c.in_ok-key.ensures.parses c.in_default.ensures.takes

pub returns-in_err-push-clause-parses : goal.returns-in_err-push-clause-parses
returns-in_err-push-clause-parses g c =
    gives_exits _ _ _ _ _ _ c.from_residual-in_err-push.ensures.1
    (comma_wants (gathers_entry (cc) (c.in_ok-key.key, c.in_ok-key.value) c.in_ok-key.ensures.parses c.in-Some.ensures.takes))

pub listing-init : goal.listing-init
listing-init g c = record {
  same_reference = search rules;
  ready = search rules;
  fewer = omega (arith, c.in_ok-key.ensures.moves.fewer, c.in-Some.ensures.moves.fewer);
  later = omega (arith, c.in_ok-key.ensures.moves.later, c.in-Some.ensures.moves.later, c.in_ok-key.ensures.moves.ready.later);
  gathers = gathered (gathers_entry (cc) (c.in_ok-key.key, c.in_ok-key.value) c.in_ok-key.ensures.parses c.in-Some.ensures.takes)
      (c.in_ok-push.ensures ∙ ap (λ xs. xs ++ pair_of (c.in_ok-key.key, c.in_ok-key.value) ∷ []) c.new-entries.ensures);
}

pub returns-in_err-key-2-clause-parses : goal.returns-in_err-key-2-clause-parses
returns-in_err-key-2-clause-parses g c =
    gives_exits _ _ _ _ _ _ c.from_residual-in_err-key-2.ensures.1 (next_fails of_entries tt (some c.listing.invariant.gathers)
    (cc) c.in_err-key-2.ensures.parses)

pub returns-in_err-push-2-clause-parses : goal.returns-in_err-push-2-clause-parses
returns-in_err-push-2-clause-parses g c =
    let d = c.in_ok-key-2.ensures.parses in
    gives_exits _ _ _ _ _ _ c.from_residual-in_err-push-2.ensures.1 (item_wants of_entries tt (some c.listing.invariant.gathers) (cc)
    (pair_of (c.in_ok-key-2.key, c.in_ok-key-2.value)) d d.means)

pub listing-preserved : goal.listing-preserved
listing-preserved g c =
    let d = c.in_ok-key-2.ensures.parses in
    record {
      same_reference = search rules;
      ready = search rules;
      fewer = omega (arith, c.listing.invariant.fewer, c.in_ok-key-2.ensures.moves.fewer, c.in-Some-take_if.ensures.moves.fewer);
      later = omega (
        arith,
        c.listing.invariant.later,
        c.in_ok-key-2.ensures.moves.later,
        c.in-Some-take_if.ensures.moves.later,
        c.in_ok-key-2.ensures.moves.ready.later,
        c.listing.invariant.ready.later,
      );
      gathers = gathered (gathers_more of_entries tt (some c.listing.invariant.gathers) (cc) (pair_of (c.in_ok-key-2.key, c.in_ok-key-2.value)) d d.means
          c.in-Some-take_if.ensures.takes) c.in_ok-push-2.ensures;
    }

pub returns-in_default-take_if-clause-parses : goal.returns-in_default-take_if-clause-parses
returns-in_default-take_if-clause-parses g c =
    last_entry c.listing.invariant.gathers c.push-in-listing.new.self (c.in_ok-key-2.key, c.in_ok-key-2.value) (cc) c.in_ok-key-2.ensures.parses
    c.in_default-take_if.ensures.takes c.in_ok-push-2.ensures

pub returns-clause-parses : goal.returns-clause-parses
returns-clause-parses g c = comma_entries c.listing.invariant.gathers c.listing.entries (cc) refl
