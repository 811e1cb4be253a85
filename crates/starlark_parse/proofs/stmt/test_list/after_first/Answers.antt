use Rattle.std.proofs.Common.{rules, ◌++◌, [], ◌∷◌, refl, ap, ◌∙◌, arith}
use Rattle.starlark_lexer.specs.declared.span.Pos.{Pos}
use Rattle.starlark_spec.specs.Trees.{tuple}
use Rattle.starlark_parse_held.specs.Held.{expression_of}
use Rattle.starlark_parse_cursor.proofs.Looks.{same_spans}
use Rattle.starlark_parse_cursor.proofs.Paths.{exits}
use Rattle.starlark_parse.proofs.StmtLemmas.TestLists.{one_found, one_element, elements_as, elements_want, next_fails, more_wants, more_elements}
use Rattle.starlark_parse.proofs.StmtLemmas.TestLists.{several_want, several_found, comma_breaks}
use Rattle.starlark_parse.proofs.stmt.test_list.after_first.Goals as goal

pub returns-in_default-clause-parses : goal.returns-in_default-clause-parses
returns-in_default-clause-parses g c = λ start b d. one_found d c.in_default.ensures.takes

pub returns-in_err-push-clause-parses : goal.returns-in_err-push-clause-parses
returns-in_err-push-clause-parses g c = λ start b d. exits _ _ _ _ _ _ _ c.from_residual.ensures.1 (elements_want (one_element d c.in-Some.ensures.takes))

pub listing-init : goal.listing-init
listing-init g c = record {
  same_reference = search rules;
  ready = search rules;
  fewer = omega (arith, c.in-Some.ensures.moves.fewer);
  later = omega (arith, c.in-Some.ensures.moves.later, c.requires.ready.later);
  elements = λ start b d.
      elements_as (one_element d c.in-Some.ensures.takes) (c.in_ok-push.ensures ∙ ap (λ xs. xs ++ expression_of c.args.first ∷ []) c.new-elements.ensures);
}

pub returns-in_err-element-clause-parses : goal.returns-in_err-element-clause-parses
returns-in_err-element-clause-parses g c = λ start b d.
    exits _ _ _ _ _ _ _ c.from_residual-in_err-element.ensures.1 (next_fails (c.listing.invariant.elements start b d) (cc) c.in_err-element.ensures.parses)

pub returns-in_err-push-2-clause-parses : goal.returns-in_err-push-2-clause-parses
returns-in_err-push-2-clause-parses g c = λ start b d.
    exits _ _ _ _ _ _ _ c.from_residual-in_err-push-2.ensures.1 (more_wants (c.listing.invariant.elements start b d) (cc) c.in_ok-element.ensures.parses)

pub listing-preserved : goal.listing-preserved
listing-preserved g c = record {
  same_reference = search rules;
  ready = search rules;
  fewer = omega (arith, c.listing.invariant.fewer, c.in_ok-element.ensures.moves.fewer, c.in-Some-take_if.ensures.moves.fewer);
  later = omega (
    arith,
    c.listing.invariant.later,
    c.in_ok-element.ensures.moves.later,
    c.in-Some-take_if.ensures.moves.later,
    c.in_ok-element.ensures.moves.ready.later,
    c.listing.invariant.ready.later,
  );
  elements = λ start b d.
      elements_as (more_elements (c.listing.invariant.elements start b d) (cc) c.in_ok-element.ensures.parses c.in-Some-take_if.ensures.takes)
      c.in_ok-push-2.ensures;
}

pub returns-in_default-take_if-clause-parses : goal.returns-in_default-take_if-clause-parses
returns-in_default-take_if-clause-parses g c = λ start b d.
    several_found (c.listing.invariant.elements start b d) (cc) c.in_ok-element.ensures.parses c.in_default-take_if.ensures.takes
    (c.in_ok-tuple.ensures ∙ ap (tuple _) c.in_ok-push-2.ensures) (same_spans b refl)

pub returns-in_err-tuple-clause-parses : goal.returns-in_err-tuple-clause-parses
returns-in_err-tuple-clause-parses g c = λ start b d.
    exits _ _ _ _ _ _ _ c.from_residual-in_err-tuple.ensures.1
    (several_want (c.listing.invariant.elements start b d) (cc) c.in_ok-element.ensures.parses c.in_default-take_if.ensures.takes.1)

pub returns-clause-parses : goal.returns-clause-parses
returns-clause-parses g c = λ start b d.
    comma_breaks (c.listing.invariant.elements start b d) (cc)
    (same_spans (ap (λ (p : Pos). p.byte) c.new-span.ensures.begin ∙ b) (ap (λ (p : Pos). p.byte) c.new-span.ensures.end)) c.broken.ensures
