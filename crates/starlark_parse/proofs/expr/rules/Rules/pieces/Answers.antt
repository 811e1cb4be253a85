use Rattle.std.proofs.Common.{rules, ◌++◌, string_bytes, refl, ap, ◌∙◌, arith}
use Rattle.starlark_parse_cursor.proofs.Paths.{gives_exits}
use Rattle.starlark_parse_held.specs.Held.{expressions_in}
use Rattle.starlark_spec.specs.Trees.{doubled}
use Rattle.starlark_parse_cursor.specs.Reading.{begin_at, left_at}
use Rattle.starlark_parse.proofs.ExprLemmas.FStrings.{formats_same, no_pieces, one_text, hole_in_fails, one_hole, pieces_found, pieces_want}
use Rattle.starlark_parse.proofs.expr.rules.Rules.pieces.Goals as goal

pub reading-init : goal.reading-init
reading-init g c = record {
  same_reference = refl;
  ready = c.requires.ready;
  fewer = omega (arith);
  later = omega (arith);
  onward = omega (arith);
  pieces = no_pieces _ _ (formats_same c.new-format.ensures.text c.new-format.ensures.values);
}

pub reading-preserved-in-Some : goal.reading-preserved-in-Some
reading-preserved-in-Some g c = record {
  same_reference = search rules;
  ready = search rules;
  fewer = omega (arith, c.reading.invariant.fewer, c.in-Some.ensures.moves.fewer);
  later = omega (arith, c.reading.invariant.later, c.reading.invariant.ready.later, c.in-Some.ensures.moves.later);
  onward = omega (arith, c.reading.invariant.onward, c.in-Some.ensures.moves.later, c.in-Some.ensures.moves.ready.later);
  pieces = one_text c.reading.invariant.pieces _ c.in-Some.ensures.takes.1
      (formats_same (c.in_ok-push_text.ensures.text ∙ ap (λ x. string_bytes c.reading.format.text ++ doubled x) c.as_str.ensures.value)
      (ap expressions_in c.in_ok-push_text.ensures.values));
}

pub returns-in_default-take_if-clause-parses : goal.returns-in_default-take_if-clause-parses
returns-in_default-take_if-clause-parses g c = pieces_found c.reading.invariant.pieces c.in_default.ensures.takes c.in_default-take_if.ensures.takes

pub returns-in_err-push_text-clause-parses :
    goal.returns-in_err-push_text-clause-parses
returns-in_err-push_text-clause-parses g c = gives_exits _ _ _ _ _ _ c.from_residual.ensures.1
    (pieces_want (one_text c.reading.invariant.pieces _ c.in-Some.ensures.takes.1 refl))

pub returns-in_err-value-clause-parses : goal.returns-in_err-value-clause-parses
returns-in_err-value-clause-parses g c =
    gives_exits _ _ _ _ _ _ c.from_residual-in_err-value.ensures.1
    (hole_in_fails c.reading.invariant.pieces c.in_default.ensures.takes.1 c.in-Some-take_if.ensures.takes c.in_err-value.ensures.parses)

pub returns-in_err-push_value-clause-parses :
    goal.returns-in_err-push_value-clause-parses
returns-in_err-push_value-clause-parses g c =
    gives_exits _ _ _ _ _ _ c.from_residual-in_err-push_value.ensures.1
    (pieces_want (one_hole c.reading.invariant.pieces _ (c.in_ok-value.value, c.in_ok-value.conversion) c.in_default.ensures.takes.1
    c.in-Some-take_if.ensures.takes c.in_ok-value.ensures.parses refl))

pub reading-preserved : goal.reading-preserved
reading-preserved g c = record {
  same_reference = search rules;
  ready = search rules;
  fewer = omega (
    arith,
    c.reading.invariant.fewer,
    ap (left_at g.I.Iterator.remaining) c.in_default.ensures.takes.1,
    c.in-Some-take_if.ensures.moves.fewer,
    c.in_ok-value.ensures.moves.fewer,
  );
  later = omega (
    arith,
    c.reading.invariant.later,
    c.reading.invariant.ready.later,
    ap begin_at c.in_default.ensures.takes.1,
    c.in-Some-take_if.ensures.moves.later,
    c.in_ok-value.ensures.moves.ready.later,
    c.in_ok-value.ensures.moves.later,
  );
  onward = omega (
    arith,
    c.reading.invariant.onward,
    ap begin_at c.in_default.ensures.takes.1,
    c.in-Some-take_if.ensures.moves.later,
    c.in-Some-take_if.ensures.moves.ready.later,
    c.in_ok-value.ensures.moves.later,
    c.in_ok-value.ensures.moves.ready.later,
  );
  pieces = one_hole c.reading.invariant.pieces _ (c.in_ok-value.value, c.in_ok-value.conversion) c.in_default.ensures.takes.1 c.in-Some-take_if.ensures.takes
      c.in_ok-value.ensures.parses
      (formats_same c.in_ok-push_value.ensures.text c.in_ok-push_value.ensures.values);
}
