use Rattle.std.proofs.Common.{rules, ap, arith}
use Rattle.starlark_parse_cursor.specs.Reading.{left_at}
use Rattle.starlark_parse_cursor.proofs.Paths.{gives_exits}
use Rattle.starlark_parse.proofs.StmtLemmas.Blocks.{first_fails, first_read, begun_wants, begun_at, line_read, next_fails, next_read, block_ends}
use Rattle.starlark_parse.proofs.stmt.compound.Statements.block.Goals as goal

pub returns-in_err-statement-clause-parses : goal.returns-in_err-statement-clause-parses
returns-in_err-statement-clause-parses g c = gives_exits _ _ _ _ _ _ c.from_residual.ensures.1
    (first_fails c.newlines.ensures.reads c.in_err-statement.ensures.parses)

pub reading-init : goal.reading-init
reading-init g c = record {
  same_reference = search rules;
  ready = search rules;
  fewer = omega (arith, c.newlines.ensures.moves.fewer, c.in_ok-statement.ensures.moves.fewer);
  later = omega (arith, c.newlines.ensures.moves.later, c.newlines.ensures.moves.ready.later, c.in_ok-statement.ensures.moves.later);
  begins = omega (arith, c.begin-begin.ensures, c.in_ok-statement.ensures.moves.later);
  begun = begun_at (first_read c.newlines.ensures.reads c.new-statements.ensures c.in_ok-statement.ensures.parses) c.begin-begin.ensures;
}

pub reading-preserved-in-Some : goal.reading-preserved-in-Some
reading-preserved-in-Some g c = record {
  same_reference = search rules;
  ready = search rules;
  fewer = omega (arith, c.reading.invariant.fewer, c.in-Some.ensures.moves.fewer);
  later = omega (arith, c.reading.invariant.later, c.reading.invariant.ready.later, c.in-Some.ensures.moves.later);
  begins = omega (arith, c.reading.invariant.begins, c.reading.invariant.ready.later, c.in-Some.ensures.moves.later);
  begun = line_read c.reading.invariant.begun c.in-Some.ensures.takes;
}

pub returns-in_err-statement-2-clause-parses : goal.returns-in_err-statement-2-clause-parses
returns-in_err-statement-2-clause-parses g c =
    gives_exits _ _ _ _ _ _ c.from_residual-in_err-statement-2.ensures.1
    (next_fails c.reading.invariant.begun c.in_default.ensures.takes (cc) c.in_err-statement-2.ensures.parses)

pub reading-preserved : goal.reading-preserved
reading-preserved g c = record {
  same_reference = search rules;
  ready = search rules;
  fewer = omega (arith, c.reading.invariant.fewer, ap (left_at g.I.Iterator.remaining) c.in_default.ensures.takes.1, c.in_ok-statement-2.ensures.moves.fewer);
  later = omega (
    arith,
    c.reading.invariant.later,
    ap (λ x. x.end) c.in_default.ensures.takes.1,
    c.in_default.ensures.moves.ready.later,
    c.in_ok-statement-2.ensures.moves.later,
  );
  begins = omega (
    arith,
    c.reading.invariant.begins,
    ap (λ x. x.end) c.in_default.ensures.takes.1,
    c.in_default.ensures.moves.ready.later,
    c.in_ok-statement-2.ensures.moves.later,
  );
  begun = next_read c.reading.invariant.begun c.in_default.ensures.takes (cc) c.in_ok-statement-2.ensures.parses;
}

pub returns-clause-moves : goal.returns-clause-moves
returns-clause-moves g c = record {
  same_reference = c.reading.invariant.same_reference;
  ready = c.reading.invariant.ready;
  fewer = c.reading.invariant.fewer;
  later = c.reading.invariant.later;
}

pub returns-clause-parses : goal.returns-clause-parses
returns-clause-parses g c = block_ends c.reading.invariant.begun c.in_ok-joined.field-0 (cc) c.in_ok-joined.ensures

pub returns-in_err-joined-clause-parses : goal.returns-in_err-joined-clause-parses
returns-in_err-joined-clause-parses g c = gives_exits _ _ _ _ _ _ c.from_residual-in_err-joined.ensures.1 (begun_wants c.reading.invariant.begun)
