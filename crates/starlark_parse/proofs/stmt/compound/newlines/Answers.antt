use Rattle.std.proofs.Common.{rules, refl, arith}
use Rattle.starlark_parse.proofs.StmtLemmas.Blocks.{no_gap, gap_more, gap_read}
use Rattle.starlark_parse.proofs.stmt.compound.newlines.Goals as goal

pub reading-init : goal.reading-init
reading-init g c = record { same_reference = refl; ready = c.requires.ready; fewer = omega arith; later = omega arith; gap = no_gap _ }

pub reading-preserved : goal.reading-preserved
reading-preserved g c = record {
  same_reference = search rules;
  ready = search rules;
  fewer = omega (arith, c.reading.invariant.fewer, c.in-Some.ensures.moves.fewer);
  later = omega (arith, c.reading.invariant.later, c.reading.invariant.ready.later, c.in-Some.ensures.moves.later);
  gap = gap_more c.reading.invariant.gap c.in-Some.ensures.takes;
}

pub returns-clause-reads : goal.returns-clause-reads
returns-clause-reads g c = gap_read c.reading.invariant.gap c.in_default.ensures.takes
