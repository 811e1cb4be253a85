use Rattle.std.proofs.Common.{rules, ◌++◌, [], ◌∷◌, refl, ap, ◌∙◌, arith}
use Rattle.starlark_spec.specs.Trees.{one_or_block}
use Rattle.starlark_parse_held.specs.Held.{statement_of, statements_in}
use Rattle.starlark_parse_cursor.specs.Reading.{begin_at, left_at}
use Rattle.starlark_parse_cursor.proofs.Looks.{same_spans}
use Rattle.starlark_parse_cursor.proofs.Paths.{exits}
use Rattle.starlark_parse.proofs.StmtLemmas.SimpleStatements.{smalls_as, next_small_fails, next_small, smalls_want, newline_absent, line_wants, line_found}
use Rattle.starlark_parse.proofs.StmtLemmas.SimpleStatements.{line_added, line_end_absent, line_end_wants, line_end_found}
use Rattle.starlark_parse.proofs.stmt.simple.after_first.Goals as goal

pub returns-in_err-statements-clause-parses : goal.returns-in_err-statements-clause-parses
returns-in_err-statements-clause-parses g c = λ before first start e b r. exits _ _ _ _ _ _ _ c.from_residual.ensures.1 (smalls_want r)

pub line-init : goal.line-init
line-init g c = record {
  same_reference = refl;
  ready = c.requires.ready;
  fewer = omega arith;
  later = omega arith;
  further = omega arith;
  around_is = λ before first e. (c.in_ok-statements.ensures before first e).0;
  smalls = λ before first start e b r. smalls_as r (c.in_ok-statements.ensures before first e).1;
}

pub line-preserved : goal.line-preserved
line-preserved g c = record {
  same_reference = search rules;
  ready = search rules;
  fewer = omega (arith, c.line.invariant.fewer, c.in-Some.ensures.moves.fewer, c.in_ok-small_statement.ensures.moves.fewer);
  later = omega (
    arith,
    c.line.invariant.later,
    c.line.invariant.ready.later,
    c.in-Some.ensures.moves.later,
    c.in-Some.ensures.moves.ready.later,
    c.in_ok-small_statement.ensures.moves.later,
  );
  further = omega (
    arith,
    c.line.invariant.further,
    c.in-Some.ensures.moves.later,
    c.in-Some.ensures.moves.ready.later,
    c.in_ok-small_statement.ensures.moves.later,
    c.in_ok-small_statement.ensures.moves.ready.later,
  );
  around_is = c.line.invariant.around_is;
  smalls = λ before first start e b r.
      next_small (c.line.invariant.smalls before first start e b r) c.in-Some.ensures.takes (cc) c.in_ok-small_statement.ensures.parses;
}

pub returns-in_err-_newline-clause-parses : goal.returns-in_err-_newline-clause-parses
returns-in_err-_newline-clause-parses g c = λ before first start e b r.
    exits _ _ _ _ _ _ _ c.from_residual-in_err-_newline.ensures.1
    (line_end_absent (c.line.invariant.smalls before first start e b r) c.in-Some.ensures.takes (cc) c.in_err-_newline.ensures.expects)

pub returns-then-not-at_small-clause-parses : goal.returns-then-not-at_small-clause-parses
returns-then-not-at_small-clause-parses g c = λ before first start e b r.
    line_added before (c.in_ok-push.ensures ∙ ap (λ ss. ss ++ statement_of c.in_ok-whole.whole ∷ []) (c.line.invariant.around_is before first e))
    (line_end_found (c.line.invariant.smalls before first start e b r) c.in-Some.ensures.takes (cc) c.in_ok-_newline.ensures.expects
    (c.in_ok-whole.ensures ∙ ap (λ s. one_or_block s (statements_in c.line.statements)) (same_spans b refl)))

pub returns-in_err-whole-clause-parses : goal.returns-in_err-whole-clause-parses
returns-in_err-whole-clause-parses g c = λ before first start e b r.
    exits _ _ _ _ _ _ _ c.from_residual-in_err-whole.ensures.1
    (line_end_wants (c.line.invariant.smalls before first start e b r) c.in-Some.ensures.takes (cc) c.in_ok-_newline.ensures.expects)

pub returns-in_err-push-clause-parses : goal.returns-in_err-push-clause-parses
returns-in_err-push-clause-parses g c = λ before first start e b r.
    exits _ _ _ _ _ _ _ c.from_residual-in_err-push.ensures.1
    (line_end_wants (c.line.invariant.smalls before first start e b r) c.in-Some.ensures.takes (cc) c.in_ok-_newline.ensures.expects)

pub returns-in_err-small_statement-clause-parses : goal.returns-in_err-small_statement-clause-parses
returns-in_err-small_statement-clause-parses g c = λ before first start e b r.
    exits _ _ _ _ _ _ _ c.from_residual-in_err-small_statement.ensures.1
    (next_small_fails (c.line.invariant.smalls before first start e b r) c.in-Some.ensures.takes (cc) c.in_err-small_statement.ensures.parses)

pub returns-in_err-_newline-2-clause-parses : goal.returns-in_err-_newline-2-clause-parses
returns-in_err-_newline-2-clause-parses g c = λ before first start e b r.
    exits _ _ _ _ _ _ _ c.from_residual-in_err-_newline-2.ensures.1
    (newline_absent (c.line.invariant.smalls before first start e b r) c.in_default.ensures.takes c.in_err-_newline-2.ensures.expects)

pub returns-clause-parses : goal.returns-clause-parses
returns-clause-parses g c = λ before first start e b r.
    line_added before (c.in_ok-push-2.ensures ∙ ap (λ ss. ss ++ statement_of c.in_ok-whole-2.whole ∷ []) (c.line.invariant.around_is before first e))
    (line_found (c.line.invariant.smalls before first start e b r) c.in_default.ensures.takes c.in_ok-_newline-2.ensures.expects
    (c.in_ok-whole-2.ensures ∙ ap (λ s. one_or_block s (statements_in c.line.statements)) (same_spans b refl)))

pub returns-in_err-whole-2-clause-parses : goal.returns-in_err-whole-2-clause-parses
returns-in_err-whole-2-clause-parses g c = λ before first start e b r.
    exits _ _ _ _ _ _ _ c.from_residual-in_err-whole-2.ensures.1
    (line_wants (c.line.invariant.smalls before first start e b r) c.in_default.ensures.takes c.in_ok-_newline-2.ensures.expects)

pub returns-in_err-push-2-clause-parses : goal.returns-in_err-push-2-clause-parses
returns-in_err-push-2-clause-parses g c = λ before first start e b r.
    exits _ _ _ _ _ _ _ c.from_residual-in_err-push-2.ensures.1
    (line_wants (c.line.invariant.smalls before first start e b r) c.in_default.ensures.takes c.in_ok-_newline-2.ensures.expects)

pub returns-then-not-at_small-clause-moves : goal.returns-then-not-at_small-clause-moves
returns-then-not-at_small-clause-moves g c = record {
  same_reference = search rules;
  ready = c.in_ok-_newline.ensures.moves.ready;
  fewer = omega (arith, c.line.invariant.fewer, c.in-Some.ensures.moves.fewer, c.in_ok-_newline.ensures.moves.fewer);
  later = omega (arith, c.line.invariant.further, c.in-Some.ensures.moves.later, c.in-Some.ensures.moves.ready.later, c.in_ok-_newline.ensures.moves.later);
}

pub returns-clause-moves : goal.returns-clause-moves
returns-clause-moves g c = record {
  same_reference = search rules;
  ready = c.in_ok-_newline-2.ensures.moves.ready;
  fewer = omega (arith, c.line.invariant.fewer, ap (left_at g.I.Iterator.remaining) c.in_default.ensures.takes.1, c.in_ok-_newline-2.ensures.moves.fewer);
  later = omega (arith, c.line.invariant.further, ap begin_at c.in_default.ensures.takes.1, c.in_ok-_newline-2.ensures.moves.later);
}
