use Rattle.std.proofs.Common.{rules, ◌≡◌, Some, unwrap_or, option_map, refl, sym, ap, ◌∙◌, arith}
use Rattle.starlark_lexer.specs.declared.span.Pos.{Pos}
use Rattle.starlark_parse_held.specs.Held.{statements_in}
use Rattle.starlark_parse.proofs.StmtLemmas.Modules.{no_statements_yet, newline_read, statement_fails, statement_read, statements_want, module_found, unwraps}
use Rattle.starlark_parse.proofs.StmtLemmas.Modules.{begins_before, stays_before, first_before, restated, joined_is, module_exits}
use Rattle.starlark_parse.proofs.stmt.module.module.Goals as goal

pub reading-init : goal.reading-init
reading-init g c = record {
  same_reference = refl;
  ready = c.requires.ready;
  begun = tt;
  statements = restated (no_statements_yet _) c.new-statements.ensures refl;
}

pub reading-preserved-in-Some : goal.reading-preserved-in-Some
reading-preserved-in-Some g c = record {
  same_reference = search rules;
  ready = search rules;
  begun = stays_before _ _ _ c.reading.invariant.begun (omega (arith, c.reading.invariant.ready.later, c.in-Some.ensures.moves.later));
  statements = newline_read c.reading.invariant.statements c.in-Some.ensures.takes;
}

pub returns-in_err-statement-clause-parses : goal.returns-in_err-statement-clause-parses
returns-in_err-statement-clause-parses g c =
    module_exits _ _ _ _ c.from_residual.ensures.1 (statement_fails c.reading.invariant.statements (cc) c.in_default.ensures.takes
    c.in_err-statement.ensures.parses)

pub reading-preserved : goal.reading-preserved
reading-preserved g c =
    let takes = c.in_default.ensures.takes in
    let end_is : c.take_if.new.self.end.byte ≡ c.reading.cursor.end.byte = ap (λ x. x.end) takes.1 in
    record {
      same_reference = search rules;
      ready = search rules;
      begun = rw c.unwrap_or.ensures (first_before c.reading.begin c.reading.cursor.end c.begin-here.result c.statement.new.cursor.end
          c.reading.invariant.begun (omega (arith, end_is, c.in_default.ensures.moves.ready.later, c.in_ok-statement.ensures.moves.later))
          (omega (arith, c.begin-here.ensures, c.in_ok-statement.ensures.moves.later)));
      statements = restated (statement_read c.reading.invariant.statements (sym c.at.ensures ∙ c.reading-test.true) takes c.in_ok-statement.ensures.parses) refl
          (ap Some (ap (λ (p : Pos). p.byte) c.unwrap_or.ensures ∙ unwraps c.reading.begin c.begin-here.result
          ∙ ap (unwrap_or (option_map (λ (p : Pos). p.byte) c.reading.begin)) c.begin-here.ensures));
    }

pub returns-clause-parses : goal.returns-clause-parses
returns-clause-parses g c =
    module_found c.reading.invariant.statements c.in_ok-joined.field-0 c.requires.fresh (sym c.at.ensures ∙ c.reading-test.false)
    (joined_is c.reading.begin c.unwrap_or-2.result c.reading.cursor.end (statements_in c.reading.statements) c.in_ok-joined.ensures c.unwrap_or-2.ensures)

pub returns-in_err-joined-clause-parses : goal.returns-in_err-joined-clause-parses
returns-in_err-joined-clause-parses g c = module_exits _ _ _ _ c.from_residual-in_err-joined.ensures.1 (statements_want c.reading.invariant.statements)

pub joined-requires : goal.joined-requires
joined-requires g c = rw c.unwrap_or-2.ensures (begins_before c.reading.begin c.reading.cursor.end c.reading.invariant.begun)
