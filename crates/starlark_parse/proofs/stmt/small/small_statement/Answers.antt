use Rattle.std.proofs.Common.{refl, ◌∙◌, subst}
use Rattle.starlark_spec.specs.Grammar.Nonterminal.{Module, Small, TestList}
use Rattle.starlark_spec.specs.Machine.States.{Place, Place.small_list_at}
use Rattle.starlark_spec.specs.Machine.States.State.{read}
use Rattle.starlark_parse_cursor.specs.Reading.{at}
use Rattle.starlark_parse_cursor.proofs.Paths.{exits, into_taken, into_kept}
use Rattle.starlark_parse.specs.Stmt.Lines.{ParsesSmall}
use Rattle.starlark_parse.proofs.StmtLemmas.SmallStatements.{added, pass_found, pass_wants, break_found, break_wants, continue_found, continue_wants, small_at}
use Rattle.starlark_parse.proofs.StmtLemmas.SmallStatements.{fails_at, no_word_came}
use Rattle.starlark_parse.proofs.stmt.small.small_statement.Goals as goal

pub returns-in-Some-clause-parses : goal.returns-in-Some-clause-parses
returns-in-Some-clause-parses g c = added _ c.in_ok-pass_statement.ensures (pass_found c.in-Some.ensures.takes refl)

pub returns-in_err-pass_statement-clause-parses : goal.returns-in_err-pass_statement-clause-parses
returns-in_err-pass_statement-clause-parses g c = exits _ _ _ _ _ _ _ c.from_residual.ensures.1 (pass_wants c.in-Some.ensures.takes)

pub returns-in-Some-take_if-clause-parses : goal.returns-in-Some-take_if-clause-parses
returns-in-Some-take_if-clause-parses g c =
    added _ c.in_ok-break_statement.ensures (small_at c.in_default.ensures.takes.1 (break_found c.in-Some-take_if.ensures.takes refl))

pub returns-in_err-break_statement-clause-parses : goal.returns-in_err-break_statement-clause-parses
returns-in_err-break_statement-clause-parses g c =
    exits _ _ _ _ _ _ _ c.from_residual-in_err-break_statement.ensures.1 (fails_at c.in_default.ensures.takes.1 (break_wants c.in-Some-take_if.ensures.takes))

pub returns-in-Some-take_if-2-clause-parses : goal.returns-in-Some-take_if-2-clause-parses
returns-in-Some-take_if-2-clause-parses g c =
    added _ c.in_ok-continue_statement.ensures
    (small_at (c.in_default-take_if.ensures.takes.1 ∙ c.in_default.ensures.takes.1) (continue_found c.in-Some-take_if-2.ensures.takes refl))

pub returns-in_err-continue_statement-clause-parses : goal.returns-in_err-continue_statement-clause-parses
returns-in_err-continue_statement-clause-parses g c =
    exits _ _ _ _ _ _ _ c.from_residual-in_err-continue_statement.ensures.1
    (fails_at (c.in_default-take_if.ensures.takes.1 ∙ c.in_default.ensures.takes.1) (continue_wants c.in-Some-take_if-2.ensures.takes))

pub returns-in-Some-take_if-3-clause-parses : goal.returns-in-Some-take_if-3-clause-parses
returns-in-Some-take_if-3-clause-parses g c =
    subst (λ a. ParsesSmall g.I.Iterator.next_gives c.args.statements.now c.after_return.new.statements a c.after_return.result (at c.after_return.new.cursor))
    (c.in_default-take_if-2.ensures.takes.1 ∙ c.in_default-take_if.ensures.takes.1 ∙ c.in_default.ensures.takes.1)
    (into_taken _ _ _ c.in-Some-take_if-3.ensures.takes (λ p. refl) c.after_return.ensures.parses)

pub returns-in-Some-take_if-4-clause-parses : goal.returns-in-Some-take_if-4-clause-parses
returns-in-Some-take_if-4-clause-parses g c =
    subst (λ a. ParsesSmall g.I.Iterator.next_gives c.args.statements.now c.after_load.new.statements a c.after_load.result (at c.after_load.new.cursor))
    (c.in_default-take_if-3.ensures.takes.1 ∙ c.in_default-take_if-2.ensures.takes.1 ∙ c.in_default-take_if.ensures.takes.1 ∙ c.in_default.ensures.takes.1)
    (into_taken _ _ _ c.in-Some-take_if-4.ensures.takes (λ p. refl) c.after_load.ensures.parses)

pub returns-clause-parses : goal.returns-clause-parses
returns-clause-parses g c =
    into_kept _ (λ (p : Place Module Small). read TestList (small_list_at p)) _ _ _ _ _
    (c.in_default-take_if-4.ensures.takes.1 ∙ c.in_default-take_if-3.ensures.takes.1 ∙ c.in_default-take_if-2.ensures.takes.1
    ∙ c.in_default-take_if.ensures.takes.1 ∙ c.in_default.ensures.takes.1)
    (no_word_came c.in_default.ensures.takes c.in_default-take_if.ensures.takes c.in_default-take_if-2.ensures.takes c.in_default-take_if-3.ensures.takes
    c.in_default-take_if-4.ensures.takes)
    c.expression_or_assignment.ensures.parses
