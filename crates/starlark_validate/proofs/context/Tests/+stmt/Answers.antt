use Rattle.std.proofs.Common.{rules, map, ◌++◌, ap, sym, ◌∙◌}
use Rattle.std.specs.List.{flat_map}
use Rattle.starlark_tree.specs.declared.ast.StmtP.{the_lemmas}
use Rattle.starlark_tree.specs.Views.{form_seen, load_arg_of, statement_of, word}
use Rattle.starlark_validate.specs.KeptTreeFaults.{in_form, in_statement, load_faults}
use Rattle.starlark_validate.proofs.ItemTests.{each_more, each_stops, each_done}
use Rattle.starlark_validate.proofs.StatementForms.{block_kept, form_kept, nothing_left, part_falls, rest_kept, with_rest}
use Rattle.starlark_validate.proofs.TestSequences.{nothing, of_faults, same_err, stops, then}
use Rattle.starlark_validate.proofs.context.Tests.+stmt.Goals as goal

pub returns-in_err-exprs_in : goal.returns-in_err-exprs_in
returns-in_err-exprs_in t c =
    rw (same_err c.from_residual.result c.in_err-exprs_in.field-0.0 c.from_residual.ensures.1)
    (of_faults (sym (form_kept c.args.self.now.dialect (form_seen c.args.stmt.now))) (stops (rest_kept c.args.self.now.dialect (form_seen c.args.stmt.now))
    (rw c.in_err-exprs_in.was at c.exprs_in.ensures)))

pub loop-part-init : goal.loop-part-init
loop-part-init t c = nothing

pub stmt-requires : goal.stmt-requires
stmt-requires t c =
    let falls = part_falls c.in-Statements.parts c.deref-part-items.result.now c.loop-part.part-index c.part-item.result c.args.stmt.now t
    c.loop-part-test.true c.part-item.is c.deref-part-items.ensures.value c.in-Statements.is c.decreases in
    search rules

pub returns-in_err-stmt-in-Statements : goal.returns-in_err-stmt-in-Statements
returns-in_err-stmt-in-Statements t c =
    rw (same_err c.from_residual-in_err-stmt-in-Statements.result c.in_err-stmt-in-Statements.field-0.0 c.from_residual-in_err-stmt-in-Statements.ensures.1)
    (with_rest c.args.self.now.dialect (form_seen c.args.stmt.now) (rw c.in_ok-exprs_in.was at c.exprs_in.ensures)
    (ap (λ xs. flat_map (in_statement c.args.self.now.dialect) (map statement_of xs)) c.deref-part-items.ensures.value
    ∙ block_kept c.args.self.now.dialect c.in-Statements.parts ∙ sym (ap (λ s. rest_kept c.args.self.now.dialect (form_seen s)) c.in-Statements.is))
    (each_stops (in_statement c.args.self.now.dialect) statement_of c.deref-part-items.result.now c.loop-part.part-index c.part-item.result
    c.loop-part.invariant c.loop-part-test.true c.part-item.is (rw c.in_err-stmt-in-Statements.was at c.stmt.ensures)))

pub loop-part-preserved : goal.loop-part-preserved
loop-part-preserved t c =
    each_more (in_statement c.args.self.now.dialect) statement_of c.deref-part-items.result.now c.loop-part.part-index c.part-item.result
    c.loop-part.invariant c.loop-part-test.true c.part-item.is (rw c.in_ok-stmt-in-Statements.was at c.stmt.ensures)

pub returns-after-loop-part : goal.returns-after-loop-part
returns-after-loop-part t c =
    with_rest c.args.self.now.dialect (form_seen c.args.stmt.now) (rw c.in_ok-exprs_in.was at c.exprs_in.ensures)
    (ap (λ xs. flat_map (in_statement c.args.self.now.dialect) (map statement_of xs)) c.deref-part-items.ensures.value
    ∙ block_kept c.args.self.now.dialect c.in-Statements.parts ∙ sym (ap (λ s. rest_kept c.args.self.now.dialect (form_seen s)) c.in-Statements.is))
    (each_done (in_statement c.args.self.now.dialect) statement_of c.deref-part-items.result.now c.loop-part.part-index c.loop-part.invariant
    c.loop-part-test.false)

pub stmt-requires-in-If : goal.stmt-requires-in-If
stmt-requires-in-If t c = search (rules, the_lemmas)

pub stmt-requires-in-IfElse : goal.stmt-requires-in-IfElse
stmt-requires-in-IfElse t c = search (rules, the_lemmas)

pub stmt-requires-in-IfElse-2 : goal.stmt-requires-in-IfElse-2
stmt-requires-in-IfElse-2 t c = search (rules, the_lemmas)

pub stmt-requires-in-For : goal.stmt-requires-in-For
stmt-requires-in-For t c = search (rules, the_lemmas)

pub stmt-requires-in-Def : goal.stmt-requires-in-Def
stmt-requires-in-Def t c = search (rules, the_lemmas)

pub returns-in-If : goal.returns-in-If
returns-in-If t c =
    with_rest c.args.self.now.dialect (form_seen c.args.stmt.now) (rw c.in_ok-exprs_in.was at c.exprs_in.ensures)
    (ap (λ s. in_form c.args.self.now.dialect (form_seen s.node)) c.deref.ensures
    ∙ sym (ap (λ s. rest_kept c.args.self.now.dialect (form_seen s)) c.in-If.is)) c.stmt-in-If.ensures

pub returns-in_err-stmt-in-IfElse : goal.returns-in_err-stmt-in-IfElse
returns-in_err-stmt-in-IfElse t c =
    rw (same_err c.from_residual-in_err-stmt-in-IfElse.result c.in_err-stmt-in-IfElse.field-0.0 c.from_residual-in_err-stmt-in-IfElse.ensures.1)
    (with_rest c.args.self.now.dialect (form_seen c.args.stmt.now) (rw c.in_ok-exprs_in.was at c.exprs_in.ensures)
    (ap (λ p. in_form c.args.self.now.dialect (form_seen p.0.node) ++ in_form c.args.self.now.dialect (form_seen c.in-IfElse.branches.value.1.node))
    c.deref-in-IfElse.ensures ∙ sym (ap (λ s. rest_kept c.args.self.now.dialect (form_seen s)) c.in-IfElse.is))
    (stops (in_form c.args.self.now.dialect (form_seen c.in-IfElse.branches.value.1.node)) (rw c.in_err-stmt-in-IfElse.was at c.stmt-in-IfElse.ensures)))

pub returns-in_ok-stmt-in-IfElse : goal.returns-in_ok-stmt-in-IfElse
returns-in_ok-stmt-in-IfElse t c =
    with_rest c.args.self.now.dialect (form_seen c.args.stmt.now) (rw c.in_ok-exprs_in.was at c.exprs_in.ensures)
    (ap (λ p. in_form c.args.self.now.dialect (form_seen p.0.node) ++ in_form c.args.self.now.dialect (form_seen c.deref-in-IfElse-2.result.now.1.node))
    c.deref-in-IfElse.ensures
    ∙ ap (λ p. in_form c.args.self.now.dialect (form_seen c.in-IfElse.branches.value.0.node) ++ in_form c.args.self.now.dialect (form_seen p.1.node))
    c.deref-in-IfElse-2.ensures
    ∙ sym (ap (λ s. rest_kept c.args.self.now.dialect (form_seen s)) c.in-IfElse.is))
    (then (rw c.in_ok-stmt-in-IfElse.was at c.stmt-in-IfElse.ensures) c.stmt-in-IfElse-2.ensures)

pub returns-in-For : goal.returns-in-For
returns-in-For t c =
    with_rest c.args.self.now.dialect (form_seen c.args.stmt.now) (rw c.in_ok-exprs_in.was at c.exprs_in.ensures)
    (ap (λ s. in_form c.args.self.now.dialect (form_seen s.node)) c.deref-in-For.ensures
    ∙ sym (ap (λ s. rest_kept c.args.self.now.dialect (form_seen s)) c.in-For.is)) c.stmt-in-For.ensures

pub returns-in-Def : goal.returns-in-Def
returns-in-Def t c =
    with_rest c.args.self.now.dialect (form_seen c.args.stmt.now) (rw c.in_ok-exprs_in.was at c.exprs_in.ensures)
    (ap (λ s. in_form c.args.self.now.dialect (form_seen s.node)) c.deref-in-Def.ensures
    ∙ sym (ap (λ s. rest_kept c.args.self.now.dialect (form_seen s)) c.in-Def.is)) c.stmt-in-Def.ensures

pub returns-in-Load : goal.returns-in-Load
returns-in-Load t c =
    with_rest c.args.self.now.dialect (form_seen c.args.stmt.now) (rw c.in_ok-exprs_in.was at c.exprs_in.ensures)
    (ap (λ xs. load_faults (word c.in-Load.load.module) (map load_arg_of xs)) c.deref-in-Load.ensures.value
    ∙ sym (ap (λ s. rest_kept c.args.self.now.dialect (form_seen s)) c.in-Load.is)) c.load.ensures

pub returns-in_default : goal.returns-in_default
returns-in_default t c =
    with_rest c.args.self.now.dialect (form_seen c.args.stmt.now) (rw c.in_ok-exprs_in.was at c.exprs_in.ensures)
    (nothing_left c.args.self.now.dialect c.args.stmt.now c.in_default.not-Statements c.in_default.not-If c.in_default.not-IfElse c.in_default.not-For
    c.in_default.not-Def c.in_default.not-Load) nothing
