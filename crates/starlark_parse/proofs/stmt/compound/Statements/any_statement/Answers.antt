use Rattle.std.proofs.Common.{refl, ◌∙◌}
use Rattle.starlark_parse_cursor.proofs.Paths.{exits}
use Rattle.starlark_parse.proofs.StmtLemmas.Modules.{simple_parses, to_def, to_if, to_for, word_fails, word_wants, word_added}
use Rattle.starlark_parse.proofs.stmt.compound.Statements.any_statement.Goals as goal

pub returns-in_err-definition-clause-parses : goal.returns-in_err-definition-clause-parses
returns-in_err-definition-clause-parses g c =
    let v = c.in-Some.ensures.takes in
    exits _ _ _ _ _ _ _ c.from_residual.ensures.1 (word_fails refl v (to_def v) c.in_err-definition.ensures.parses)

pub returns-in_err-push-clause-parses : goal.returns-in_err-push-clause-parses
returns-in_err-push-clause-parses g c =
    let v = c.in-Some.ensures.takes in
    exits _ _ _ _ _ _ _ c.from_residual-in_err-push.ensures.1 (word_wants refl v (to_def v) c.in_ok-definition.definition c.in_ok-definition.ensures.parses)

pub returns-in-Some-clause-parses : goal.returns-in-Some-clause-parses
returns-in-Some-clause-parses g c =
    let v = c.in-Some.ensures.takes in
    word_added refl v (to_def v) c.in_ok-definition.definition _ c.in_ok-push.ensures c.in_ok-definition.ensures.parses

pub returns-in_err-conditional-clause-parses : goal.returns-in_err-conditional-clause-parses
returns-in_err-conditional-clause-parses g c =
    let v = c.in-Some-take_if.ensures.takes in
    exits _ _ _ _ _ _ _ c.from_residual-in_err-conditional.ensures.1 (word_fails c.in_default.ensures.takes.1 v (to_if v) c.in_err-conditional.ensures.parses)

pub returns-in_err-push-2-clause-parses : goal.returns-in_err-push-2-clause-parses
returns-in_err-push-2-clause-parses g c =
    let v = c.in-Some-take_if.ensures.takes in
    exits _ _ _ _ _ _ _ c.from_residual-in_err-push-2.ensures.1
    (word_wants c.in_default.ensures.takes.1 v (to_if v) c.in_ok-conditional.conditional c.in_ok-conditional.ensures.parses)

pub returns-in-Some-take_if-clause-parses : goal.returns-in-Some-take_if-clause-parses
returns-in-Some-take_if-clause-parses g c =
    let v = c.in-Some-take_if.ensures.takes in
    word_added c.in_default.ensures.takes.1 v (to_if v) c.in_ok-conditional.conditional _ c.in_ok-push-2.ensures c.in_ok-conditional.ensures.parses

pub returns-in_err-iteration-clause-parses : goal.returns-in_err-iteration-clause-parses
returns-in_err-iteration-clause-parses g c =
    let v = c.in-Some-take_if-2.ensures.takes in
    exits _ _ _ _ _ _ _ c.from_residual-in_err-iteration.ensures.1
    (word_fails (c.in_default-take_if.ensures.takes.1 ∙ c.in_default.ensures.takes.1) v (to_for v) c.in_err-iteration.ensures.parses)

pub returns-in_err-push-3-clause-parses : goal.returns-in_err-push-3-clause-parses
returns-in_err-push-3-clause-parses g c =
    let v = c.in-Some-take_if-2.ensures.takes in
    exits _ _ _ _ _ _ _ c.from_residual-in_err-push-3.ensures.1
    (word_wants (c.in_default-take_if.ensures.takes.1 ∙ c.in_default.ensures.takes.1) v (to_for v) c.in_ok-iteration.iteration c.in_ok-iteration.ensures.parses)

pub returns-in-Some-take_if-2-clause-parses : goal.returns-in-Some-take_if-2-clause-parses
returns-in-Some-take_if-2-clause-parses g c =
    let v = c.in-Some-take_if-2.ensures.takes in
    word_added (c.in_default-take_if.ensures.takes.1 ∙ c.in_default.ensures.takes.1) v (to_for v) c.in_ok-iteration.iteration _ c.in_ok-push-3.ensures
    c.in_ok-iteration.ensures.parses

pub returns-clause-parses : goal.returns-clause-parses
returns-clause-parses g c =
    simple_parses _ c.args.statements.now c.simple_statement.new.statements _ _ _ _ _ c.simple_statement.result c.in_default.ensures.takes
    c.in_default-take_if.ensures.takes c.in_default-take_if-2.ensures.takes c.simple_statement.ensures.parses
