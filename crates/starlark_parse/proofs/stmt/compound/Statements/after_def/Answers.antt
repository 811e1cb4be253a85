use Rattle.std.proofs.Common.{ap}
use Rattle.starlark_lexer.specs.declared.span.Pos.{Pos}
use Rattle.starlark_tree.specs.Views.{word}
use Rattle.starlark_parse_cursor.proofs.Paths.{exits}
use Rattle.starlark_parse.proofs.StmtLemmas.Definitions.{no_name, no_round, parameters_fail, no_close, returns_fail, no_colon, body_fails, def_wants, def_found}
use Rattle.starlark_parse.proofs.StmtLemmas.Definitions.{def_is}
use Rattle.starlark_parse.proofs.stmt.compound.Statements.after_def.Goals as goal

pub returns-in_err-name-clause-parses : goal.returns-in_err-name-clause-parses
returns-in_err-name-clause-parses g c = exits _ _ _ _ _ _ _ c.from_residual.ensures.1 (no_name _ c.in_err-name.ensures.takes)

pub returns-in_err-_opening-clause-parses : goal.returns-in_err-_opening-clause-parses
returns-in_err-_opening-clause-parses g c =
    exits _ _ _ _ _ _ _ c.from_residual-in_err-_opening.ensures.1
    (no_round _ (word c.in_ok-name.name) c.in_ok-name.ensures.takes c.in_err-_opening.ensures.expects)

pub returns-in_err-parameters-clause-parses : goal.returns-in_err-parameters-clause-parses
returns-in_err-parameters-clause-parses g c =
    exits _ _ _ _ _ _ _ c.from_residual-in_err-parameters.ensures.1
    (parameters_fail _ (word c.in_ok-name.name) c.in_ok-name.ensures.takes c.in_ok-_opening.ensures.expects c.in_err-parameters.ensures.parses)

pub returns-in_err-_closing-clause-parses : goal.returns-in_err-_closing-clause-parses
returns-in_err-_closing-clause-parses g c =
    exits _ _ _ _ _ _ _ c.from_residual-in_err-_closing.ensures.1
    (no_close _ (word c.in_ok-name.name) c.in_ok-name.ensures.takes c.in_ok-_opening.ensures.expects c.in_ok-parameters.ensures.parses
    c.in_err-_closing.ensures.expects)

pub returns-in_err-return_type-clause-parses : goal.returns-in_err-return_type-clause-parses
returns-in_err-return_type-clause-parses g c =
    exits _ _ _ _ _ _ _ c.from_residual-in_err-return_type.ensures.1
    (returns_fail _ (word c.in_ok-name.name) c.in_ok-name.ensures.takes c.in_ok-_opening.ensures.expects c.in_ok-parameters.ensures.parses
    c.in_ok-_closing.ensures.expects c.in_err-return_type.ensures.parses)

pub returns-in_err-_colon-clause-parses : goal.returns-in_err-_colon-clause-parses
returns-in_err-_colon-clause-parses g c =
    exits _ _ _ _ _ _ _ c.from_residual-in_err-_colon.ensures.1
    (no_colon _ (word c.in_ok-name.name) c.in_ok-name.ensures.takes c.in_ok-_opening.ensures.expects c.in_ok-parameters.ensures.parses
    c.in_ok-_closing.ensures.expects
    c.in_ok-return_type.return_type c.in_ok-return_type.ensures.parses c.in_err-_colon.ensures.expects)

pub returns-in_err-body-clause-parses : goal.returns-in_err-body-clause-parses
returns-in_err-body-clause-parses g c =
    exits _ _ _ _ _ _ _ c.from_residual-in_err-body.ensures.1
    (body_fails _ (word c.in_ok-name.name) c.in_ok-name.ensures.takes c.in_ok-_opening.ensures.expects c.in_ok-parameters.ensures.parses
    c.in_ok-_closing.ensures.expects
    c.in_ok-return_type.return_type c.in_ok-return_type.ensures.parses c.in_ok-_colon.ensures.expects c.in_err-body.ensures.parses)

pub returns-in_err-definition-clause-parses : goal.returns-in_err-definition-clause-parses
returns-in_err-definition-clause-parses g c =
    exits _ _ _ _ _ _ _ c.from_residual-in_err-definition.ensures.1
    (def_wants _ (word c.in_ok-name.name) c.in_ok-name.ensures.takes c.in_ok-_opening.ensures.expects c.in_ok-parameters.ensures.parses
    c.in_ok-_closing.ensures.expects
    c.in_ok-return_type.return_type c.in_ok-return_type.ensures.parses c.in_ok-_colon.ensures.expects c.in_ok-body.body c.in_ok-body.ensures.parses)

pub returns-clause-parses : goal.returns-clause-parses
returns-clause-parses g c =
    def_found _ (word c.in_ok-name.name) c.in_ok-name.ensures.takes c.in_ok-_opening.ensures.expects c.in_ok-parameters.ensures.parses
    c.in_ok-_closing.ensures.expects
    c.in_ok-return_type.return_type c.in_ok-return_type.ensures.parses c.in_ok-_colon.ensures.expects c.in_ok-body.body c.in_ok-body.ensures.parses
    c.in_ok-definition.field-0 (def_is _ _ _ _ c.in_ok-definition.ensures (ap (λ (p : Pos). p.byte) c.begin.ensures))
