use Rattle.std.proofs.Common.{ap}
use Rattle.starlark_lexer.specs.declared.span.Pos.{Pos}
use Rattle.starlark_tree.specs.Views.{word}
use Rattle.starlark_parse_cursor.proofs.Paths.{exits}
use Rattle.starlark_parse.proofs.StmtLemmas.Parameters.{normal_is, type_fails, name_found, default_fails, default_found}
use Rattle.starlark_parse.proofs.stmt.parameter.after_name.Goals as goal

pub returns-in_err-annotation-clause-parses : goal.returns-in_err-annotation-clause-parses
returns-in_err-annotation-clause-parses g c = exits _ _ _ _ _ _ _ c.from_residual.ensures.1 (type_fails (word c.args.name) c.in_err-annotation.ensures.parses)

pub returns-in_default-clause-parses :
    goal.returns-in_default-clause-parses
returns-in_default-clause-parses g c =
    name_found (word c.args.name) c.in_ok-annotation.annotation c.in_ok-annotation.ensures.parses (ap (λ (p : Pos). p.byte) c.requires.name)
    c.in_default.ensures.takes c.typed_parameter.result
    (normal_is c.typed_parameter.ensures (ap (λ (p : Pos). p.byte) c.begin-begin.ensures))

pub returns-in_err-value-clause-parses : goal.returns-in_err-value-clause-parses
returns-in_err-value-clause-parses g c =
    exits _ _ _ _ _ _ _ c.from_residual-in_err-value.ensures.1
    (default_fails (word c.args.name) c.in_ok-annotation.annotation c.in_ok-annotation.ensures.parses (ap (λ (p : Pos). p.byte) c.requires.name)
    c.in-Some.ensures.takes c.in_err-value.ensures.parses)

pub returns-clause-parses : goal.returns-clause-parses
returns-clause-parses g c =
    default_found (word c.args.name) c.in_ok-annotation.annotation c.in_ok-annotation.ensures.parses (ap (λ (p : Pos). p.byte) c.requires.name)
    c.in-Some.ensures.takes c.in_ok-value.value c.in_ok-value.ensures.parses
    c.typed_parameter-2.result (normal_is c.typed_parameter-2.ensures (ap (λ (p : Pos). p.byte) c.begin-begin.ensures))
