use Rattle.std.proofs.Common.{ap}
use Rattle.starlark_lexer.specs.declared.span.Pos.{Pos}
use Rattle.starlark_tree.specs.Views.{word}
use Rattle.starlark_parse_cursor.proofs.Paths.{exits}
use Rattle.starlark_parse.proofs.StmtLemmas.Parameters.{no_kwargs, kwargs_type_fails, kwargs_found, kwargs_is}
use Rattle.starlark_parse.proofs.stmt.parameter.after_stars.Goals as goal

pub returns-in_err-name-clause-parses : goal.returns-in_err-name-clause-parses
returns-in_err-name-clause-parses g c = exits _ _ _ _ _ _ _ c.from_residual.ensures.1 (no_kwargs _ c.in_err-name.ensures.takes)

pub returns-in_err-annotation-clause-parses : goal.returns-in_err-annotation-clause-parses
returns-in_err-annotation-clause-parses g c = exits _ _ _ _ _ _ _ c.from_residual-in_err-annotation.ensures.1
    (kwargs_type_fails _ (word c.in_ok-name.name) c.in_ok-name.ensures.takes c.in_err-annotation.ensures.parses)

pub returns-clause-parses : goal.returns-clause-parses
returns-clause-parses g c =
    kwargs_found _ (word c.in_ok-name.name) c.in_ok-name.ensures.takes c.in_ok-annotation.annotation c.in_ok-annotation.ensures.parses
    c.typed_kwargs_parameter.result
    (kwargs_is c.typed_kwargs_parameter.ensures (ap (λ (p : Pos). p.byte) c.begin.ensures))
