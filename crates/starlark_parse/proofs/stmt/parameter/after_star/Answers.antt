use Rattle.std.proofs.Common.{ap}
use Rattle.starlark_lexer.specs.declared.span.Pos.{Pos}
use Rattle.starlark_tree.specs.Views.{word}
use Rattle.starlark_parse_cursor.proofs.Paths.{exits}
use Rattle.starlark_parse.proofs.StmtLemmas.Parameters.{bare_star, args_type_fails, args_found, args_is}
use Rattle.starlark_parse.proofs.stmt.parameter.after_star.Goals as goal

pub returns-then-not-at-clause-parses : goal.returns-then-not-at-clause-parses
returns-then-not-at-clause-parses g c = bare_star _ c.star_parameter.result c.star_parameter.ensures (cc) (ap (λ (p : Pos). p.byte) c.requires.star)

pub returns-in_err-annotation-clause-parses : goal.returns-in_err-annotation-clause-parses
returns-in_err-annotation-clause-parses g c = exits _ _ _ _ _ _ _ c.from_residual-in_err-annotation.ensures.1
    (args_type_fails _ (word c.in_ok-name.name) c.in_ok-name.ensures.takes c.in_err-annotation.ensures.parses)

pub returns-clause-parses : goal.returns-clause-parses
returns-clause-parses g c =
    args_found _ (word c.in_ok-name.name) c.in_ok-name.ensures.takes c.in_ok-annotation.annotation c.in_ok-annotation.ensures.parses
    c.typed_args_parameter.result
    (args_is c.typed_args_parameter.ensures (ap (λ (p : Pos). p.byte) c.begin.ensures))
