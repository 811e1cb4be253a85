use Rattle.std.proofs.Common.{sym, ap, ◌∙◌}
use Rattle.starlark_lexer.specs.Tokens.{from_to}
use Rattle.starlark_spec.specs.Trees.{one_or_tuple, tuple}
use Rattle.starlark_parse_held.proofs.Meanings.{expression_held, same_expression}
use Rattle.starlark_parse_build.proofs.Rows.{tuple_of_several}
use Rattle.starlark_parse_build.proofs.expression.one_or_tuple.Goals as goal

pub returns-in-Ok : goal.returns-in-Ok
returns-in-Ok c = expression_held c.new.result _ _ (sym (ap (one_or_tuple (from_to c.args.begin.byte c.args.end.byte)) c.in-Ok.ensures.one)) c.new.ensures

pub returns-in-Err : goal.returns-in-Err
returns-in-Err c =
    same_expression c.tuple.result _ _
    (ap (tuple (from_to c.args.begin.byte c.args.end.byte)) c.in-Err.ensures.all ∙ tuple_of_several _ _ c.in-Err.ensures.not_one)
    c.tuple.ensures
