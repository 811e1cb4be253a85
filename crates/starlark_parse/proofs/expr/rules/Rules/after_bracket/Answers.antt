use Rattle.std.proofs.Common.{inl, ap}
use Rattle.starlark_lexer.specs.declared.span.Pos.{Pos}
use Rattle.starlark_parse_cursor.proofs.Looks.{same_spans}
use Rattle.starlark_parse_cursor.proofs.Paths.{exits}
use Rattle.starlark_parse.proofs.ExprLemmas.Bracketed.{in_square, left_open, closed_parses, list_is}
use Rattle.starlark_parse.proofs.ExprLemmas.Lists.{elements_listed}
use Rattle.starlark_parse.proofs.expr.rules.Rules.after_bracket.Goals as goal

pub returns-in_err-_closing-clause-parses : goal.returns-in_err-_closing-clause-parses
returns-in_err-_closing-clause-parses g c start d = exits _ _ _ _ _ _ _ c.from_residual.ensures.1
    (left_open in_square _ d (inl (cc)) c.in_err-_closing.ensures.expects)

pub returns-clause-parses : goal.returns-clause-parses
returns-clause-parses g c start d =
    let v = c.in_ok-_closing.ensures.expects in
    closed_parses in_square _ d (inl (cc)) v c.listed_list.result c.listed_list.ensures
    (list_is (same_spans (ap (λ (p : Pos). p.byte) c.begin.ensures) v.end_is) (elements_listed _ _ _ d.derivation d.means))
