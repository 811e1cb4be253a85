use Rattle.std.proofs.Common.{inl, ap}
use Rattle.starlark_lexer.specs.declared.span.Pos.{Pos}
use Rattle.starlark_parse_cursor.proofs.Looks.{same_spans}
use Rattle.starlark_parse_cursor.proofs.Paths.{exits}
use Rattle.starlark_parse.proofs.ExprLemmas.Bracketed.{in_curly, left_open, closed_parses, dictionary_is}
use Rattle.starlark_parse.proofs.ExprLemmas.Lists.{entries_listed}
use Rattle.starlark_parse.proofs.expr.rules.Rules.after_brace.Goals as goal

pub returns-in_err-_closing-clause-parses : goal.returns-in_err-_closing-clause-parses
returns-in_err-_closing-clause-parses g c start d = exits _ _ _ _ _ _ _ c.from_residual.ensures.1
    (left_open in_curly _ d (inl (cc)) c.in_err-_closing.ensures.expects)

pub returns-clause-parses : goal.returns-clause-parses
returns-clause-parses g c start d =
    let v = c.in_ok-_closing.ensures.expects in
    closed_parses in_curly _ d (inl (cc)) v c.listed_dictionary.result c.listed_dictionary.ensures
    (dictionary_is (same_spans (ap (λ (p : Pos). p.byte) c.begin.ensures) v.end_is) (entries_listed _ d.derivation d.means))
