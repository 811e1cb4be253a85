use Rattle.std.proofs.Common.{ap, ◌∙◌, arith}
use Rattle.starlark_lexer.specs.declared.span.Pos.{Pos}
use Rattle.starlark_parse_cursor.proofs.Looks.{same_spans}
use Rattle.starlark_parse_cursor.proofs.Paths.{exits}
use Rattle.starlark_parse.proofs.ExprLemmas.Bracketed.{in_round, left_open, closed_parses, parentheses_mean}
use Rattle.starlark_parse.proofs.expr.brackets.after_paren.Goals as goal

pub returns-in_err-closing-clause-parses : goal.returns-in_err-closing-clause-parses
returns-in_err-closing-clause-parses g c start d = exits _ _ _ _ _ _ _ c.from_residual.ensures.1 (left_open in_round _ d tt c.in_err-closing.ensures.expects)

pub returns-clause-parses : goal.returns-clause-parses
returns-clause-parses g c start d =
    closed_parses in_round _ d tt c.in_ok-closing.ensures.expects c.parenthesized.result c.parenthesized.ensures
    (parentheses_mean _ _ _ d.derivation d.means
    (same_spans (ap (λ (p : Pos). p.byte) (c.new-brackets.ensures.begin ∙ c.begin.ensures))
    (ap (λ (p : Pos). p.byte) (c.new-brackets.ensures.end ∙ c.end.ensures))))

pub new-brackets-requires : goal.new-brackets-requires
new-brackets-requires g c =
    omega (
      arith,
      ap (λ (p : Pos). p.byte) c.begin.ensures,
      ap (λ (p : Pos). p.byte) c.end.ensures,
      c.args.opening.ordered,
      c.requires.opened,
      c.requires.ready.later,
      c.in_ok-closing.ensures.moves.later,
      c.in_ok-closing.ensures.expects.end_is,
    )
