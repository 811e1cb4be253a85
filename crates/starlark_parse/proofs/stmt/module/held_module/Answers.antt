use Rattle.std.proofs.Common.{rules, ap, ◌∙◌}
use Rattle.starlark_lexer.specs.declared.span.Pos.{Pos}
use Rattle.starlark_parse_cursor.specs.Reading.{at}
use Rattle.starlark_parse.proofs.StmtLemmas.ContractAnswers.{promised_at}
use Rattle.starlark_parse.proofs.stmt.module.held_module.Goals as goal

pub returns : goal.returns
returns g c =
    promised_at (at c.module-statement.new.cursor) _ _ c.advance.ensures.pulls (ap (λ (p : Pos). p.byte) c.advance.ensures.end ∙ c.new-begin.ensures)
    c.advance.ensures.types c.module-statement.result c.module-statement.ensures.parses (search rules)
