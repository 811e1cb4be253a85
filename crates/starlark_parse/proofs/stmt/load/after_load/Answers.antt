use Rattle.std.proofs.Common.{ap}
use Rattle.starlark_lexer.specs.Tokens.{from_to}
use Rattle.starlark_lexer.specs.declared.span.Pos.{Pos}
use Rattle.starlark_tree.specs.Ast.{statement, Load}
use Rattle.starlark_tree.specs.Views.{word}
use Rattle.starlark_parse_held.specs.Held.{load_args_in}
use Rattle.starlark_parse_cursor.proofs.Paths.{exits}
use Rattle.starlark_parse.proofs.StmtLemmas.SmallStatements.{added, round_absent, module_absent, load_fails, closing_absent, load_wants, load_found}
use Rattle.starlark_parse.proofs.stmt.load.after_load.Goals as goal

pub returns-in_err-_opening-clause-parses : goal.returns-in_err-_opening-clause-parses
returns-in_err-_opening-clause-parses g c = exits _ _ _ _ _ _ _ c.from_residual.ensures.1 (round_absent c.in_err-_opening.ensures.expects)

pub returns-in_err-module-clause-parses : goal.returns-in_err-module-clause-parses
returns-in_err-module-clause-parses g c = exits _ _ _ _ _ _ _ c.from_residual-in_err-module.ensures.1
    (module_absent c.in_ok-_opening.ensures.expects c.in_err-module.ensures.takes)

pub returns-in_err-symbols-clause-parses : goal.returns-in_err-symbols-clause-parses
returns-in_err-symbols-clause-parses g c =
    exits _ _ _ _ _ _ _ c.from_residual-in_err-symbols.ensures.1
    (load_fails c.in_ok-_opening.ensures.expects c.in_ok-module.ensures.takes c.in_err-symbols.ensures.parses)

pub returns-in_err-_closing-clause-parses : goal.returns-in_err-_closing-clause-parses
returns-in_err-_closing-clause-parses g c =
    exits _ _ _ _ _ _ _ c.from_residual-in_err-_closing.ensures.1 (closing_absent c.in_ok-_opening.ensures.expects c.in_ok-module.ensures.takes
    c.in_ok-symbols.ensures.parses c.in_err-_closing.ensures.expects)

pub returns-in_err-load_statement-clause-parses : goal.returns-in_err-load_statement-clause-parses
returns-in_err-load_statement-clause-parses g c =
    exits _ _ _ _ _ _ _ c.from_residual-in_err-load_statement.ensures.1
    (load_wants c.in_ok-_opening.ensures.expects c.in_ok-module.ensures.takes c.in_ok-symbols.ensures.parses c.in_ok-_closing.ensures.expects)

pub returns-clause-parses : goal.returns-clause-parses
returns-clause-parses g c =
    added _ c.in_ok-load_statement.ensures
    (load_found c.in_ok-_opening.ensures.expects c.in_ok-module.ensures.takes c.in_ok-symbols.ensures.parses c.in_ok-_closing.ensures.expects
    (ap (λ (p : Pos). statement (from_to p.byte c.expect-2.new.cursor.end.byte) (Load (word c.in_ok-module.module) (load_args_in c.in_ok-symbols.symbols) tt))
    c.begin.ensures))
