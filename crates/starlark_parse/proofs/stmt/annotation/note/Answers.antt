use Rattle.std.proofs.Common.{sym}
use Rattle.starlark_parse_cursor.proofs.Paths.{exits}
use Rattle.starlark_parse.proofs.StmtLemmas.Types.{type_fails, type_found, type_breaks}
use Rattle.starlark_parse.proofs.stmt.annotation.note.Goals as goal

pub returns-in_err-value-clause-parses : goal.returns-in_err-value-clause-parses
returns-in_err-value-clause-parses g c = exits _ _ _ _ _ _ _ c.from_residual.ensures.1 (type_fails c.in_err-value.ensures.parses)

pub returns-in-Ok-clause-parses : goal.returns-in-Ok-clause-parses
returns-in-Ok-clause-parses g c = type_found c.in_ok-value.ensures.parses (sym c.in-Ok.ensures.finds) c.in-Ok.ensures.means

pub returns-in-Err-clause-parses : goal.returns-in-Err-clause-parses
returns-in-Err-clause-parses g c = type_breaks c.in_ok-value.ensures.parses c.in-Err.error c.in-Err.ensures.finds c.unless_out_of_memory.ensures
