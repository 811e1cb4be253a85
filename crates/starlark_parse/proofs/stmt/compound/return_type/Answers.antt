use Rattle.std.proofs.Common.{None, Some, refl}
use Rattle.starlark_parse_cursor.proofs.Paths.{gives_exits}
use Rattle.starlark_parse.proofs.StmtLemmas.Definitions.{no_return, return_fails, return_found}
use Rattle.starlark_parse.proofs.stmt.compound.return_type.Goals as goal

pub returns-in_default-clause-parses : goal.returns-in_default-clause-parses
returns-in_default-clause-parses g c = no_return c.in_default.ensures.takes None refl

pub returns-in_err-note-clause-parses : goal.returns-in_err-note-clause-parses
returns-in_err-note-clause-parses g c = gives_exits _ _ _ _ _ _ c.from_residual.ensures.1 (return_fails c.in-Some.ensures.takes c.in_err-note.ensures.parses)

pub returns-clause-parses : goal.returns-clause-parses
returns-clause-parses g c = return_found c.in-Some.ensures.takes c.in_ok-note.note (Some c.in_ok-note.note) c.in_ok-note.ensures.parses refl
