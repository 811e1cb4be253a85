use Rattle.starlark_parse_cursor.proofs.Paths.{gives_exits}
use Rattle.starlark_parse.proofs.StmtLemmas.Types.{no_type_found, annotation_fails, annotation_found}
use Rattle.starlark_parse.proofs.stmt.annotation.annotation.Goals as goal

pub returns-in_default-clause-parses : goal.returns-in_default-clause-parses
returns-in_default-clause-parses g c = no_type_found c.in_default.ensures.takes

pub returns-in_err-annotation-clause-parses : goal.returns-in_err-annotation-clause-parses
returns-in_err-annotation-clause-parses g c = gives_exits _ _ _ _ _ _ c.from_residual.ensures.1
    (annotation_fails c.in-Some.ensures.takes c.in_err-annotation.ensures.parses)

pub returns-clause-parses : goal.returns-clause-parses
returns-clause-parses g c = annotation_found c.in-Some.ensures.takes c.in_ok-annotation.ensures.parses
