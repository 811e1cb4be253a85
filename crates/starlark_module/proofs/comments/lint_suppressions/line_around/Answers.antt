use Rattle.starlark_module.proofs.CommentsLemmas.Lines.{line_is_there, line_begins, line_around_is}
use Rattle.starlark_module.proofs.comments.lint_suppressions.line_around.Goals as goal

pub line_span_trim_newline-requires : goal.line_span_trim_newline-requires
line_span_trim_newline-requires c = line_is_there c.args.codemap.now.text c.begin.result.byte _ c.find_line.ensures

pub returns-clause-line : goal.returns-clause-line
returns-clause-line c = rw (← c.begin.ensures) (line_around_is c.args.codemap.now.text c.begin.result.byte _ c.line_span_trim_newline.result
    c.find_line.ensures c.line_span_trim_newline.ensures)

pub returns-clause-before : goal.returns-clause-before
returns-clause-before c = rw (← c.begin.ensures) (line_begins c.args.codemap.now.text c.begin.result.byte _ c.line_span_trim_newline.result
    c.find_line.ensures c.line_span_trim_newline.ensures)
