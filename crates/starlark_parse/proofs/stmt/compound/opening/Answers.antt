use Rattle.std.proofs.Common.{sym, ◌∙◌}
use Rattle.std.proofs.lemmas.Bool.{false≢true}
use Rattle.starlark_parse_cursor.proofs.Paths.{gives_exits}
use Rattle.starlark_parse.proofs.StmtLemmas.Blocks.{no_indent, opened}
use Rattle.starlark_parse.proofs.stmt.compound.opening.Goals as goal

pub returns-in_err-_newline-clause-opens : goal.returns-in_err-_newline-clause-opens
returns-in_err-_newline-clause-opens g c = absurd (false≢true (sym c.in_err-_newline.ensures.expects.0 ∙ c.requires.comes))

pub returns-in_err-_indent-clause-opens : goal.returns-in_err-_indent-clause-opens
returns-in_err-_indent-clause-opens g c =
    gives_exits _ _ _ _ _ _ c.from_residual-in_err-_indent.ensures.1
    (no_indent c.in_ok-_newline.ensures.expects c.newlines.ensures.reads c.in_err-_indent.ensures.expects)

pub returns-clause-opens : goal.returns-clause-opens
returns-clause-opens g c = opened c.in_ok-_newline.ensures.expects c.newlines.ensures.reads c.in_ok-_indent.ensures.expects
