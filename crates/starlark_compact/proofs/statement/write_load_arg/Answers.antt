use Rattle.starlark_compact.proofs.AddsLemmas.{next}
use Rattle.starlark_compact.proofs.Statements.{load_arg_shown}
use Rattle.starlark_compact.proofs.statement.write_load_arg.Goals as goal

pub returns : goal.returns
returns c = rw (load_arg_shown c.args.arg.now)
    (next (rw c.as_str.ensures.value at c.in_ok-write_word.ensures)
    (next (rw c.as_str-2.ensures.value at c.in_ok-write_word-2.ensures) c.write_comma.ensures))
