use Rattle.starlark_json.proofs.TreeLemmas.AddsLemmas.{one, next}
use Rattle.starlark_json.proofs.TreeLemmas.Statements.{load_arg_shown}
use Rattle.starlark_json.proofs.tree.statement.write_load_arg.Goals as goal

pub returns : goal.returns
returns c = rw (load_arg_shown c.args.arg.now)
    (next (one c.in_ok-begin_object.ensures) (next c.in_ok-write_bound.ensures
    (next c.in_ok-write_string.ensures (next c.in_ok-write_comma.ensures (one c.end_object.ensures)))))
