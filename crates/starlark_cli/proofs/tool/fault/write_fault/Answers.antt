use Rattle.starlark_json.proofs.TreeLemmas.AddsLemmas.{next, one}
use Rattle.starlark_cli.proofs.tool.fault.write_fault.Goals as goal

pub returns : goal.returns
returns c =
    next (one c.in_ok-begin_object.ensures) (next (one c.in_ok-key.ensures) (next (one c.in_ok-u64.ensures)
    (next c.in_ok-write_text.ensures (next c.in_ok-write_text-2.ensures (next c.in_ok-write_text-3.ensures (one c.end_object.ensures))))))
