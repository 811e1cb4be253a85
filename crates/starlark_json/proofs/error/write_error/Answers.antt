use Rattle.starlark_json.proofs.TreeLemmas.AddsLemmas.{one, next}
use Rattle.starlark_json.proofs.error.write_error.Goals as goal

pub returns : goal.returns
returns c =
    next c.in_ok-write_version.ensures
    (next (rw (c.kind_name.ensures, c.kind.ensures) at c.in_ok-write_text.ensures)
    (next (rw c.requires at c.in_ok-write_text-2.ensures) (rw c.span.ensures at c.write_fields.ensures)))
