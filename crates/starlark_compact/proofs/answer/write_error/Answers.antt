use Rattle.std.proofs.Common.{◌≡◌, rules}
use Rattle.starlark_checks.specs.ErrorText.{error_text}
use Rattle.starlark_compact.proofs.AddsLemmas.{next}
use Rattle.starlark_compact.proofs.answer.write_error.Goals as goal

pub returns : goal.returns
returns c =
    let said : c.as_bytes.result.now ≡ error_text c.args.error.now.kind = search rules in
    next c.in_ok-write_number.ensures (next (rw (c.error_number.ensures, c.kind.ensures) at c.in_ok-write_number-2.ensures)
    (next (rw said at c.in_ok-write_bytes.ensures) (rw c.span.ensures at c.write_where.ensures)))
