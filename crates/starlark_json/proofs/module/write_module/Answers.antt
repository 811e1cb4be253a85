use Rattle.starlark_json.proofs.Comments.{spans_listed}
use Rattle.starlark_json.proofs.TreeLemmas.AddsLemmas.{one, next}
use Rattle.starlark_json.proofs.module.write_module.Goals as goal

pub returns : goal.returns
returns c =
    rw (spans_listed c.args.parsed.now.comments.items)
    (next c.in_ok-write_version.ensures
    (next (rw (c.filename.ensures, c.codemap.ensures) at c.in_ok-write_text.ensures)
    (next (rw c.comments.ensures at c.in_ok-write_comments.ensures)
    (next (one c.in_ok-key.ensures) (next (rw c.statement.ensures at c.in_ok-write_statement.ensures) (one c.end_object.ensures))))))
