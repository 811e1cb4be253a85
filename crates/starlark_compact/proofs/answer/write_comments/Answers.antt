use Rattle.starlark_compact.proofs.AddsLemmas.{next}
use Rattle.starlark_compact.proofs.AnswerLemmas.{spans_shown}
use Rattle.starlark_compact.proofs.answer.write_comments.Goals as goal

pub returns : goal.returns
returns c = rw (spans_shown c.args.comments.now) (next c.in_ok-write_count.ensures c.write_spans.ensures)
