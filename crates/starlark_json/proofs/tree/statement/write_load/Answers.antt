use Rattle.starlark_lexer.specs.Tokens.{span_of}
use Rattle.starlark_json.proofs.TreeLemmas.AddsLemmas.{one, next}
use Rattle.starlark_json.proofs.TreeLemmas.Statements.{load_tokens}
use Rattle.starlark_json.proofs.tree.statement.write_load.Goals as goal

pub returns : goal.returns
returns c = rw (load_tokens c.args.load.now (span_of c.args.span))
    (next c.in_ok-write_head.ensures (next c.in_ok-write_string.ensures (next (rw c.deref.ensures.value at c.in_ok-write_load_args.ensures)
    (one c.end_object.ensures))))
