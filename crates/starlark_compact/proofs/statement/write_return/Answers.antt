use Rattle.starlark_lexer.specs.Tokens.{span_of}
use Rattle.starlark_compact.proofs.AddsLemmas.{next}
use Rattle.starlark_compact.proofs.Statements.{return_bytes}
use Rattle.starlark_compact.proofs.statement.write_return.Goals as goal

pub returns : goal.returns
returns c = rw (return_bytes c.args.value.now (span_of c.args.span))
    (next c.in_ok-write_returned.ensures c.write_node.ensures)
