use Rattle.starlark_lexer.specs.Tokens.{span_of}
use Rattle.starlark_compact.proofs.AddsLemmas.{next}
use Rattle.starlark_compact.proofs.Statements.{assign_bytes}
use Rattle.starlark_compact.proofs.statement.write_assign.Goals as goal

pub returns : goal.returns
returns c = rw (assign_bytes c.args.assign.now (span_of c.args.span))
    (next c.in_ok-write_target.ensures (next c.in_ok-write_target_type.ensures
    (next c.in_ok-write_expression.ensures c.write_node.ensures)))
