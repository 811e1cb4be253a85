use Rattle.starlark_lexer.specs.Tokens.{span_of}
use Rattle.starlark_json.proofs.TreeLemmas.AddsLemmas.{one, next}
use Rattle.starlark_json.proofs.TreeLemmas.Statements.{assign_tokens}
use Rattle.starlark_json.proofs.tree.statement.write_assign.Goals as goal

pub returns : goal.returns
returns c = rw (assign_tokens c.args.assign.now (span_of c.args.span))
    (next c.in_ok-write_head.ensures (next c.in_ok-write_target_field.ensures
    (next c.in_ok-write_target_type.ensures (next c.in_ok-write_field.ensures (one c.end_object.ensures)))))
