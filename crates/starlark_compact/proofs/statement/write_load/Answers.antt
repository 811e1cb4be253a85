use Rattle.std.proofs.Common.{◌≡◌, length, rules}
use Rattle.starlark_lexer.specs.Tokens.{span_of}
use Rattle.starlark_compact.proofs.AddsLemmas.{next}
use Rattle.starlark_compact.proofs.Statements.{load_bytes}
use Rattle.starlark_compact.proofs.statement.write_load.Goals as goal

pub returns : goal.returns
returns c =
    let counted : c.len.result ≡ length c.args.load.now.args.items = search rules in
    rw (load_bytes c.args.load.now (span_of c.args.span))
    (next (rw c.as_str.ensures.value at c.in_ok-write_named.ensures) (next (rw counted at c.in_ok-write_count.ensures)
    (rw c.deref.ensures.value at c.write_load_args.ensures)))
