use Rattle.std.proofs.Common.{◌≡◌, string_bytes, true, false, rules}
use Rattle.std.specs.Str.{bytes_eq}
use Rattle.starlark_source.proofs.PageLemmas.{wrote_as, wrote_append}
use Rattle.starlark_source.proofs.StatementLemmas.{other_load_arg, same_load_arg}
use Rattle.starlark_source.proofs.statement.write_load_arg.Goals as goal

pub returns-then-same : goal.returns-then-same
returns-then-same c =
    let same : bytes_eq (string_bytes c.args.arg.now.local.node.ident) (string_bytes c.args.arg.now.their.node) ≡ true = search rules in
    wrote_as _ _ _ _ (rw c.as_str-then-same.ensures.value at c.write_quoted.ensures) (same_load_arg c.args.arg.now same)

pub returns-else-same : goal.returns-else-same
returns-else-same c =
    let same : bytes_eq (string_bytes c.args.arg.now.local.node.ident) (string_bytes c.args.arg.now.their.node) ≡ false = search rules in
    wrote_as _ _ _ _ (wrote_append _ _ _ _ _ (rw c.as_str-else-same.ensures.value at c.write_name.ensures)
    (wrote_append _ _ _ _ _ c.put.ensures (rw c.as_str-else-same-2.ensures.value at c.write_quoted-else-same.ensures)))
    (other_load_arg c.args.arg.now same)
