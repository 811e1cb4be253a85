use Rattle.std.proofs.Common.{ap, sym, map, string_bytes, ◌∙◌}
use Rattle.std.specs.Str.{bytes_eq}
use Rattle.indexmap.specs.IndexSet.{insert_key}
use Rattle.starlark_passes.proofs.LintLemmas.Texts.{any_text, texts_inserted, insert_present}
use Rattle.starlark_passes.proofs.lint.unused_loads.add_name.Goals as goal

pub returns-in_ok-insert : goal.returns-in_ok-insert
returns-in_ok-insert c =
    ap (map string_bytes) c.in_ok-insert.ensures.keys ∙ texts_inserted string_bytes c.args.names.now.keys c.in_ok-from_str.field-0
    ∙ ap (insert_key bytes_eq (map string_bytes c.args.names.now.keys)) c.in_ok-from_str.ensures.ok

pub returns-else-not-contains : goal.returns-else-not-contains
returns-else-not-contains c =
    sym (insert_present (map string_bytes c.args.names.now.keys) c.args.name.now
    (sym (any_text string_bytes (bytes_eq c.args.name.now) c.args.names.now.keys) ∙ sym c.contains.ensures ∙ c.if-not-contains.false))
