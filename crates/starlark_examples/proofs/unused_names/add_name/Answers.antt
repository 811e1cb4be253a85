use Rattle.std.proofs.Common.{cond, true, string_bytes, ap, ◌∙◌}
use Rattle.std.proofs.lemmas.Map.Text.{hash_set_updates_text}
use Rattle.std.specs.HashSet.{contains_text}
use Rattle.std.specs.Str.{bytes_eq}
use Rattle.starlark_examples.proofs.unused_names.add_name.Goals as goal

pub returns : goal.returns
returns c =
    let key = c.in_ok-from_str.field-0 in
    λ other.
    hash_set_updates_text (string_bytes key) c.args.names.now c.insert.new.self true c.in_ok-insert.ensures.updates other
    ∙ ap (λ bs. cond (bytes_eq bs other) true (contains_text c.args.names.now other)) c.in_ok-from_str.ensures.ok
