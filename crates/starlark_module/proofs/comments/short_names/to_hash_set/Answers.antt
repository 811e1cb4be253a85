use Rattle.std.proofs.Common.{string_bytes, true, arith}
use Rattle.std.proofs.lemmas.Map.Text.{hash_set_updates_text}
use Rattle.starlark_module.proofs.CommentsLemmas.Sets.{one_more_name}
use Rattle.starlark_module.proofs.comments.short_names.to_hash_set.Goals as goal

pub loop-name-preserved : goal.loop-name-preserved
loop-name-preserved c = λ text.
    let put = hash_set_updates_text (string_bytes c.in_ok-clone.field-0) c.loop-name.set c.insert.new.self true c.in_ok-insert.ensures.updates text in
    one_more_name text c.args.names.now c.loop-name.name-index c.name-item.result (omega arith) c.name-item.is c.in_ok-clone.ensures.cases
    (c.loop-name.invariant text) put
