use Rattle.std.proofs.Common.{take}
use Rattle.starlark_module.specs.Comments.Names.{HasNames}
use Rattle.starlark_module.proofs.comments.short_names.to_hash_set.Given as goal

abbrev pub invariant-loop-name : goal.invariant-loop-name
invariant-loop-name l = HasNames l.set (take l.name-index l.names)
