use Rattle.std.proofs.Common.{rules}
use Rattle.starlark_uniplate_mut.specs.Types.Types.{MayWriteTypes, type_calls}
use Rattle.starlark_uniplate_mut.proofs.TypesLemmas.TypeEnters.{may_later}
use Rattle.starlark_uniplate_mut.proofs.types.into.+walk_typed.Goals as goal

pub write_and_enter-requires-clause-typed : goal.write_and_enter-requires-clause-typed
write_and_enter-requires-clause-typed g t c = record {
  callable = λ h e a some few. λ function b old mark q d.
      let has = rw (← q) at some in
      let may : MayWriteTypes (type_calls g.F.FnMut) old.now = rw d (may_later c.requires.may a) in
      let falls = rw (← q, c.decreases) at few in
      search rules;
  promises = λ h e d r k p. rw (← p.shows, ← p.leaves, ← p.begins, ← p.ends) p.returned;
}
