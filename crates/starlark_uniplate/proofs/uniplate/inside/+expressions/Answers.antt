use Rattle.std.proofs.Common.{rules}
use Rattle.starlark_uniplate.proofs.uniplate.inside.+expressions.Goals as goal

pub walk_and_enter-requires-clause-enters : goal.walk_and_enter-requires-clause-enters
walk_and_enter-requires-clause-enters g t c = record {
  callable = λ s x small may. λ function a old mark e q. let takes = rw (← e, ← q) at may in let falls = rw (← e, c.decreases) at small in search rules;
  promises = λ s x r u h. rw (← h.shows, ← h.begins, ← h.ends) h.returned;
}
