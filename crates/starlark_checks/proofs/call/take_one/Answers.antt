use Rattle.starlark_spec.proofs.Constructors.{not_none}
use Rattle.std.proofs.Common.{rules, ◌≡◌, ◌∙◌, length, sym, refl}
use Rattle.starlark_checks.proofs.CallParts.{stops_first, stops_empty}
use Rattle.starlark_checks.proofs.KindLemmas.{kinds_agree, kinds_differ}
use Rattle.starlark_checks.proofs.call.take_one.Goals as goal
use Rattle.starlark_checks.proofs.call.take_one.Goals.{in_default-via-in-Some+else-eq, in_default-via-in_default}

pub returns-in_default-clause-stops : goal.returns-in_default-clause-stops
returns-in_default-clause-stops g c = λ _. elim c.in_default.branch [
  | in_default-via-in-Some+else-eq w ↦
      let parts = rw w.in-Some.is at c.split_first.ensures.cases in
      stops_first c.args.of c.args.args.now _ _ parts.0 (λ same. kinds_differ w.kind.result c.args.of (sym w.eq.ensures ∙ w.if-eq.false) (w.kind.ensures
      ∙ same))
  | in_default-via-in_default w ↦
      let empty : length c.args.args.now ≡ 0 = search rules in
      stops_empty c.args.of c.args.args.now empty
]

pub returns-in-Some-clause-joined : goal.returns-in-Some-clause-joined
returns-in-Some-clause-joined g c = let parts = rw c.in-Some.is at c.split_first.ensures.cases in parts.0

pub returns-in-Some-clause-of_kind : goal.returns-in-Some-clause-of_kind
returns-in-Some-clause-of_kind g c = sym c.kind.ensures ∙ kinds_agree c.kind.result c.args.of (sym c.eq.ensures ∙ c.if-eq.true)

pub returns-in-Some-clause-stops : goal.returns-in-Some-clause-stops
returns-in-Some-clause-stops g c = λ none. not_none none

pub returns-in_default-clause-joined : goal.returns-in_default-clause-joined
returns-in_default-clause-joined g c = refl

pub returns-in_default-clause-of_kind : goal.returns-in_default-clause-of_kind
returns-in_default-clause-of_kind g c = tt
