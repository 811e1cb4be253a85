-- A loop that maps a list: each item before those that are left has its step.
use Rattle.std.proofs.Common.{◌≡◌, List, [], ◌∷◌, ◌++◌, Option, Some, None, IfSome, IfNone, Result, Ok, Err, IfOk, append_assoc, append-nil, refl, sym, ap, ◌∙◌}
use Rattle.std.specs.Result.{IsOkAnd}
use Rattle.std.specs.Vec.Iter.{into_iter_items}
use Rattle.starlark_payload.specs.Function.Steps.{Each}
use Rattle.starlark_payload.specs.declared.function.made.Mapping.{Mapping}
use Rattle.starlark_payload.proofs.FunctionLemmas.Steps.{one_more}

module _ {F X Y : Type 0} (step : X → Y → F → F → Type 0) where
  -- the items that are not left have their steps
  abbrev pub MappedTo : List X → Mapping X Y → F → F → Type 0
  MappedTo xs m before after = (done : List X) × (xs ≡ done ++ into_iter_items m.rest) × Each step done m.mapped.items before after

  pub none_mapped : (xs : List X) (m : Mapping X Y) (now : F) → into_iter_items m.rest ≡ xs → m.mapped.items ≡ [] → MappedTo xs m now now
  none_mapped xs m now all none = ([], sym all, rw none refl)

  pub next_mapped : (xs : List X) (m n k : Mapping X Y) (r : Option X) (x : X) (y : Y) (before between after : F)
      → MappedTo xs m before between → r ≡ Some x → IfSome r (λ x. into_iter_items m.rest ≡ x ∷ into_iter_items n.rest) → n.mapped ≡ m.mapped
      → k.rest ≡ n.rest → k.mapped.items ≡ n.mapped.items ++ y ∷ [] → step x y between after → MappedTo xs k before after
  next_mapped xs m n k r x y before between after mapped is some same rest pushed last =
      let taken : into_iter_items m.rest ≡ x ∷ into_iter_items n.rest = rw is at some in
      let split = mapped.1 ∙ ap (λ l. mapped.0 ++ l) (taken ∙ ap (λ i. x ∷ into_iter_items i) (sym rest)) in (
        mapped.0 ++ x ∷ [],
        split ∙ sym (append_assoc mapped.0 (x ∷ []) (into_iter_items k.rest)),
        one_more step mapped.0 m.mapped.items k.mapped.items x y before between after mapped.2 (rw same at pushed) last,
      )

  -- the same, if what the item was mapped to was allocated
  pub next_made : {E : Type 0} (xs : List X) (m n k : Mapping X Y) (r : Option X) (x : X) (made : Result Y E) (before between after : F)
      → MappedTo xs m before between → r ≡ Some x → IfSome r (λ x. into_iter_items m.rest ≡ x ∷ into_iter_items n.rest) → n.mapped ≡ m.mapped
      → k.rest ≡ n.rest → IsOkAnd made (λ y. k.mapped.items ≡ n.mapped.items ++ y ∷ []) → IfOk made (λ y. step x y between after)
      → MappedTo xs k before after
  next_made xs m n k r x (Ok y) before between after mapped is some same rest pushed last =
      next_mapped xs m n k r x y before between after mapped is some same rest pushed last
  next_made xs m n k r x (Err e) before between after mapped is some same rest pushed last = absurd pushed

  pub all_mapped : (xs : List X) (m n : Mapping X Y) (r : Option X) (before after : F) → MappedTo xs m before after → r ≡ None
      → IfNone r (into_iter_items m.rest ≡ []) → n.mapped ≡ m.mapped → Each step xs n.mapped.items before after
  all_mapped xs m n r before after mapped is none same =
      let left : into_iter_items m.rest ≡ [] = rw is at none in
      rw (mapped.1 ∙ ap (λ l. mapped.0 ++ l) left ∙ append-nil mapped.0, same) mapped.2
