-- An enum that lends a part of one variant: what it ends as, and what the part is, once the variant is known; what is left of it if the
-- part was written.
use mathlib.Core.Logic.{◌⊎◌, inl}
use mathlib.Core.Option as maybe
use base.Fml.{GName}
use denote.Enum.Declared.{Record}
use borrow.Enum.Known.{ValuesAt, at}
use borrow.Enum.Total.{values_o, values_o_at, values_d, values_d_at}
use borrow.Follows.Closed.{read_of}
use Rattle.std.proofs.Common.{◌≡◌, ℕ, List, length, Vec, sym, ap, ◌∙◌, subst}
use Rattle.std.proofs.lemmas.List.{with_items_is}
use Rattle.std.specs.Vec.{with_items}

module _ (N : Record) (k : ℕ) {X : Type 0} where
  abbrev put_part : (ValuesAt N.parts k → X → N.D) → maybe.Option (ValuesAt N.parts k) → N.D → X → N.D
  put_part put maybe.none s x = s
  put_part put (maybe.some v) s x = put v x

  -- the part itself
  abbrev ends_as : GName → (X → N.D) → (GName × (X → N.D)) ⊎ N.D
  ends_as name ends = inl (name, ends)

  pub part_ends : (put : ValuesAt N.parts k → X → N.D) (with_part : N.D → X → N.D) (name : GName) (s : N.D) (v : ValuesAt N.parts k)
      → s ≡ at N k v → ((x : X) → put v x ≡ with_part (at N k v) x)
      → ends_as name (λ x. put_part put (values_o N k s) s x) ≡ ends_as name (with_part s)
  part_ends put with_part name s v e same =
      ap (ends_as name)
      (λ i x. (ap (λ (z : N.D). put_part put (values_o N k z) z x) e
      ∙ ap (λ (o : maybe.Option (ValuesAt N.parts k)). put_part put o (at N k v) x) (values_o_at N k v)
      ∙ same x
      ∙ sym (ap (λ (z : N.D). with_part z x) e)) i)

-- what is in the part, if there is something
module _ (N : Record) (k : ℕ) {X Y : Type 0} where
  abbrev ends_if : (ValuesAt N.parts k → Y → N.D) → (ValuesAt N.parts k → Y) → (Y → X → Y) → maybe.Option GName
      → maybe.Option (ValuesAt N.parts k) → ValuesAt N.parts k → N.D → (GName × (X → N.D)) ⊎ N.D
  ends_if put get step name o v s = read_of {D = N.D} {E = X} name (λ x. put_part N k put o s (step (get v) x)) (put_part N k put o s (get v))

  pub inner_ends : (put : ValuesAt N.parts k → Y → N.D) (get : ValuesAt N.parts k → Y) (step : Y → X → Y) (with_part : N.D → X → N.D)
      (name : maybe.Option GName) (s : N.D) (v : ValuesAt N.parts k)
      → s ≡ at N k v → ((x : X) → put v (step (get v) x) ≡ with_part (at N k v) x) → put v (get v) ≡ at N k v
      → ends_if put get step name (values_o N k s) (values_d N k v s) s ≡ read_of {D = N.D} {E = X} name (with_part s) s
  inner_ends put get step with_part name s v e same whole =
      ap (λ (z : N.D). ends_if put get step name (values_o N k z) (values_d N k v z) z) e
      ∙ ap (λ (o : maybe.Option (ValuesAt N.parts k)). ends_if put get step name o (values_d N k v (at N k v)) (at N k v)) (values_o_at N k v)
      ∙ ap (λ (w : ValuesAt N.parts k). ends_if put get step name (maybe.some v) w (at N k v)) (values_d_at N k v v)
      ∙ ap (λ (h : X → N.D). read_of {D = N.D} {E = X} name h (put v (get v))) (λ i x. same x i)
      ∙ ap (λ (z : N.D). read_of {D = N.D} {E = X} name (with_part (at N k v)) z) whole
      ∙ sym (ap (λ (z : N.D). read_of {D = N.D} {E = X} name (with_part z) z) e)

module _ (N : Record) (k : ℕ) where
  pub part_is : {Y : Type 0} (get : ValuesAt N.parts k → Y) (part : N.D → Y) (s : N.D) (v : ValuesAt N.parts k)
      → s ≡ at N k v → get v ≡ part (at N k v) → get (values_d N k v s) ≡ part s
  part_is get part s v e same =
      ap (λ (z : N.D). get (values_d N k v z)) e ∙ ap get (values_d_at N k v v) ∙ same ∙ sym (ap part e)

  -- parts that were lent one after another, as the fields of the variant
  pub kept_in : (put : ValuesAt N.parts k → N.D) (Q : N.D → Type 0) (s : N.D) (v : ValuesAt N.parts k) → s ≡ at N k v → Q (put v) → Q (put (values_d N k v s))
  kept_in put Q s v e h = subst Q (sym (ap (λ (z : N.D). put (values_d N k v z)) e ∙ ap put (values_d_at N k v v))) h

module _ (N : Record) (k : ℕ) where
  -- one part that was lent, or what is in it
  pub left_in : {Y : Type 0} (put : ValuesAt N.parts k → Y → N.D) (get : ValuesAt N.parts k → Y) (step : Y → Y) (Q : N.D → Type 0) (s : N.D)
      (v : ValuesAt N.parts k)
      → s ≡ at N k v → Q (put v (step (get v))) → Q (put_part N k put (values_o N k s) s (step (get (values_d N k v s))))
  left_in put get step Q s v e h =
      subst Q
      (sym
      (ap (λ (z : N.D). put_part N k put (values_o N k z) z (step (get (values_d N k v z)))) e
      ∙ ap (λ (o : maybe.Option (ValuesAt N.parts k)). put_part N k put o (at N k v) (step (get (values_d N k v (at N k v))))) (values_o_at N k v)
      ∙ ap (λ (w : ValuesAt N.parts k). put v (step (get w))) (values_d_at N k v v)))
      h

-- a vector all of whose items were written
pub with_items_all : {X Z : Type 0} (v : Vec X Z) (ws : List X) → length ws ≡ length v.items → (with_items v ws).items ≡ ws
with_items_all v ws e = with_items_is v ws (e ∙ sym v.ok.0)
