-- Calls one after another add what each adds.
use Rattle.std.proofs.Common.{ℕ, ◌+◌, ◌<◌, ◌≤◌, sym, Result, Ok, Err, ◌≡◌, List, [], ◌∷◌, ◌++◌, length, take, get_or, ap, ◌∙◌, append_assoc, append-nil}
use Rattle.std.proofs.Common.{Vec, Global}
use Rattle.std.proofs.lemmas.List.{take_all, take_more}
use Rattle.std.proofs.lemmas.Grind.{flat_map-append}
use Rattle.std.specs.List.{flat_map}
use Rattle.std.specs.Result.{OnOk}
use Rattle.starlark_compact.specs.Adds.{Adds}

module _ {E : Type 0} where
  then_ok : {A B : Type 0} (r : Result (Unit {0}) E) → (A → B) → OnOk r A → OnOk r B
  then_ok (Ok x) f p = f p
  then_ok (Err e) f p = p

  pub next : {r : Result (Unit {0}) E} {o m n : Vec ℕ Global} {ts us : List ℕ} {u : Unit {0}} → Adds {E = E} (Ok u) o m ts → Adds r m n us
      → Adds r o n (ts ++ us)
  next {r} {o} {m} {n} {ts} {us} p q =
      record { bytes = then_ok r (λ is. is ∙ ap (λ l. l ++ us) p.bytes ∙ append_assoc o.items ts us) q.bytes }

module _ {X : Type 0} (bytes_of : X → List ℕ) where
  one_more : (xs : List X) (i : ℕ) (x : X) → i < length xs → x ≡ get_or xs i x → flat_map bytes_of (take (i + 1) xs) ≡ flat_map bytes_of (take i xs)
      ++ bytes_of x
  one_more xs i x lt is =
      ap (flat_map bytes_of) (take_more xs i x lt) ∙ flat_map-append bytes_of (take i xs) (get_or xs i x ∷ [])
      ∙ ap (λ l. flat_map bytes_of (take i xs) ++ l) (append-nil (bytes_of (get_or xs i x)) ∙ ap bytes_of (sym is))

  -- the items before one, and that one
  pub more : {E : Type 0} {u : Unit {0}} (o m n : Vec ℕ Global) (xs : List X) (i : ℕ) (x : X) → i < length xs → x ≡ get_or xs i x
      → m.items ≡ o.items ++ flat_map bytes_of (take i xs) → Adds {E = E} (Ok u) m n (bytes_of x)
      → n.items ≡ o.items ++ flat_map bytes_of (take (i + 1) xs)
  more o m n xs i x lt is p q =
      q.bytes ∙ ap (λ l. l ++ bytes_of x) p ∙ append_assoc o.items (flat_map bytes_of (take i xs)) (bytes_of x)
      ∙ ap (λ l. o.items ++ l) (sym (one_more xs i x lt is))

  -- all items
  pub done : {E : Type 0} (o m : Vec ℕ Global) (xs : List X) (i : ℕ) → length xs ≤ i
      → m.items ≡ o.items ++ flat_map bytes_of (take i xs) → Adds {E = E} (Ok tt) o m (flat_map bytes_of xs)
  done o m xs i end p = record { bytes = p ∙ ap (λ l. o.items ++ flat_map bytes_of l) (take_all i xs end) }
