-- Calls one after another add what each adds.
use Rattle.std.proofs.Common.{ℕ, ◌+◌, ◌<◌, ◌≤◌, refl, sym, Result, Ok, Err, ◌≡◌, List, [], ◌∷◌, ◌++◌, length, take, get_or, ap, ◌∙◌, append_assoc, append-nil}
use Rattle.std.proofs.lemmas.List.{take_all, take_more}
use Rattle.std.proofs.lemmas.Grind.{flat_map-append}
use Rattle.std.specs.List.{flat_map}
use Rattle.std.specs.Result.{OnOk}
use Rattle.json.specs.Token.{Token, end_array}
use Rattle.json.specs.Written.{Written, Writes}
use Rattle.json.specs.Tree.{items_tokens}
use Rattle.starlark_json.specs.Tree.Adds.{Adds}
use Rattle.starlark_json.specs.Tree.Fields.{numbers_json}
use Rattle.starlark_json.specs.Tree.Tokens.{number_tokens}

module _ {E : Type 0} where
  then_ok : {A B : Type 0} (r : Result (Unit {0}) E) → (A → B) → OnOk r A → OnOk r B
  then_ok (Ok x) f p = f p
  then_ok (Err e) f p = p

  -- a call of the writer adds its token
  pub one : {r : Result (Unit {0}) E} {o n : Written} {t : Token} → Writes r o n t → Adds r o n (t ∷ [])
  one w = record { tokens = w.ok; before = w.room.0 }

  pub next : {r : Result (Unit {0}) E} {o m n : Written} {ts us : List Token} {u : Unit {0}} → Adds {E = E} (Ok u) o m ts → Adds r m n us
      → Adds r o n (ts ++ us)
  next {r} {o} {m} {n} {ts} {us} p q =
      record {
        tokens = then_ok r (λ is. is ∙ ap (λ l. l ++ us) p.tokens ∙ append_assoc o.tokens ts us) q.tokens;
        before = q.before ∙ p.before;
      }

module _ {X : Type 0} (tokens_of : X → List Token) where
  one_more : (xs : List X) (i : ℕ) (x : X) → i < length xs → x ≡ get_or xs i x → flat_map tokens_of (take (i + 1) xs) ≡ flat_map tokens_of (take i xs)
      ++ tokens_of x
  one_more xs i x lt is =
      ap (flat_map tokens_of) (take_more xs i x lt) ∙ flat_map-append tokens_of (take i xs) (get_or xs i x ∷ [])
      ∙ ap (λ l. flat_map tokens_of (take i xs) ++ l) (append-nil (tokens_of (get_or xs i x)) ∙ ap tokens_of (sym is))

  -- the items before one, and that one
  pub more : {E : Type 0} {u : Unit {0}} (o m n : Written) (xs : List X) (i : ℕ) (x : X) → i < length xs → x ≡ get_or xs i x
      → (m.tokens ≡ o.tokens ++ flat_map tokens_of (take i xs)) × (m.before ≡ o.before) → Adds {E = E} (Ok u) m n (tokens_of x)
      → (n.tokens ≡ o.tokens ++ flat_map tokens_of (take (i + 1) xs)) × (n.before ≡ o.before)
  more o m n xs i x lt is p q = (
    q.tokens ∙ ap (λ l. l ++ tokens_of x) p.0 ∙ append_assoc o.tokens (flat_map tokens_of (take i xs)) (tokens_of x)
        ∙ ap (λ l. o.tokens ++ l) (sym (one_more xs i x lt is)),
    q.before ∙ p.1,
  )

  -- all items
  pub done : {E : Type 0} (o m : Written) (xs : List X) (i : ℕ) → length xs ≤ i
      → (m.tokens ≡ o.tokens ++ flat_map tokens_of (take i xs)) × (m.before ≡ o.before) → Adds {E = E} (Ok tt) o m (flat_map tokens_of xs)
  done o m xs i end p = record { tokens = p.0 ∙ ap (λ l. o.tokens ++ flat_map tokens_of l) (take_all i xs end); before = p.1 }

pub numbers_listed : (ns : List ℕ) → items_tokens (numbers_json ns) ≡ flat_map number_tokens ns ++ end_array ∷ []
numbers_listed [] = refl
numbers_listed (n ∷ ns) = ap (λ ts. number_tokens n ++ ts) (numbers_listed ns)
