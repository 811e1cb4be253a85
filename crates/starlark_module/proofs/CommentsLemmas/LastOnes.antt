-- The last element of a list is replaced.
use Rattle.std.proofs.Common.{◌≡◌, ℕ, ◌+◌, ◌-◌, ◌<◌, List, [], ◌∷◌, ◌++◌, length, map, get_or, set, sym, ap, ◌∙◌, arith}
use Rattle.std.proofs.lemmas.List.{length-map, length_push, get_or-map, get_or_at, map-set, set_at}

module _ {A B : Type 0} (f : A → B) (xs : List A) (n : ℕ) (old new : A) (front : List B) (last : B) (n_is : n ≡ length xs)
    (old_is : old ≡ get_or xs (n - 1) old) (ends_so : map f xs ≡ front ++ last ∷ []) where
  counted : n ≡ length front + 1
  counted = n_is ∙ sym (length-map xs f) ∙ ap length ends_so ∙ length_push front last

  before : length front ≡ n - 1
  before = let e = counted in omega (arith, e)

  within : n - 1 < length xs
  within = let e = counted in let is = n_is in omega (arith, e, is)

  pub was_last : f old ≡ last
  was_last = ap f old_is ∙ sym (get_or-map f xs (n - 1) old (f old) within) ∙ ap (λ ys. get_or ys (n - 1) (f old)) ends_so
      ∙ get_or_at front last [] (f old) (n - 1) before

  pub ends_with_new : map f (set xs (n - 1) new) ≡ front ++ f new ∷ []
  ends_with_new = map-set f xs (n - 1) new ∙ ap (λ ys. set ys (n - 1) (f new)) ends_so ∙ set_at front last [] (f new) (n - 1) before

-- an empty list has no last element
pub some_last : {A B C : Type 0} (f : A → B) (xs : List A) (n : ℕ) (front : List B) (last : B) → n ≡ length xs → map f xs ≡ front ++ last ∷ [] → (0 < n → C) → C
some_last f xs n front last n_is ends_so none =
    let counted : n ≡ length front + 1 = n_is ∙ sym (length-map xs f) ∙ ap length ends_so ∙ length_push front last in
    none (omega (arith, counted))
