-- What closures have collected that a walk called at each of its nodes.
use Rattle.std.proofs.Common.{◌≡◌, Bool, true, false, cond, ◌||◌, List, [], ◌∷◌, ◌++◌, Result, Ok, filter, map, not, inl, inr, refl, sym, ap, ◌∙◌, append_assoc}
use Rattle.std.proofs.Common.{append-nil}
use Rattle.std.specs.List.{flat_map, list_any}
use Rattle.std.specs.Str.{bytes_eq}
use Rattle.starlark_syntax.specs.lexer.Tokens.{Text}
use Rattle.starlark_syntax.specs.tree.Walks.{Walk, walk}

-- a test of what is seen of an item
pub seen_filtered : {X Y : Type 0} (seen : X → Y) (test : X → Bool) (keeps : Y → Bool) → ((x : X) → test x ≡ keeps (seen x))
    → (xs : List X) → map seen (filter test xs) ≡ filter keeps (map seen xs)
seen_filtered seen test keeps same [] = refl
seen_filtered {X = X} {Y = Y} seen test keeps same (x ∷ xs) = rw (same x) (by (keeps (seen x)) (seen_filtered seen test keeps same xs))
  where
    by : (b : Bool) → map seen (filter test xs) ≡ filter keeps (map seen xs)
        → map seen (cond b (x ∷ filter test xs) (filter test xs)) ≡ cond b (seen x ∷ filter keeps (map seen xs)) (filter keeps (map seen xs))
    by true rest = ap (λ l. seen x ∷ l) rest
    by false rest = rest

or_later : (a b c : Bool) → cond b true (cond a true c) ≡ cond (a || b) true c
or_later true true c = refl
or_later true false c = refl
or_later false true c = refl
or_later false false c = refl

-- each call adds the text of its node to those that were collected before, and keeps what the closure refers to
module _ {S X E R : Type 0} (call : S → X → Result (Unit {0}) E → S → Type 0) (has : S → Text → Bool) (refers : S → R) (text : X → Text)
    (one : (s : S) (x : X) (t : S) → call s x (Ok tt) t → ((name : Text) → has t name ≡ cond (bytes_eq (text x) name) true (has s name))
    × (refers t ≡ refers s)) where
  takes : (s : S) (xs : List X) (t : S) → walk call s xs (Ok tt) t
      → ((name : Text) → has t name ≡ cond (list_any (λ x. bytes_eq (text x) name) xs) true (has s name)) × (refers t ≡ refers s)
  takes s [] t p = (λ name. ap (λ u. has u name) p.1, ap refers p.1)
  takes s (x ∷ xs) t (inl p) = let e = p.2 in absurd (cc)
  takes s (x ∷ xs) t (inr p) =
      let first = one s x p.0 p.1 in
      let rest = takes p.0 xs t p.2 in (
        λ name. rest.0 name ∙ ap (λ b. cond (list_any (λ x. bytes_eq (text x) name) xs) true b) (first.0 name)
            ∙ or_later (bytes_eq (text x) name) (list_any (λ x. bytes_eq (text x) name) xs) (has s name),
        rest.1 ∙ first.1,
      )

  pub taken : {s : S} {xs : List X} {t : S} → Walk call s xs (Ok tt) t
      → ((name : Text) → has t name ≡ cond (list_any (λ x. bytes_eq (text x) name) xs) true (has s name)) × (refers t ≡ refers s)
  taken {s} {xs} {t} p = takes s xs t p.calls

pub or_nothing : (b : Bool) → cond b true false ≡ b
or_nothing true = refl
or_nothing false = refl

-- each call adds to what the closure contains, by what the closure refers to and its node, and keeps what it refers to
module _ {S X E V R Q : Type 0} (call : S → X → Result (Unit {0}) E → S → Type 0) (out : S → List V) (keeps : S → Q) (refers : S → R) (added : R → X → List V)
    (one : (s : S) (x : X) (t : S) → call s x (Ok tt) t → (out t ≡ out s ++ added (refers s) x) × ((keeps t ≡ keeps s) × (refers t ≡ refers s))) where
  adds : (s : S) (xs : List X) (t : S) → walk call s xs (Ok tt) t
      → (out t ≡ out s ++ flat_map (added (refers s)) xs) × ((keeps t ≡ keeps s) × (refers t ≡ refers s))
  adds s [] t p = (ap out p.1 ∙ sym (append-nil (out s)), (ap keeps p.1, ap refers p.1))
  adds s (x ∷ xs) t (inl p) = let e = p.2 in absurd (cc)
  adds s (x ∷ xs) t (inr p) =
      let first = one s x p.0 p.1 in
      let rest = adds p.0 xs t p.2 in (
        rest.0 ∙ ap (λ r. out p.0 ++ flat_map (added r) xs) first.1.1 ∙ ap (λ ys. ys ++ flat_map (added (refers s)) xs) first.0
            ∙ append_assoc (out s) (added (refers s) x) (flat_map (added (refers s)) xs),
        (rest.1.0 ∙ first.1.0, rest.1.1 ∙ first.1.1),
      )

  pub all_added : {s : S} {xs : List X} {t : S} → Walk call s xs (Ok tt) t
      → (out t ≡ out s ++ flat_map (added (refers s)) xs) × ((keeps t ≡ keeps s) × (refers t ≡ refers s))
  all_added {s} {xs} {t} p = adds s xs t p.calls

pub each_alone : {X Y : Type 0} (f : X → Y) (xs : List X) → flat_map (λ x. f x ∷ []) xs ≡ map f xs
each_alone f [] = refl
each_alone f (x ∷ xs) = ap (λ l. f x ∷ l) (each_alone f xs)
