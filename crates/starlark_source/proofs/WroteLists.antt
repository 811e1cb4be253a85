-- Lists that are written by a loop.
use Rattle.std.proofs.Common.{◌≡◌, ℕ, ◌+◌, ◌-◌, ◌<◌, ◌≤◌, List, [], ◌∷◌, ◌++◌, codes, length, take, drop, get_or, refl, sym, ap, ◌∙◌, append_assoc}
use Rattle.std.proofs.Common.{append-nil, arith}
use Rattle.std.specs.List.{flat_map}
use Rattle.std.proofs.lemmas.List.{take_all, take_more}
use Rattle.std.proofs.lemmas.Grind.{flat_map-append}
use Rattle.starlark_lexer.specs.Tokens.{Text}
use Rattle.starlark_source.specs.declared.page.Page.{Page}
use Rattle.starlark_source.specs.Pages.{Draft, say, Wrote}
use Rattle.starlark_source.specs.Drafts.{drafts}
use Rattle.starlark_source.specs.Drafted.{tuple_drafts, bare_drafts}
use Rattle.starlark_source.proofs.PageLemmas.{wrote_as, wrote_append, wrote_nothing}

module _ {X : Type 0} (one : X → Draft) where
  one_more : (xs : List X) (i : ℕ) (x : X) → i < length xs → x ≡ get_or xs i x → flat_map one (take (i + 1) xs) ≡ flat_map one (take i xs) ++ one x
  one_more xs i x lt is =
      ap (flat_map one) (take_more xs i x lt) ∙ flat_map-append one (take i xs) (get_or xs i x ∷ [])
      ∙ ap (λ l. flat_map one (take i xs) ++ l) (append-nil (one (get_or xs i x)) ∙ ap one (sym is))

  -- one more item of a loop
  pub wrote_more : (p q r : Page) (xs : List X) (i : ℕ) (x : X) → i < length xs → x ≡ get_or xs i x
      → Wrote p (flat_map one (take i xs)) q → Wrote q (one x) r → Wrote p (flat_map one (take (i + 1) xs)) r
  wrote_more p q r xs i x lt is v w = wrote_as p r _ _ (wrote_append p q r _ _ v w) (sym (one_more xs i x lt is))

  pub wrote_all : (p q : Page) (xs : List X) (i : ℕ) → length xs ≤ i → Wrote p (flat_map one (take i xs)) q → Wrote p (flat_map one xs) q
  wrote_all p q xs i end w = wrote_as p q _ _ w (ap (flat_map one) (take_all i xs end))

  -- a list is its first item and the rest, as a slice's pattern splits it
  first_and_rest : (between : Text) (xs : List X) (x : X) (i : ℕ) → 1 ≤ length xs → x ≡ get_or xs 0 x → length (take (length xs - 1) (drop 1 xs)) ≤ i
      → one x ++ flat_map (λ (y : X). say between ++ one y) (take i (take (length xs - 1) (drop 1 xs))) ≡ drafts one between xs
  first_and_rest between [] x i some same end = absurd (omega arith)
  first_and_rest between (y ∷ ys) x i some same end =
      ap (λ z. one z ++ flat_map (λ (y : X). say between ++ one y) (take i (take (length (y ∷ ys) - 1) (drop 1 (y ∷ ys))))) same
      ∙ ap (λ l. one y ++ flat_map (λ (y : X). say between ++ one y) l)
      (take_all i (take (length (y ∷ ys) - 1) (drop 1 (y ∷ ys))) end ∙ take_all (length (y ∷ ys) - 1) ys (omega arith))

  -- the first item, and the others after commas
  pub wrote_list : (between : Text) (p q r : Page) (xs : List X) (x : X) (i : ℕ) → 1 ≤ length xs → x ≡ get_or xs 0 x
      → length (take (length xs - 1) (drop 1 xs)) ≤ i → Wrote p (one x) q
      → Wrote q (flat_map (λ (y : X). say between ++ one y) (take i (take (length xs - 1) (drop 1 xs)))) r → Wrote p (drafts one between xs) r
  wrote_list between p q r xs x i some same end v w = wrote_as p r _ _ (wrote_append p q r _ _ v w) (first_and_rest between xs x i some same end)

  none_listed : (between : Text) (xs : List X) → length xs < 1 → [] ≡ drafts one between xs
  none_listed between [] none = refl
  none_listed between (x ∷ xs) none = absurd (omega arith)

  pub wrote_none : (between : Text) (p : Page) (xs : List X) → length xs < 1 → Wrote p (drafts one between xs) p
  wrote_none between p xs none = wrote_as p p _ _ (wrote_nothing p) (none_listed between xs none)

  only_part : (xs : List X) (x : X) → 1 ≤ length xs → length xs < 2 → x ≡ get_or xs 0 x → one x ++ say (codes ",") ≡ tuple_drafts one xs
  only_part [] x some few same = absurd (omega arith)
  only_part (y ∷ []) x some few same = ap (λ z. one z ++ say (codes ",")) same
  only_part (y ∷ z ∷ ys) x some few same = absurd (omega arith)

  -- the single element of a tuple, with its comma and the closing parenthesis
  pub wrote_only : (p q r s : Page) (xs : List X) (x : X) → 1 ≤ length xs → length xs < 2 → x ≡ get_or xs 0 x
      → Wrote p (say (codes "(")) q → Wrote q (one x) r → Wrote r (say (codes ",)")) s
      → Wrote p (say (codes "(") ++ (tuple_drafts one xs ++ say (codes ")"))) s
  wrote_only p q r s xs x some few same u v w =
      wrote_append p q s _ _ u (wrote_as q s _ _ (wrote_append q r s _ _ v w)
      (sym (append_assoc (one x) (say (codes ",")) (say (codes ")"))) ∙ ap (λ l. l ++ say (codes ")")) (only_part xs x some few same)))

  no_part : (xs : List X) → length xs < 1 → drafts one (codes ", ") xs ≡ tuple_drafts one xs
  no_part [] none = refl
  no_part (x ∷ xs) none = absurd (omega arith)

  many_parts : (xs : List X) → 2 ≤ length xs → drafts one (codes ", ") xs ≡ tuple_drafts one xs
  many_parts [] many = absurd (omega arith)
  many_parts (x ∷ []) many = absurd (omega arith)
  many_parts (x ∷ y ∷ xs) many = refl

  -- a tuple of no elements, or of more than one, is a list in parentheses
  pub wrote_no_part : (p q : Page) (xs : List X) → length xs < 1 → Wrote p (say (codes "(") ++ (drafts one (codes ", ") xs ++ say (codes ")"))) q
      → Wrote p (say (codes "(") ++ (tuple_drafts one xs ++ say (codes ")"))) q
  wrote_no_part p q xs none w = wrote_as p q _ _ w (ap (λ l. say (codes "(") ++ (l ++ say (codes ")"))) (no_part xs none))

  pub wrote_many : (p q : Page) (xs : List X) → 2 ≤ length xs → Wrote p (say (codes "(") ++ (drafts one (codes ", ") xs ++ say (codes ")"))) q
      → Wrote p (say (codes "(") ++ (tuple_drafts one xs ++ say (codes ")"))) q
  wrote_many p q xs many w = wrote_as p q _ _ w (ap (λ l. say (codes "(") ++ (l ++ say (codes ")"))) (many_parts xs many))

  -- where a list is allowed, two elements or more need no parentheses
  pub bare_many : (xs : List X) → 2 ≤ length xs → drafts one (codes ", ") xs ≡ bare_drafts one xs
  bare_many [] many = absurd (omega arith)
  bare_many (x ∷ []) many = absurd (omega arith)
  bare_many (x ∷ y ∷ xs) many = refl

  pub bare_few : (xs : List X) → length xs < 2 → say (codes "(") ++ (tuple_drafts one xs ++ say (codes ")")) ≡ bare_drafts one xs
  bare_few [] few = refl
  bare_few (x ∷ []) few = refl
  bare_few (x ∷ y ∷ xs) few = absurd (omega arith)
