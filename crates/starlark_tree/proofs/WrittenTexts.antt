-- Texts that are written one after another, to a formatter or by a loop.
use Rattle.std.proofs.Common.{◌≡◌, ℕ, ◌+◌, ◌-◌, ◌<◌, ◌≤◌, List, [], ◌∷◌, ◌++◌, codes, length, take, drop, get_or, true, Result, Ok, Err, refl, sym, ap, ◌∙◌}
use Rattle.std.proofs.Common.{append_assoc, append-nil, arith}
use Rattle.std.specs.List.{flat_map}
use Rattle.std.specs.Result.{IsErrAnd, IsOk}
use Rattle.std.proofs.lemmas.Bool.{false≢true}
use Rattle.std.specs.Fmt.{HasWritten, IsPlainFormatter}
use Rattle.std.specs.declared.fmt.Formatter.{Formatter}
use Rattle.std.proofs.Output.{has_written_append, has_written_of_eq, writes_in_calls_nil}
use Rattle.std.proofs.lemmas.List.{take_all, take_more}
use Rattle.std.proofs.lemmas.Grind.{flat_map-append}
use Rattle.starlark_lexer.specs.Tokens.{Text}
use Rattle.starlark_tree.specs.Joined.{comma_separated, tuple_parts}

-- that a call's result, which the arm of a `?` knows to be `Ok`, is not an error
pub was_ok : true ≡ true
was_ok = refl

-- what `?` returns is an error
pub no_error : {T E : Type 0} (Q : E → Type 0) (r : Result T E) → IsErrAnd r Q → IsOk r → ⊥
no_error Q (Ok x) is ok = is
no_error Q (Err e) is ok = absurd (false≢true ok)

module _ {X : Type 0} (text : X → Text) where
  one_more_text : (xs : List X) (i : ℕ) (x : X) → i < length xs → x ≡ get_or xs i x → flat_map text (take (i + 1) xs) ≡ flat_map text (take i xs) ++ text x
  one_more_text xs i x lt is =
      ap (flat_map text) (take_more xs i x lt) ∙ flat_map-append text (take i xs) (get_or xs i x ∷ [])
      ∙ ap (λ l. flat_map text (take i xs) ++ l) (append-nil (text (get_or xs i x)) ∙ ap text (sym is))

  -- a list is its first item and the rest, as a slice's pattern splits it
  first_and_rest : (xs : List X) (x : X) (i : ℕ) → 1 ≤ length xs → x ≡ get_or xs 0 x → length (take (length xs - 1) (drop 1 xs)) ≤ i
      → text x ++ flat_map (λ (y : X). codes ", " ++ text y) (take i (take (length xs - 1) (drop 1 xs))) ≡ comma_separated text xs
  first_and_rest [] x i some same end = absurd (omega arith)
  first_and_rest (y ∷ ys) x i some same end =
      ap (λ z. text z ++ flat_map (λ (y : X). codes ", " ++ text y) (take i (take (length (y ∷ ys) - 1) (drop 1 (y ∷ ys))))) same
      ∙ ap (λ l. text y ++ flat_map (λ (y : X). codes ", " ++ text y) l)
      (take_all i (take (length (y ∷ ys) - 1) (drop 1 (y ∷ ys))) end ∙ take_all (length (y ∷ ys) - 1) ys (omega arith))

  none_listed : (xs : List X) → length xs < 1 → [] ≡ comma_separated text xs
  none_listed [] none = refl
  none_listed (x ∷ xs) none = absurd (omega arith)

  only_part : (xs : List X) (x : X) → 1 ≤ length xs → length xs < 2 → x ≡ get_or xs 0 x → tuple_parts text xs ≡ text x ++ codes ","
  only_part [] x some few same = absurd (omega arith)
  only_part (y ∷ []) x some few same = ap (λ z. text z ++ codes ",") (sym same)
  only_part (y ∷ z ∷ ys) x some few same = absurd (omega arith)

  no_part : (xs : List X) → length xs < 1 → comma_separated text xs ≡ tuple_parts text xs
  no_part [] none = refl
  no_part (x ∷ xs) none = absurd (omega arith)

  many_parts : (xs : List X) → 2 ≤ length xs → comma_separated text xs ≡ tuple_parts text xs
  many_parts [] many = absurd (omega arith)
  many_parts (x ∷ []) many = absurd (omega arith)
  many_parts (x ∷ y ∷ xs) many = refl

module _ {W : Type 0} (took : W → List ℕ → W → Type 0) where
  pub nothing : (f : Formatter W) → IsPlainFormatter f → HasWritten took f [] f
  nothing f plain = record { wrote = writes_in_calls_nil took _; plain = plain }

  -- the text a, and then the text of b and c
  pub then_two : (f g h : Formatter W) (a b c : List ℕ) → HasWritten took f a g → HasWritten took g (b ++ c) h → HasWritten took f ((a ++ b) ++ c) h
  then_two f g h a b c p q = has_written_of_eq took _ _ _ _ (sym (append_assoc a b c)) (has_written_append took _ _ _ _ _ p q)

  module _ {X : Type 0} (text : X → Text) where
    pub none_written : (f : Formatter W) → IsPlainFormatter f → HasWritten took f (flat_map text []) f
    none_written f plain = nothing f plain

    -- the text of one more item
    pub more_written : (f g h : Formatter W) (xs : List X) (i : ℕ) (x : X) → i < length xs → x ≡ get_or xs i x
        → HasWritten took f (flat_map text (take i xs)) g → HasWritten took g (text x) h → HasWritten took f (flat_map text (take (i + 1) xs)) h
    more_written f g h xs i x lt is p q = has_written_of_eq took _ _ _ _ (sym (one_more_text text xs i x lt is)) (has_written_append took _ _ _ _ _ p q)

    pub all_written : (f g : Formatter W) (xs : List X) (i : ℕ) → length xs ≤ i → HasWritten took f (flat_map text (take i xs)) g
        → HasWritten took f (flat_map text xs) g
    all_written f g xs i end p = has_written_of_eq took _ _ _ _ (ap (flat_map text) (take_all i xs end)) p

    -- the first item's text, and the others' after commas
    pub listed_written : (f g h : Formatter W) (xs : List X) (x : X) (i : ℕ) → 1 ≤ length xs → x ≡ get_or xs 0 x → length (take (length xs - 1) (drop 1 xs)) ≤ i
        → HasWritten took f (text x) g → HasWritten took g (flat_map (λ (y : X). codes ", " ++ text y) (take i (take (length xs - 1) (drop 1 xs)))) h
        → HasWritten took f (comma_separated text xs) h
    listed_written f g h xs x i some same end p q = has_written_of_eq took _ _ _ _ (first_and_rest text xs x i some same end)
        (has_written_append took _ _ _ _ _ p q)

    pub none_listed_written : (f : Formatter W) (xs : List X) → length xs < 1 → IsPlainFormatter f → HasWritten took f (comma_separated text xs) f
    none_listed_written f xs none plain = has_written_of_eq took _ _ _ _ (none_listed text xs none) (nothing f plain)

    -- the parentheses and the single element of a tuple, with its comma
    pub only_written : (f g h i : Formatter W) (xs : List X) (x : X) → 1 ≤ length xs → length xs < 2 → x ≡ get_or xs 0 x
        → HasWritten took f (codes "(") g → HasWritten took g (text x) h → HasWritten took h (codes ",)") i
        → HasWritten took f (codes "(" ++ tuple_parts text xs ++ codes ")") i
    only_written f g h i xs x some few same p q r =
        has_written_of_eq took _ _ _ _
        (sym (ap (λ t. codes "(" ++ t ++ codes ")") (only_part text xs x some few same)
        ∙ ap (λ t. codes "(" ++ t) (append_assoc (text x) (codes ",") (codes ")"))))
        (has_written_append took _ _ _ _ _ (has_written_append took _ _ _ _ _ p q) r)

    -- a tuple of no elements, or of more than one, is a list in parentheses
    pub none_tupled : (f g : Formatter W) (xs : List X) → length xs < 1
        → HasWritten took f (codes "(" ++ comma_separated text xs ++ codes ")") g → HasWritten took f (codes "(" ++ tuple_parts text xs ++ codes ")") g
    none_tupled f g xs none p = has_written_of_eq took _ _ _ _ (ap (λ t. codes "(" ++ t ++ codes ")") (no_part text xs none)) p

    pub many_tupled : (f g : Formatter W) (xs : List X) → 2 ≤ length xs
        → HasWritten took f (codes "(" ++ comma_separated text xs ++ codes ")") g → HasWritten took f (codes "(" ++ tuple_parts text xs ++ codes ")") g
    many_tupled f g xs many p = has_written_of_eq took _ _ _ _ (ap (λ t. codes "(" ++ t ++ codes ")") (many_parts text xs many)) p
