-- A run of bytes that have no escape, and the byte after it.
use Rattle.std.proofs.Common.{◌≡◌, ℕ, suc, ◌+◌, ◌==◌, ◌<◌, Bool, true, false, inl, inr, List, [], ◌∷◌, ◌++◌, length, get_or, take, drop}
use Rattle.std.proofs.Common.{refl, sym, ap, ◌∙◌, append_assoc, append-nil, arith}
use Rattle.std.specs.Prelude.{if◌then◌else◌}
use Rattle.std.specs.List.{flat_map, prefix_len}
use Rattle.std.proofs.lemmas.Bool.{cases_Bool, false≢true}
use Rattle.std.proofs.lemmas.List.{at_drop_more, drop_all, take_all}
use Rattle.std.proofs.lemmas.List.Sums.{prefix_len_stops}
use Rattle.starlark_lexer.specs.Tokens.{Text}
use Rattle.starlark_tree.specs.Literals.{escaped}
use Rattle.starlark_tree.specs.Escapes.{is_plain}

-- a text of two bytes is not one of one byte
two_or_one : (c : Bool) (x y z : Text) → length x ≡ 2 → ((length y == 1) ≡ true → y ≡ z) → (length (if c then x else y) == 1) ≡ true
    → (if c then x else y) ≡ z
two_or_one true x y z two other h = absurd (false≢true (sym (ap (λ k. k == 1) two) ∙ h))
two_or_one false x y z two other h = other h

pub plain_kept : (b : ℕ) → is_plain b ≡ true → escaped b ≡ b ∷ []
plain_kept b =
    two_or_one (b == 10) _ _ _ refl (two_or_one (b == 9) _ _ _ refl (two_or_one (b == 13) _ _ _ refl
    (two_or_one (b == 0) _ _ _ refl (two_or_one (b == 34) _ _ _ refl (two_or_one (b == 92) _ _ _ refl (λ h. refl))))))

one_more : (n : ℕ) → 1 + n ≡ suc n
one_more n = omega arith

run_kept : (s : Text) → flat_map escaped s ≡ take (prefix_len is_plain s) s ++ flat_map escaped (drop (prefix_len is_plain s) s)
run_kept [] = refl
run_kept (b ∷ bs) =
    elim (cases_Bool (is_plain b)) [
      | inl stands ↦ rw stands (ap (λ t. t ++ flat_map escaped bs) (plain_kept b stands) ∙ ap (λ t. b ∷ t) (run_kept bs)
          ∙ ap (λ k. take k (b ∷ bs) ++ flat_map escaped (drop k (b ∷ bs))) (sym (one_more (prefix_len is_plain bs))))
      | inr other ↦ rw other refl
    ]

-- a text without escapes is written unchanged
pub all_kept : (s : Text) (n : ℕ) → n ≡ prefix_len is_plain s → n ≡ length s → flat_map escaped s ≡ s
all_kept s n run all =
    run_kept s ∙ ap (λ k. take k s ++ flat_map escaped (drop k s)) (sym run) ∙ ap (λ t. t ++ flat_map escaped (drop n s)) (take_all n s (omega arith))
    ∙ ap (λ t. s ++ flat_map escaped t) (drop_all n s (omega arith)) ∙ append-nil s

-- a run, and the escape after it
pub piece_kept : (whole done s : Text) (n : ℕ) → n ≡ prefix_len is_plain s → n < length s → whole ≡ done ++ flat_map escaped s
    → whole ≡ ((done ++ take n s) ++ escaped (get_or s n 0)) ++ flat_map escaped (drop (n + 1) s)
piece_kept whole done s n run within before =
    let first = take n s in
    let byte = escaped (get_or s n 0) in
    let after = flat_map escaped (drop (n + 1) s) in
    let here : flat_map escaped s ≡ first ++ (byte ++ after) =
    run_kept s ∙ ap (λ k. take k s ++ flat_map escaped (drop k s)) (sym run) ∙ ap (λ t. first ++ t) (at_drop_more (flat_map escaped) s n 0 within) in
    before ∙ ap (λ t. done ++ t) here ∙ sym (append_assoc (done ++ first) byte after ∙ append_assoc done first (byte ++ after))

-- the byte after a run has an escape
pub run_ends_at_escape : (s : Text) (n : ℕ) → n ≡ prefix_len is_plain s → n < length s → escaped (get_or s n 0) ≡ get_or s n 0 ∷ [] → ⊥
run_ends_at_escape s n run within kept =
    let stops : is_plain (get_or s n 0) ≡ false = ap (λ k. is_plain (get_or s k 0)) run ∙ prefix_len_stops is_plain s 0 (omega arith) in
    false≢true (sym stops ∙ ap (λ t. length t == 1) kept)
