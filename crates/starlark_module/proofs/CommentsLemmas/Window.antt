-- Suppressions outside a part of the list do not meet a span.
use Rattle.std.proofs.Common.{◌≡◌, ℕ, ◌+◌, ◌-◌, ◌<◌, ◌≤◌, ◌↔◌, inl, inr, true, false, List, length, take, drop, get_or, Any, leb, ltb, ltb-true, sym, ap, ◌∙◌}
use Rattle.std.proofs.Common.{arith, length-drop, zero-le}
use Rattle.std.proofs.lemmas.Bool.{cases_lt, leb-false}
use Rattle.std.proofs.lemmas.List.{length-take, get_or-take, get_or-drop, get_or_default}
use Rattle.std.specs.List.{AllWithin}
use Rattle.starlark_lexer.specs.Tokens.{Text, span_of}
use Rattle.starlark_lexer.specs.declared.span.Span.{Span as CodeSpan}
use Rattle.starlark_module.specs.Comments.Building.{suppression}
use Rattle.starlark_module.specs.Comments.Suppressions.{Covers, Intersects}
use Rattle.starlark_module.specs.declared.comments.lint_suppressions.SuppressionInfo.{SuppressionInfo}

-- one more pair is in order
pub pairs-more : {A : Type 0} (n : A → ℕ) (xs : List A) (next : ℕ) (before after : A) → 1 ≤ next → next < length xs
    → before ≡ get_or xs (next - 1) before → after ≡ get_or xs next after → n before ≤ n after
    → ((k : ℕ) (d : A) → k + 1 < next → n (get_or xs k d) ≤ n (get_or xs (k + 1) d)) → (k : ℕ) (d : A) → k + 1 < next + 1
    → n (get_or xs k d) ≤ n (get_or xs (k + 1) d)
pairs-more n xs next before after some within before_is after_is order earlier k d below = elim (cases_lt (k + 1) next) [
  | inl sooner ↦ earlier k d sooner
  | inr last ↦
      let here : k ≡ next - 1 = omega arith in
      let there : k + 1 ≡ next = omega arith in
      let first = get_or_default xs k d before (omega arith) ∙ ap (λ i. get_or xs i before) here ∙ sym before_is in
      let second = get_or_default xs (k + 1) d after (omega arith) ∙ ap (λ i. get_or xs i after) there ∙ sym after_is in
      rw (first, second) order
]

-- spans that intersect begin before the other ends
ends_later : (a b : CodeSpan) → Intersects (span_of a) (span_of b) → a.begin.byte ≤ b.end.byte
ends_later a b (inl h) = let o = b.ordered in omega (arith, h.0, o)
ends_later a b (inr (inl h)) = h.0
ends_later a b (inr (inr h)) = h.1

begins_sooner : (a b : CodeSpan) → Intersects (span_of a) (span_of b) → b.begin.byte ≤ a.end.byte
begins_sooner a b (inl h) = h.1
begins_sooner a b (inr (inl h)) = let o = b.ordered in omega (arith, h.1, o)
begins_sooner a b (inr (inr h)) = let o = a.ordered in omega (arith, h.0, o)

module _ (all : List SuppressionInfo) (span : CodeSpan) (first last : ℕ) where
  abbrev pub Covering : Text → SuppressionInfo → Type 0
  Covering name s = Covers name (span_of span) (suppression s)

  kept : (name : Text) → AllWithin (λ (s : SuppressionInfo). ltb s.effective_span.end.byte span.begin.byte ≡ true) all 0 first
      → AllWithin (λ (s : SuppressionInfo). leb s.effective_span.begin.byte span.end.byte ≡ false) all last (length all)
      → (n : ℕ) → last ≤ first + n → Any (Covering name) all → Any (Covering name) (take n (drop first all))
  kept name early late n wide (k, s, within, is, h) =
      let low : first ≤ k = elim (cases_lt k first) [
        | inl below ↦ let e = ltb-true _ _ (rw is at (early k s zero-le below)) in let m = ends_later span s.effective_span h.met in absurd (omega arith)
        | inr fine ↦ fine
      ] in
      let high : k < last = elim (cases_lt k last) [
        | inl fine ↦ fine
        | inr above ↦ let e = leb-false _ _ (rw is at (late k s above within)) in let m = begins_sooner span s.effective_span h.met in absurd (omega arith)
      ] in
      let back : first + (k - first) ≡ k = omega arith in
      let few : k - first < n = omega arith in
      let found = get_or-take n (drop first all) (k - first) s few ∙ get_or-drop first all (k - first) s ∙ ap (λ i. get_or all i s) back ∙ is in
      let inside : k - first < length (take n (drop first all)) = omega (arith, length-take n (drop first all), length-drop first all) in
      (k - first, s, inside, found, h)

  back : (name : Text) (n : ℕ) → Any (Covering name) (take n (drop first all)) → Any (Covering name) all
  back name n (k, s, within, is, h) =
      let few : k < n = omega (arith, length-take n (drop first all)) in
      let inside : first + k < length all = omega (arith, length-take n (drop first all), length-drop first all) in
      (first + k, s, inside, sym (get_or-drop first all k s) ∙ sym (get_or-take n (drop first all) k s few) ∙ is, h)

  pub window : (name : Text) → AllWithin (λ (s : SuppressionInfo). ltb s.effective_span.end.byte span.begin.byte ≡ true) all 0 first
      → AllWithin (λ (s : SuppressionInfo). leb s.effective_span.begin.byte span.end.byte ≡ false) all last (length all)
      → (n : ℕ) → last ≤ first + n → Any (Covering name) (take n (drop first all)) ↔ Any (Covering name) all
  window name early late n wide = (back name n, kept name early late n wide)
