-- The value of a raw literal is its text.
use Rattle.std.proofs.Common.{◌≡◌, ℕ, zero, suc, ◌+◌, ◌<◌, true, false, not, ◌&&◌, ◌||◌, ◌==◌, nat_lt, List, [], ◌∷◌, ◌++◌, length, get_or, take, drop, IsUtf8}
use Rattle.std.proofs.Common.{Result, Ok, Err, refl, sym, ap, ◌∙◌, arith}
use Rattle.std.proofs.lemmas.Bool.{cond_both, lt-ltb, true≢false}
use Rattle.std.proofs.lemmas.Bool.Decides.{nat_tests}
use Rattle.std.proofs.Math.Seq.{take-add}
use Rattle.std.specs.List.{prefix_len}
use Rattle.starlark_lexer.specs.declared.string.escape.Adds.TheVariants.{Front}
use Rattle.starlark_lexer.specs.declared.string.escape.Piece.{Piece}
use Rattle.starlark_lexer.specs.declared.string.escape.Stop.{Stop}
use Rattle.starlark_lexer.specs.declared.string.opening.Style.{Style}
use Rattle.starlark_lexer.specs.Openings.{is_quote}
use Rattle.starlark_lexer.specs.Pieces.{is_brace, is_plain, as_it_stands, at_quote, raw_backslash, at_newline, special, piece, added}
use Rattle.starlark_lexer.specs.Strings.{Run, run_from, run_within, run}
use Rattle.starlark_lexer.proofs.StringRuns.{after_shorter}

abbrev pub AddsItself : Result Piece Stop → Type 0
AddsItself (Ok p) = p.adds ≡ Front p.len
AddsItself (Err stop) = Unit {0}

-- a piece adds its own bytes
pub record IsCopied (r : Result Piece Stop) : Type 0 where
  pub adds : AddsItself r

at_quote_copied : (style : Style) (text : List ℕ) → IsCopied (at_quote style text)
unfolding at_quote
at_quote_copied style text =
    cond_both (style.triple && not (get_or text 1 0 == style.quote && get_or text 2 0 == style.quote)) _ _ IsCopied (λ _. record { adds = refl })
    (λ _. record { adds = tt })

raw_copied : (style : Style) (text : List ℕ) → IsCopied (Ok (raw_backslash style text))
unfolding raw_backslash
raw_copied style text =
    let P : Piece → Type 0 = λ p. IsCopied (Ok p) in
    cond_both (get_or text 1 0 == style.quote || get_or text 1 0 == 92) (as_it_stands 2) (as_it_stands 1) P (λ _. record { adds = refl })
    (λ _. record { adds = refl })

at_newline_copied : (text : List ℕ) → IsCopied (at_newline text)
unfolding at_newline
at_newline_copied text =
    cond_both (get_or text 0 0 == 13 && not (get_or text 1 0 == 10)) _ _ IsCopied (λ _. record { adds = refl }) (λ _. record { adds = tt })

brace_plain : (style : Style) (b : ℕ) → is_quote style.quote ≡ true → style.format ≡ false → is_brace b ≡ true → is_plain style b ≡ true
brace_plain style b quote format brace = grind (arith, nat_tests)

-- outside f-strings a brace is plain
first_plain : (style : Style) (text : List ℕ) → is_quote style.quote ≡ true → style.format ≡ false → is_brace (get_or text 0 0) ≡ true
    → nat_lt 0 (prefix_len (is_plain style) text) ≡ true
first_plain style [] quote format brace = cc
first_plain style (b ∷ bs) quote format brace =
    rw (brace_plain style b quote format brace) (lt-ltb 0 (1 + prefix_len (is_plain style) bs) (omega arith))

special_copied : (style : Style) (text : List ℕ) → style.raw ≡ true → (is_brace (get_or text 0 0) ≡ true → ⊥) → IsCopied (special style text)
unfolding special
special_copied style text raw no_brace =
    let first = get_or text 0 0 in
    let opens : (first == 123) ≡ true → is_brace first ≡ true = λ t. rw t in
    let closes : (first == 125) ≡ true → is_brace first ≡ true = λ t. grind (arith, nat_tests) in
    cond_both (first == style.quote) _ _ IsCopied (λ _. at_quote_copied style text)
    (λ _. cond_both (first == 92) _ _ IsCopied (λ _. cond_both style.raw _ _ IsCopied (λ _. raw_copied style text) (λ off. absurd (true≢false (sym raw ∙ off))))
    (λ _. cond_both (first == 123) _ _ IsCopied (λ t. absurd (no_brace (opens t)))
    (λ _. cond_both (first == 125) _ _ IsCopied (λ t. absurd (no_brace (closes t))) (λ _. at_newline_copied text))))

piece_copied : (style : Style) (text : List ℕ) → is_quote style.quote ≡ true → style.raw ≡ true → style.format ≡ false → IsCopied (piece style text)
unfolding piece
piece_copied style text quote raw format =
    let n = prefix_len (is_plain style) text in
    cond_both (nat_lt 0 n) _ _ IsCopied (λ _. record { adds = refl })
    (λ f. special_copied style text raw (λ brace. let t = first_plain style text quote format brace in cc))

from_copied : (style : Style) (text : List ℕ) (f : List ℕ → Run) (r : Result Piece Stop) → AddsItself r
    → ((p : Piece) → r ≡ Ok p → (f (drop p.len text)).value ≡ take (f (drop p.len text)).len (drop p.len text))
    → (run_from style text f r).value ≡ take (run_from style text f r).len text
from_copied style text f (Err stop) adds h = refl
from_copied style text f (Ok p) adds h =
    let after = f (drop p.len text) in
    ap (λ a. added style.bytes text a ++ after.value) adds ∙ ap (λ t. take p.len text ++ t) (h p refl) ∙ sym (take-add p.len after.len text)

run_within_raw : (n : ℕ) (style : Style) (text : List ℕ) → IsUtf8 text → is_quote style.quote ≡ true → style.raw ≡ true → style.format ≡ false → length text < n
    → (run_within n style text).value ≡ take (run_within n style text).len text
unfolding run_within
run_within_raw zero style text utf8 quote raw format h = absurd (omega arith)
run_within_raw (suc n) style text utf8 quote raw format h =
    from_copied style text (run_within n style) (piece style text) (piece_copied style text quote raw format).adds
    (λ p e. let (shorter, text_after) = after_shorter style text p utf8 quote e in
    run_within_raw n style (drop p.len text) text_after quote raw format (omega arith))

pub run_raw : (style : Style) (text : List ℕ) → IsUtf8 text → is_quote style.quote ≡ true → style.raw ≡ true → style.format ≡ false
    → (run style text).value ≡ take (run style text).len text
unfolding run
run_raw style text utf8 quote raw format = run_within_raw (suc (length text)) style text utf8 quote raw format (omega arith)
