-- The pieces of a literal, one after the other.
use Rattle.std.proofs.Common.{◌≡◌, ℕ, zero, suc, ◌+◌, ◌<◌, true, List, length, drop, IsUtf8, Result, Ok, Err, refl, ap, ◌∙◌, arith, add_assoc, zero-add}
use Rattle.std.proofs.Common.{length-drop}
use Rattle.std.proofs.lemmas.Str.{IsCharBoundary-start, IsCharBoundary-from_rest, IsUtf8-drop}
use Rattle.std.specs.Str.{IsCharBoundary}
use Rattle.starlark_lexer.specs.declared.string.escape.Piece.{Piece}
use Rattle.starlark_lexer.specs.declared.string.escape.Stop.{Stop}
use Rattle.starlark_lexer.specs.declared.string.opening.Style.{Style}
use Rattle.starlark_lexer.specs.Openings.{is_quote}
use Rattle.starlark_lexer.specs.Pieces.{piece}
use Rattle.starlark_lexer.specs.Strings.{Run, run_from, run_within, run, stop_len}
use Rattle.starlark_lexer.proofs.PieceBounds.{HasBytes, EndsAtChars, piece_ends}

-- a continuation after a piece matters only where the piece ends
from_same : (style : Style) (text : List ℕ) (f g : List ℕ → Run) (r : Result Piece Stop) → ((p : Piece) → r ≡ Ok p → f (drop p.len text) ≡ g (drop p.len text))
    → run_from style text f r ≡ run_from style text g r
from_same style text f g (Err stop) h = refl
from_same style text f g (Ok p) h =
    ap (λ (after : Run). run_from style text (λ _. after) (Ok p)) (h p refl)

-- less text is left after a piece, and it is UTF-8 text again
pub after_shorter : (style : Style) (text : List ℕ) (p : Piece) → IsUtf8 text → is_quote style.quote ≡ true → piece style text ≡ Ok p
    → (length (drop p.len text) < length text) × IsUtf8 (drop p.len text)
after_shorter style text p utf8 quote e =
    let ends = piece_ends style text (Ok p) utf8 quote e in
    let some = ends.0 in
    let within = ends.1.0 in
    (omega (arith, length-drop p.len text), IsUtf8-drop text p.len utf8 ends.1)

run_within-same : (n m : ℕ) (style : Style) (text : List ℕ) → IsUtf8 text → is_quote style.quote ≡ true → length text < n → length text < m
    → run_within n style text ≡ run_within m style text
unfolding run_within
run_within-same zero m style text utf8 quote h k = absurd (omega arith)
run_within-same (suc n) zero style text utf8 quote h k = absurd (omega arith)
run_within-same (suc n) (suc m) style text utf8 quote h k =
    from_same style text (run_within n style) (run_within m style) (piece style text)
    (λ p e. let (shorter, text_after) = after_shorter style text p utf8 quote e in
    run_within-same n m style (drop p.len text) text_after quote (omega arith) (omega arith))

-- the piece at the front, and then the run of what is left
run_step : (style : Style) (text : List ℕ) → IsUtf8 text → is_quote style.quote ≡ true → run style text ≡ run_from style text (run style) (piece style text)
unfolding run run_within
run_step style text utf8 quote =
    from_same style text (run_within (length text) style) (λ after. run_within (suc (length after)) style after) (piece style text)
    (λ p e. let (shorter, text_after) = after_shorter style text p utf8 quote e in
    run_within-same (length text) (suc (length (drop p.len text))) style (drop p.len text) text_after quote (omega arith) (omega arith))

pub run_turn : (style : Style) (text : List ℕ) (r : Result Piece Stop) → IsUtf8 text → is_quote style.quote ≡ true → piece style text ≡ r
    → run style text ≡ run_from style text (run style) r
run_turn style text r utf8 quote e = run_step style text utf8 quote ∙ ap (run_from style text (run style)) e

-- ---- where runs end

-- the pieces, and what stops them, end on character boundaries
pub record RunFits (style : Style) (text : List ℕ) (r : Run) : Type 0 where
  pub begin : IsCharBoundary text r.len
  pub end : IsCharBoundary text (r.len + stop_len style r.stop)
  pub bytes : HasBytes r.stop

from_fits : (style : Style) (text : List ℕ) (f : List ℕ → Run) (r : Result Piece Stop) → IsUtf8 text → EndsAtChars style text r
    → ((p : Piece) → r ≡ Ok p → RunFits style (drop p.len text) (f (drop p.len text))) → RunFits style text (run_from style text f r)
from_fits style text f (Err stop) utf8 ends h = record { begin = IsCharBoundary-start text utf8; end = rw zero-add ends.0; bytes = ends.1 }
from_fits style text f (Ok p) utf8 ends h =
    let after = h p refl in
    record {
      begin = IsCharBoundary-from_rest text p.len _ ends.1.0 after.begin;
      end = rw add_assoc (IsCharBoundary-from_rest text p.len _ ends.1.0 after.end);
      bytes = after.bytes;
    }

run_within_fits : (n : ℕ) (style : Style) (text : List ℕ) → IsUtf8 text → is_quote style.quote ≡ true → length text < n
    → RunFits style text (run_within n style text)
unfolding run_within
run_within_fits zero style text utf8 quote h = absurd (omega arith)
run_within_fits (suc n) style text utf8 quote h =
    from_fits style text (run_within n style) (piece style text) utf8 (piece_ends style text (piece style text) utf8 quote refl)
    (λ p e. let (shorter, text_after) = after_shorter style text p utf8 quote e in run_within_fits n style (drop p.len text) text_after quote (omega arith))

pub run_fits : (style : Style) (text : List ℕ) → IsUtf8 text → is_quote style.quote ≡ true → RunFits style text (run style text)
unfolding run
run_fits style text utf8 quote = run_within_fits (suc (length text)) style text utf8 quote (omega arith)
