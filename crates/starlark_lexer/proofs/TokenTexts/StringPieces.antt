-- The pieces of a text that is known byte by byte.
use Rattle.std.proofs.Common.{◌≡◌, ℕ, zero, suc, ◌+◌, ◌<◌, true, nat_lt, [], ◌∷◌, ◌++◌, length, take, drop, Ok, Err, refl, sym, ap, ◌∙◌, arith, inl, inr}
use Rattle.std.proofs.Common.{one-add}
use Rattle.std.proofs.lemmas.Bool.{cases_lt, cond-true, lt-ltb}
use Rattle.std.specs.List.{prefix_len}
use Rattle.starlark_lexer.specs.declared.string.escape.Piece.{Piece}
use Rattle.starlark_lexer.specs.declared.string.escape.Stop.{Stop}
use Rattle.starlark_lexer.specs.declared.string.opening.Style.{Style}
use Rattle.starlark_lexer.specs.Tokens.{Text}
use Rattle.starlark_lexer.specs.Pieces.{is_plain, as_it_stands, special, piece, added}
use Rattle.starlark_lexer.specs.Strings.{Run, run_from, run_within, run}

abbrev pub run_of : Text → ℕ → Stop → Run
run_of value len stop = record { value = value; len = len; stop = stop }

-- the pieces of a text have this value and this length, and this stops them
pub record RunsTo (style : Style) (text value : Text) (len : ℕ) (stop : Stop) : Type 0 where
  pub within : (n : ℕ) → length text < n → run_within n style text ≡ run_of value len stop

pub run_is : {style : Style} {text value : Text} {len : ℕ} {stop : Stop} → RunsTo style text value len stop → run style text ≡ run_of value len stop
unfolding run
run_is {text = text} r = r.within (suc (length text)) (omega arith)

-- one byte more in a run
abbrev longer : ℕ → Run → Run
longer b r = run_of (b ∷ r.value) (1 + r.len) r.stop

plain_piece : (style : Style) (b : ℕ) (text : Text) (k : ℕ) → is_plain style b ≡ true → prefix_len (is_plain style) text ≡ k
    → piece style (b ∷ text) ≡ Ok (as_it_stands (1 + k))
unfolding piece
plain_piece style b text k plain is = rw (plain, is) (cond-true (nat_lt 0 (1 + k)) _ _ (lt-ltb 0 (1 + k) (omega arith)))

pub special_piece : (style : Style) (text : Text) → prefix_len (is_plain style) text ≡ 0 → piece style text ≡ special style text
unfolding piece
special_piece style text none = rw none refl

some_piece : (style : Style) (text : Text) (k : ℕ) → prefix_len (is_plain style) text ≡ k → 0 < k → piece style text ≡ Ok (as_it_stands k)
unfolding piece
some_piece style text k is some = rw is (cond-true (nat_lt 0 k) _ _ (lt-ltb 0 k some))

pub within-step : (n : ℕ) (style : Style) (text : Text) → run_within (suc n) style text ≡ run_from style text (run_within n style) (piece style text)
unfolding run_within
within-step n style text = refl

-- a piece of k bytes more
abbrev from_piece : Style → ℕ → Text → Run → Run
from_piece style k text after = run_of (take k text ++ after.value) (k + after.len) after.stop

within-piece : (n : ℕ) (style : Style) (text : Text) (k : ℕ) → piece style text ≡ Ok (as_it_stands k)
    → run_within (suc n) style text ≡ from_piece style k text (run_within n style (drop k text))
within-piece n style text k is = within-step n style text ∙ ap (run_from style text (run_within n style)) is

longer_piece : (style : Style) (b k : ℕ) (text : Text) (after : Run) → from_piece style (suc k) (b ∷ text) after ≡ longer b (from_piece style k text after)
longer_piece style b k text after = ap (λ l. run_of (b ∷ (take k text ++ after.value)) l after.stop) (omega arith)

-- a plain byte before a text lengthens its run
pub plain_first : {style : Style} {text value : Text} {len : ℕ} {stop : Stop} (b : ℕ) → is_plain style b ≡ true → RunsTo style text value len stop
    → RunsTo style (b ∷ text) (b ∷ value) (1 + len) stop
plain_first {style = style} {text = text} {value = value} {len = len} {stop = stop} b plain r = record { within = λ n h. go n h }
  where
    alone : (n : ℕ) → length text < n → prefix_len (is_plain style) text ≡ 0 → run_within (suc n) style (b ∷ text) ≡ run_of (b ∷ value) (1 + len) stop
    alone n h none = within-piece n style (b ∷ text) 1 (plain_piece style b text 0 plain none) ∙ ap (longer b) (r.within n h)

    among : (n k : ℕ) → length text < suc n → prefix_len (is_plain style) text ≡ k → 0 < k → run_within (suc n) style (b ∷ text)
        ≡ run_of (b ∷ value) (1 + len) stop
    among n k h is some =
        within-piece n style (b ∷ text) (suc k) (plain_piece style b text k plain is ∙ ap (λ j. Ok (as_it_stands j)) (one-add k))
        ∙ longer_piece style b k text (run_within n style (drop k text))
        ∙ ap (longer b) (sym (within-piece n style text k (some_piece style text k is some)) ∙ r.within (suc n) h)

    go : (n : ℕ) → length (b ∷ text) < n → run_within n style (b ∷ text) ≡ run_of (b ∷ value) (1 + len) stop
    go zero h = absurd (omega arith)
    go (suc n) h =
        elim (cases_lt 0 (prefix_len (is_plain style) text)) [
          | inl some ↦ among n (prefix_len (is_plain style) text) (omega arith) refl some
          | inr none ↦ alone n (omega arith) (omega arith)
        ]

-- ---- other pieces

-- what stops at the front
pub stops_there : {style : Style} {text : Text} {stop : Stop} → piece style text ≡ Err stop → RunsTo style text [] 0 stop
stops_there {style = style} {text = text} {stop = stop} is = record { within = λ n h. go n h }
  where
    go : (n : ℕ) → length text < n → run_within n style text ≡ run_of [] 0 stop
    go zero h = absurd (omega arith)
    go (suc n) h = within-step n style text ∙ ap (run_from style text (run_within n style)) is

-- a piece at the front, and the text after it
pub piece_first : {style : Style} {value : Text} {len : ℕ} {stop : Stop} (text rest : Text) (p : Piece) (adds : Text) → piece style text ≡ Ok p
    → drop p.len text ≡ rest → added style.bytes text p.adds ≡ adds → length rest < length text → RunsTo style rest value len stop
    → RunsTo style text (adds ++ value) (p.len + len) stop
piece_first {style = style} {value = value} {len = len} {stop = stop} text rest p adds is left adds_are less r = record { within = λ n h. go n h }
  where
    go : (n : ℕ) → length text < n → run_within n style text ≡ run_of (adds ++ value) (p.len + len) stop
    go zero h = absurd (omega arith)
    go (suc n) h =
        let after : run_within n style (drop p.len text) ≡ run_of value len stop = ap (run_within n style) left ∙ r.within n (omega arith) in
        within-step n style text ∙ ap (run_from style text (run_within n style)) is
        ∙ (λ i. run_of (adds_are i ++ (after i).value) (p.len + (after i).len) (after i).stop)
