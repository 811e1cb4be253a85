-- What is where the pieces of a literal end.
use Rattle.std.proofs.Common.{◌≡◌, ℕ, zero, suc, ◌+◌, ◌<◌, Bool, true, false, not, cond, ◌&&◌, ◌==◌, nat_lt, inl, inr, List, [], ◌∷◌, length, get_or, take}
use Rattle.std.proofs.Common.{drop, IsUtf8, Result, Ok, Err, refl, subst, arith, eqb-true}
use Rattle.std.proofs.lemmas.Bool.{cases_Bool, cond_both, cond-true}
use Rattle.std.proofs.lemmas.Bool.Decides.{nat_tests}
use Rattle.std.proofs.lemmas.List.{drop-drop}
use Rattle.std.specs.List.{prefix_len}
use Rattle.std.specs.Str.Parse.{digits_value}
use Rattle.starlark_lexer.specs.declared.string.escape.Piece.{Piece}
use Rattle.starlark_lexer.specs.declared.string.escape.Stop.{Stop}
use Rattle.starlark_lexer.specs.declared.string.escape.Stop.TheVariants.{Closed, Unfinished, Hole, LoneBrace, BadEscape}
use Rattle.starlark_lexer.specs.declared.string.opening.Style.{Style}
use Rattle.starlark_lexer.specs.Newlines.{newline_len}
use Rattle.starlark_lexer.specs.Escapes.{is_scalar, digits_len, is_octal_digit, numbered, octal_escape, hex_escape, unicode_escape, escape}
use Rattle.starlark_lexer.specs.Openings.{is_quote, quotes_len}
use Rattle.starlark_lexer.specs.Pieces.{begins_newline, is_brace, is_plain, at_quote, at_brace, at_newline, special, piece}
use Rattle.starlark_lexer.specs.Strings.{Run, run_from, run_within, run, StopsAt}
use Rattle.starlark_lexer.proofs.StringRuns.{after_shorter}

abbrev pub StandsThere : Style → List ℕ → Result Piece Stop → Type 0
StandsThere style text (Ok p) = Unit {0}
StandsThere style text (Err stop) = StopsAt style text stop

-- what stops the pieces is at the front
pub record HasStop (style : Style) (text : List ℕ) (r : Result Piece Stop) : Type 0 where
  pub there : StandsThere style text r

-- ---- escapes

-- escapes stop at escapes only
abbrev pub StopsAtEscape : Result Piece Stop → Type 0
StopsAtEscape (Ok p) = Unit {0}
StopsAtEscape (Err (BadEscape n)) = Unit {0}
StopsAtEscape (Err Closed) = ⊥
StopsAtEscape (Err Unfinished) = ⊥
StopsAtEscape (Err Hole) = ⊥
StopsAtEscape (Err LoneBrace) = ⊥

pub record IsEscape (r : Result Piece Stop) : Type 0 where
  pub stop : StopsAtEscape r

numbered_escape : (bytes : Bool) (number len : ℕ) → IsEscape (numbered bytes number len)
unfolding numbered
numbered_escape bytes number len =
    cond_both (nat_lt number 256) _ _ IsEscape (λ _. record { stop = tt })
    (λ _. cond_both (is_scalar number && not bytes) _ _ IsEscape (λ _. record { stop = tt }) (λ _. record { stop = tt }))

octal_is : (bytes : Bool) (text : List ℕ) → IsEscape (octal_escape bytes text)
unfolding octal_escape
octal_is bytes text = numbered_escape bytes _ _

hex_is : (bytes : Bool) (text : List ℕ) → IsEscape (hex_escape bytes text)
unfolding hex_escape
hex_is bytes text = cond_both (digits_len 16 2 text == 2) _ _ IsEscape (λ _. numbered_escape bytes _ _) (λ _. record { stop = tt })

unicode_is : (count : ℕ) (text : List ℕ) → IsEscape (unicode_escape count text)
unfolding unicode_escape
unicode_is count text =
    cond_both (is_scalar (digits_value 16 (take (digits_len 16 count text) text)) && digits_len 16 count text == count) _ _ IsEscape
    (λ _. record { stop = tt }) (λ _. record { stop = tt })

escape_is : (bytes : Bool) (text : List ℕ) → IsEscape (escape bytes text)
unfolding escape
escape_is bytes text =
    let after = drop 1 text in
    let letter = get_or after 0 0 in
    cond_both (nat_lt 0 (newline_len after)) _ _ IsEscape (λ _. record { stop = tt })
    (λ _. cond_both (is_octal_digit letter) _ _ IsEscape (λ _. octal_is bytes after)
    (λ _. cond_both (letter == 120) _ _ IsEscape (λ _. hex_is bytes (drop 1 after))
    (λ _. cond_both (letter == 117) _ _ IsEscape (λ _. unicode_is 4 (drop 1 after))
    (λ _. cond_both (letter == 85) _ _ IsEscape (λ _. unicode_is 8 (drop 1 after)) (λ _. record { stop = tt })))))

escape_there : (style : Style) (text : List ℕ) (r : Result Piece Stop) → get_or text 0 0 ≡ 92 → style.raw ≡ false → StopsAtEscape r → HasStop style text r
escape_there style text (Ok p) here raw h = record { there = tt }
escape_there style text (Err (BadEscape n)) here raw h = record { there = (here, raw) }
escape_there style text (Err Closed) here raw h = absurd h
escape_there style text (Err Unfinished) here raw h = absurd h
escape_there style text (Err Hole) here raw h = absurd h
escape_there style text (Err LoneBrace) here raw h = absurd h

-- ---- pieces

quotes_there : (style : Style) (text : List ℕ) → get_or text 0 0 ≡ style.quote
    → (style.triple && not (get_or text 1 0 == style.quote && get_or text 2 0 == style.quote)) ≡ false
    → (k : ℕ) → k < quotes_len style.triple → get_or text k 0 ≡ style.quote
quotes_there style text here e zero h = here
quotes_there style text here e (suc zero) h = grind (arith, nat_tests)
quotes_there style text here e (suc (suc zero)) h = grind (arith, nat_tests)
quotes_there style text here e (suc (suc (suc k))) h = absurd (grind (arith, nat_tests))

at_quote_there : (style : Style) (text : List ℕ) → get_or text 0 0 ≡ style.quote → HasStop style text (at_quote style text)
unfolding at_quote
at_quote_there style text here =
    cond_both (style.triple && not (get_or text 1 0 == style.quote && get_or text 2 0 == style.quote)) _ _ (HasStop style text) (λ _. record { there = tt })
    (λ f. record { there = quotes_there style text here f })

not_plain_first : (style : Style) (b : ℕ) (bs : List ℕ) → nat_lt 0 (prefix_len (is_plain style) (b ∷ bs)) ≡ false → is_plain style b ≡ false
not_plain_first style b bs f =
    elim (cases_Bool (is_plain style b)) [
      | inl on ↦ absurd (let e = cond-true (is_plain style b) (1 + prefix_len (is_plain style) bs) 0 on in grind (arith, nat_tests))
      | inr off ↦ off
    ]

-- a brace that is not plain is in an f-string
in_f_string : (style : Style) (text : List ℕ) → nat_lt 0 (prefix_len (is_plain style) text) ≡ false → (get_or text 0 0 == style.quote) ≡ false
    → is_brace (get_or text 0 0) ≡ true → style.format ≡ true
in_f_string style [] plain quote brace = cc
in_f_string style (b ∷ bs) plain quote brace = let not_plain = not_plain_first style b bs plain in grind (arith, nat_tests)

at_hole_there : (style : Style) (text : List ℕ) → style.format ≡ true → get_or text 0 0 ≡ 123 → HasStop style text (at_brace Hole text)
unfolding at_brace
at_hole_there style text format here =
    cond_both (get_or text 1 0 == get_or text 0 0) _ _ (HasStop style text) (λ _. record { there = tt })
    (λ f. record { there = (here, grind (arith, nat_tests), format) })

at_lone_there : (style : Style) (text : List ℕ) → style.format ≡ true → get_or text 0 0 ≡ 125 → HasStop style text (at_brace LoneBrace text)
unfolding at_brace
at_lone_there style text format here =
    cond_both (get_or text 1 0 == get_or text 0 0) _ _ (HasStop style text) (λ _. record { there = tt })
    (λ f. record { there = (here, grind (arith, nat_tests), format) })

one_line : (style : Style) (b : ℕ) → is_plain style b ≡ false → (b == style.quote) ≡ false → (b == 92) ≡ false → (b == 123) ≡ false → (b == 125) ≡ false
    → (style.triple ≡ false) × (begins_newline b ≡ true)
one_line style b plain quote backslash opening closing = (grind (arith, nat_tests), grind (arith, nat_tests))

newline_there : (b0 b1 : ℕ) → begins_newline b0 ≡ true → (b0 == 13 && not (b1 == 10)) ≡ false → 0 < cond (b0 == 10) 1 (cond (b0 == 13 && b1 == 10) 2 0)
newline_there b0 b1 begins f = grind (arith, nat_tests)

at_newline_there : (style : Style) (text : List ℕ) → nat_lt 0 (prefix_len (is_plain style) text) ≡ false → (get_or text 0 0 == style.quote) ≡ false
    → (get_or text 0 0 == 92) ≡ false → (get_or text 0 0 == 123) ≡ false → (get_or text 0 0 == 125) ≡ false → HasStop style text (at_newline text)
unfolding at_newline
at_newline_there style [] plain quote backslash opening closing = record { there = inl refl }
at_newline_there style (b ∷ bs) plain quote backslash opening closing =
    let line = one_line style b (not_plain_first style b bs plain) quote backslash opening closing in
    cond_both (b == 13 && not (get_or (b ∷ bs) 1 0 == 10)) _ _ (HasStop style (b ∷ bs)) (λ _. record { there = tt })
    (λ f. record { there = inr (line.0, newline_there b (get_or (b ∷ bs) 1 0) line.1 f) })

special_there : (style : Style) (text : List ℕ) → nat_lt 0 (prefix_len (is_plain style) text) ≡ false → HasStop style text (special style text)
unfolding special
special_there style text plain =
    let first = get_or text 0 0 in
    cond_both (first == style.quote) _ _ (HasStop style text) (λ t. at_quote_there style text (eqb-true first style.quote t))
    (λ quote. cond_both (first == 92) _ _ (HasStop style text)
    (λ t. cond_both style.raw _ _ (HasStop style text) (λ _. record { there = tt })
    (λ raw. escape_there style text (escape style.bytes text) (eqb-true first 92 t) raw (escape_is style.bytes text).stop))
    (λ backslash. cond_both (first == 123) _ _ (HasStop style text)
    (λ t. at_hole_there style text (in_f_string style text plain quote (grind (arith, nat_tests))) (eqb-true first 123 t))
    (λ opening. cond_both (first == 125) _ _ (HasStop style text)
    (λ t. at_lone_there style text (in_f_string style text plain quote (grind (arith, nat_tests))) (eqb-true first 125 t))
    (λ closing. at_newline_there style text plain quote backslash opening closing))))

piece_there : (style : Style) (text : List ℕ) → HasStop style text (piece style text)
unfolding piece
piece_there style text =
    cond_both (nat_lt 0 (prefix_len (is_plain style) text)) _ _ (HasStop style text) (λ _. record { there = tt }) (special_there style text)

-- ---- runs

from_there : (style : Style) (text : List ℕ) (f : List ℕ → Run) (r : Result Piece Stop) → StandsThere style text r
    → ((p : Piece) → r ≡ Ok p → StopsAt style (drop (f (drop p.len text)).len (drop p.len text)) (f (drop p.len text)).stop)
    → StopsAt style (drop (run_from style text f r).len text) (run_from style text f r).stop
from_there style text f (Err stop) there h = there
from_there style text f (Ok p) there h =
    let after = f (drop p.len text) in
    subst (λ t. StopsAt style t after.stop) (drop-drop after.len p.len text) (h p refl)

run_within_there : (n : ℕ) (style : Style) (text : List ℕ) → IsUtf8 text → is_quote style.quote ≡ true → length text < n
    → StopsAt style (drop (run_within n style text).len text) (run_within n style text).stop
unfolding run_within
run_within_there zero style text utf8 quote h = absurd (omega arith)
run_within_there (suc n) style text utf8 quote h =
    from_there style text (run_within n style) (piece style text) (piece_there style text).there
    (λ p e. let (shorter, text_after) = after_shorter style text p utf8 quote e in run_within_there n style (drop p.len text) text_after quote (omega arith))

pub run_there : (style : Style) (text : List ℕ) → IsUtf8 text → is_quote style.quote ≡ true → StopsAt style (drop (run style text).len text)
    (run style text).stop
unfolding run
run_there style text utf8 quote = run_within_there (suc (length text)) style text utf8 quote (omega arith)
