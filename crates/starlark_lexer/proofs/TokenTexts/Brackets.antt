-- Delimiters at the front of a text.
use Rattle.std.proofs.Common.{◌≡◌, ℕ, ◌+◌, ◌-◌, ◌<◌, Bool, true, false, ◌&&◌, ◌==◌, nat_lt, List, [], ◌∷◌, get_or, Some, None, refl, sym, ap, ◌∙◌, subst}
use Rattle.std.proofs.Common.{arith}
use Rattle.std.proofs.lemmas.Bool.{cond-true, cond-false, lt-ltb, ne_eqb, eqb-false, and_from}
use Rattle.starlark_lexer.specs.declared.f_string.FString.{FString}
use Rattle.starlark_lexer.specs.Newlines.{first, newline_len}
use Rattle.starlark_lexer.specs.Classes.{is_letter}
use Rattle.starlark_lexer.specs.Cuts.{is_gap}
use Rattle.starlark_lexer.specs.Lexing.{sign_cut}
use Rattle.starlark_lexer.specs.Numbers.{begins_number}
use Rattle.starlark_lexer.specs.Openings.{opening}
use Rattle.starlark_lexer.specs.Words.{sign}
use Rattle.starlark_lexer.specs.Tokens.{Text, Terminal, from_to, OpeningRound, ClosingRound, OpeningSquare, ClosingSquare, OpeningCurly, ClosingCurly}
use Rattle.starlark_lexer.specs.Lexemes.{State, after, gives, innermost, floor, bracket_depth, opens, closes, take_cut, is_at_hole, plain_step, front_step}
use Rattle.starlark_lexer.proofs.StepLemmas.{sign-one, plain-sign, lone_taken}
use Rattle.starlark_lexer.proofs.TokenTexts.LexerStates.{Standing, AreOpen, state, Lexes, At}
use Rattle.starlark_lexer.proofs.TokenTexts.LineTokens.{innermost-last, InLine, IsDeeper, token_next, nothing_skipped, not_in_hole, Solid, skip_none}
use Rattle.starlark_lexer.proofs.TokenTexts.LineTokens.{solid_unbroken}
use Rattle.starlark_lexer.proofs.TokenTexts.Operators.{opening_none}

-- one delimiter more is open
abbrev pub in_bracket : Standing → Standing
in_bracket c = record c { depth = c.depth + 1 }

pub data Opening : Terminal → ℕ → Type 0 where
  round : Opening OpeningRound 40
  square : Opening OpeningSquare 91
  curly : Opening OpeningCurly 123

pub data Closing : Terminal → ℕ → Type 0 where
  end_round : Closing ClosingRound 41
  end_square : Closing ClosingSquare 93
  end_curly : Closing ClosingCurly 125

-- the byte is a token by itself
record Alone (t : Terminal) (a : ℕ) : Type 0 where
  three : (b c : ℕ) → None ≡ sign (a ∷ b ∷ c ∷ [])
  two : (b : ℕ) → None ≡ sign (a ∷ b ∷ [])
  one : Some t ≡ sign (a ∷ [])
  no_literal : (text : Text) → opening (a ∷ text) ≡ None
  gap : is_gap a ≡ false
  comment : (a == 35) ≡ false
  letter : is_letter a ≡ false
  number : (text : Text) → begins_number (a ∷ text) ≡ false

opening_alone : {t : Terminal} {a : ℕ} → Opening t a → Alone t a
unfolding sign
opening_alone round =
    record {
      three = λ b c. refl;
      two = λ b. refl;
      one = refl;
      no_literal = λ text. opening_none 40 text refl refl refl refl;
      gap = refl;
      comment =
          refl;
      letter = refl;
      number = λ text. refl;
    }
opening_alone square =
    record {
      three = λ b c. refl;
      two = λ b. refl;
      one = refl;
      no_literal = λ text. opening_none 91 text refl refl refl refl;
      gap = refl;
      comment =
          refl;
      letter = refl;
      number = λ text. refl;
    }
opening_alone curly =
    record {
      three = λ b c. refl;
      two = λ b. refl;
      one = refl;
      no_literal = λ text. opening_none 123 text refl refl refl refl;
      gap = refl;
      comment =
          refl;
      letter = refl;
      number = λ text. refl;
    }

closing_alone : {t : Terminal} {a : ℕ} → Closing t a → Alone t a
unfolding sign
closing_alone end_round =
    record {
      three = λ b c. refl;
      two = λ b. refl;
      one = refl;
      no_literal = λ text. opening_none 41 text refl refl refl refl;
      gap = refl;
      comment =
          refl;
      letter = refl;
      number = λ text. refl;
    }
closing_alone end_square =
    record {
      three = λ b c. refl;
      two = λ b. refl;
      one = refl;
      no_literal = λ text. opening_none 93 text refl refl refl refl;
      gap = refl;
      comment =
          refl;
      letter = refl;
      number = λ text. refl;
    }
closing_alone end_curly =
    record {
      three = λ b c. refl;
      two = λ b. refl;
      one = refl;
      no_literal = λ text. opening_none 125 text refl refl refl refl;
      gap = refl;
      comment =
          refl;
      letter = refl;
      number = λ text. refl;
    }

alone_solid : {t : Terminal} {a : ℕ} (rest : Text) → Alone t a → Solid (a ∷ rest)
alone_solid rest h = record { some = omega arith; no_gap = h.gap }

alone_given : (t : Terminal) (a : ℕ) (rest : Text) (s : State) → Alone t a → s.rest ≡ a ∷ rest
    → plain_step s ≡ gives t 1 s (record (after 1 s) { depth = bracket_depth (floor (innermost s.f_strings)) a s.depth })
alone_given t a rest s h is =
    let unbroken : newline_len s.rest ≡ 0 = ap newline_len is ∙ solid_unbroken (a ∷ rest) (alone_solid rest h) in
    plain-sign s (sym (ap opening is ∙ h.no_literal rest)) unbroken (λ same. eqb-false a 35 h.comment (sym (ap first is) ∙ same))
    (ap (λ x. is_letter (first x)) is ∙ h.letter) (ap begins_number is ∙ h.number rest)
    ∙ ap (take_cut s) (ap sign_cut is ∙ sign-one (a ∷ rest) t (h.three (first rest) (get_or rest 1 0)) (h.two (first rest)) h.one)
    ∙ lone_taken s t unbroken ∙ ap (λ b. gives t 1 s (record (after 1 s) { depth = bracket_depth (floor (innermost s.f_strings)) b s.depth })) (ap first is)

-- ---- opening delimiters

opens_is : {t : Terminal} {a : ℕ} → Opening t a → opens a ≡ true
opens_is round = refl
opens_is square = refl
opens_is curly = refl

opening_no_end : {t : Terminal} {a : ℕ} → Opening t a → (a == 125) ≡ false
opening_no_end round = refl
opening_no_end square = refl
opening_no_end curly = refl

opening_no_bang : {t : Terminal} {a : ℕ} (x : Bool) → Opening t a → (a == 33 && x) ≡ false
opening_no_bang x round = refl
opening_no_bang x square = refl
opening_no_bang x curly = refl

pub bracket_opens : {c : Standing} {t : Terminal} {a : ℕ} {rest : Text} {ts : List Terminal} → InLine c → Opening t a → At (in_bracket c) rest ts
    → At c (a ∷ rest) (t ∷ ts)
bracket_opens {c = c} {t = t} {a = a} {rest = rest} {ts = ts} line is r = record { lexes = λ at fs are. go at fs are }
  where
    go : (at : ℕ) (fs : List FString) → AreOpen c.frames fs → Lexes (t ∷ ts) (state at (a ∷ rest) c fs)
    go at fs are =
        let s = state (at + 0) (a ∷ rest) c fs in
        let alone = opening_alone is in
        let solid = alone_solid rest alone in (
          from_to (at + 0) (at + 0 + 1),
          state (at + 0 + 1) rest (in_bracket c) fs,
          token_next c at (a ∷ rest) fs line are
              ∙ ap (λ p. Some p) (nothing_skipped (state at (a ∷ rest) c fs) (skip_none (nat_lt 0 c.depth) (a ∷ rest) solid) (omega arith)
              ∙ not_in_hole s (opening_no_end is) (opening_no_bang _ is) ∙ alone_given t a rest s alone refl)
              ∙ ap (λ d. Some (gives t 1 s (record (after 1 s) { depth = d }))) (cond-true (opens a) (c.depth + 1) _ (opens_is is)),
          omega arith,
          r.lexes (at + 0 + 1) fs are,
        )

-- ---- closing delimiters

closes_is : {t : Terminal} {a : ℕ} → Closing t a → (opens a ≡ false) × (closes a ≡ true)
closes_is end_round = (refl, refl)
closes_is end_square = (refl, refl)
closes_is end_curly = (refl, refl)

-- a delimiter is open in the innermost hole
low_floor : (ds : List ℕ) (depth : ℕ) (fs : List FString) → AreOpen ds fs → IsDeeper ds depth → (floor (innermost fs) < depth + 1)
    × (is_at_hole (depth + 1) (innermost fs) ≡ false)
low_floor [] depth fs are deep =
    (subst (λ gs. floor (innermost gs) < depth + 1) (sym are) (omega arith), subst (λ gs. is_at_hole (depth + 1) (innermost gs) ≡ false) (sym are) refl)
low_floor (d ∷ ds) depth fs (f, more, are, style, here, others) deep =
    let last : innermost fs ≡ Some f = ap (λ gs. innermost gs) are ∙ innermost-last more f in (
      subst (λ o. floor o < depth + 1) (sym last) (omega arith),
      subst (λ o. is_at_hole (depth + 1) o ≡ false) (sym last) (ne_eqb (depth + 1) (f.depth + 1) (λ same. omega arith)),
    )

out_of_holes : (s : State) → is_at_hole s.depth (innermost s.f_strings) ≡ false → front_step s ≡ plain_step s
unfolding front_step
out_of_holes s other = cond-false (is_at_hole s.depth (innermost s.f_strings)) _ _ other

out_of_bracket : (a low depth : ℕ) → (opens a ≡ false) × (closes a ≡ true) → low < depth + 1 → bracket_depth low a (depth + 1) ≡ depth
out_of_bracket a low depth is less =
    cond-false (opens a) _ _ is.0
    ∙ cond-true (closes a && nat_lt low (depth + 1)) (depth + 1 - 1) (depth + 1)
    (and_from (closes a) (nat_lt low (depth + 1)) is.1 (lt-ltb low (depth + 1) less))
    ∙ omega arith

pub deeper_line : (c : Standing) → InLine c → InLine (in_bracket c)
deeper_line c line = record { goes_on = line.goes_on; deeper = deeper_too c.frames c.depth line.deeper }
  where
    deeper_too : (ds : List ℕ) (depth : ℕ) → IsDeeper ds depth → IsDeeper ds (depth + 1)
    deeper_too [] depth h = tt
    deeper_too (d ∷ ds) depth h = omega arith

pub bracket_closes : {c : Standing} {t : Terminal} {a : ℕ} {rest : Text} {ts : List Terminal} → InLine c → Closing t a → At c rest ts
    → At (in_bracket c) (a ∷ rest) (t ∷ ts)
bracket_closes {c = c} {t = t} {a = a} {rest = rest} {ts = ts} line is r = record { lexes = λ at fs are. go at fs are }
  where
    go : (at : ℕ) (fs : List FString) → AreOpen c.frames fs → Lexes (t ∷ ts) (state at (a ∷ rest) (in_bracket c) fs)
    go at fs are =
        let s = state (at + 0) (a ∷ rest) (in_bracket c) fs in
        let alone = closing_alone is in
        let solid = alone_solid rest alone in
        let low = low_floor c.frames c.depth fs are line.deeper in (
          from_to (at + 0) (at + 0 + 1),
          state (at + 0 + 1) rest c fs,
          token_next (in_bracket c) at (a ∷ rest) fs (deeper_line c line) are
              ∙ ap (λ p. Some p) (nothing_skipped (state at (a ∷ rest) (in_bracket c) fs) (skip_none (nat_lt 0 (c.depth + 1)) (a ∷ rest) solid) (omega arith)
              ∙ out_of_holes s low.1 ∙ alone_given t a rest s alone refl)
              ∙ ap (λ d. Some (gives t 1 s (record (after 1 s) { depth = d }))) (out_of_bracket a (floor (innermost fs)) c.depth (closes_is is) low.0),
          omega arith,
          r.lexes (at + 0 + 1) fs are,
        )
