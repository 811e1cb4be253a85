-- Names and keywords at the front of a text.
use Rattle.std.proofs.Common.{◌≡◌, ℕ, zero, suc, ◌+◌, ◌<◌, ◌≤◌, Bool, true, false, not, ◌&&◌, ◌==◌, nat_lt, [], ◌∷◌, ◌++◌, length, get_or, take, Some, None}
use Rattle.std.proofs.Common.{refl, sym, ap, ◌∙◌, arith, inl, inr, length-append, eqb-true}
use Rattle.std.specs.List.{list_all, prefix_len}
use Rattle.std.proofs.lemmas.Bool.{cases_lt, cases_eq, and_parts, cond_both, cond-true, cond-false, false≢true}
use Rattle.std.proofs.lemmas.Bool.Decides.{nat_tests}
use Rattle.std.proofs.Math.Seq.{take-append_seam}
use Rattle.starlark_lexer.specs.declared.string.opening.Prefix.{Prefix}
use Rattle.starlark_lexer.specs.Newlines.{first, newline_len}
use Rattle.starlark_lexer.specs.Classes.{is_letter, is_name_byte}
use Rattle.starlark_lexer.specs.Cuts.{is_gap}
use Rattle.starlark_lexer.specs.Lexing.{name_cut, cut}
use Rattle.starlark_lexer.specs.Openings.{prefix_of, prefix, opening, is_quote}
use Rattle.starlark_lexer.specs.Words.{keyword, is_reserved}
use Rattle.starlark_lexer.specs.Tokens.{Text, Terminal, Identifier}
use Rattle.starlark_lexer.specs.Lexemes.{State, after, gives, take_cut, literal_or, plain_step}
use Rattle.starlark_lexer.proofs.StepLemmas.{name-keyword, name-identifier}
use Rattle.starlark_lexer.proofs.TokenTexts.LineTokens.{Solid, Given, solid_unbroken}

-- ---- no literal opens

-- two bytes of a prefix are letters
record Fits (second : ℕ) (p : Prefix) : Type 0 where
  short : p.len ≤ 2
  two : p.len ≡ 2 → is_name_byte second ≡ true

of_two : (is_first : Bool) (second letter : ℕ) (raw bytes format : Bool) → is_name_byte letter ≡ true → (is_first && second == letter) ≡ true
    → Fits second (prefix_of 2 raw bytes format)
of_two is_first second letter raw bytes format name on =
    let same = eqb-true second letter (and_parts is_first (second == letter) on).1 in
    record { short = omega arith; two = λ _. ap is_name_byte same ∙ name }

fewer : (second len : ℕ) (raw bytes format : Bool) → len < 2 → Fits second (prefix_of len raw bytes format)
fewer second len raw bytes format less = record { short = omega arith; two = λ e. absurd (omega arith) }

prefix_fits : (first second : ℕ) → Fits second (prefix first second)
unfolding prefix
prefix_fits first second =
    let P : Prefix → Type 0 = Fits second in
    cond_both (first == 114 && second == 98) _ _ P (λ on. of_two (first == 114) second 98 true true false refl on)
    (λ _. cond_both (first == 98 && second == 114) _ _ P (λ on. of_two (first == 98) second 114 true true false refl on)
    (λ _. cond_both (first == 102 && second == 114) _ _ P (λ on. of_two (first == 102) second 114 true false true refl on)
    (λ _. cond_both (first == 114 && second == 102) _ _ P (λ on. of_two (first == 114) second 102 true false true refl on)
    (λ _. cond_both (first == 114) _ _ P (λ _. fewer second 1 true false false (omega arith))
    (λ _. cond_both (first == 98) _ _ P (λ _. fewer second 1 false true false (omega arith))
    (λ _. cond_both (first == 102) _ _ P (λ _. fewer second 1 false false true (omega arith)) (λ _. fewer second 0 false false false (omega arith))))))))

-- what may follow a name: neither a byte of a name nor a quote
pub record EndsName (rest : Text) : Type 0 where
  pub no_more : is_name_byte (first rest) ≡ false
  pub no_quote : is_quote (first rest) ≡ false

name_no_quote : (b : ℕ) → is_name_byte b ≡ true → is_quote b ≡ false
name_no_quote b e = grind (arith, nat_tests)

no_quote_at : (front rest : Text) (i : ℕ) → list_all is_name_byte front ≡ true → EndsName rest → i ≤ length front → is_quote (get_or (front ++ rest) i 0)
    ≡ false
no_quote_at [] rest zero all ends h = ends.no_quote
no_quote_at [] rest (suc i) all ends h = absurd (omega arith)
no_quote_at (b ∷ bs) rest zero all ends h = name_no_quote b (and_parts (is_name_byte b) (list_all is_name_byte bs) all).0
no_quote_at (b ∷ bs) rest (suc i) all ends h = no_quote_at bs rest i (and_parts (is_name_byte b) (list_all is_name_byte bs) all).1 ends (omega arith)

no_quote_after : (c : ℕ) (cs rest : Text) → list_all is_name_byte (c ∷ cs) ≡ true → EndsName rest
    → is_quote (get_or ((c ∷ cs) ++ rest) (prefix c (get_or (cs ++ rest) 0 0)).len 0) ≡ false
no_quote_after c [] rest all ends =
    let p = prefix c (first rest) in
    let fits = prefix_fits c (first rest) in
    let short = fits.short in
    let one : p.len ≤ 1 =
    elim (cases_eq p.len 2) [
      | inl two ↦ absurd (false≢true (sym ends.no_more ∙ fits.two two))
      | inr other ↦ elim
          (cases_lt p.len 2) [ inl less ↦ omega arith | inr more ↦ absurd (other (omega arith)) ]
    ] in
    no_quote_at (c ∷ []) rest p.len all ends one
no_quote_after c (d ∷ ds) rest all ends =
    let short = (prefix_fits c d).short in no_quote_at (c ∷ d ∷ ds) rest (prefix c d).len all ends (omega arith)

no_quote_opens : (text : Text) → is_quote (get_or text (prefix (get_or text 0 0) (get_or text 1 0)).len 0) ≡ false → opening text ≡ None
unfolding opening
no_quote_opens text none = cond-false _ _ None none

-- a name opens no literal
pub name_opens_none : (front rest : Text) → 0 < length front → list_all is_name_byte front ≡ true → EndsName rest → opening (front ++ rest) ≡ None
name_opens_none [] rest some all ends = absurd (omega arith)
name_opens_none (c ∷ cs) rest some all ends = no_quote_opens ((c ∷ cs) ++ rest) (no_quote_after c cs rest all ends)

-- ---- the name is cut off

-- a run of a class that ends where the text before the rest ends
pub run_ends : (p : ℕ → Bool) (front rest : Text) → list_all p front ≡ true → p (first rest) ≡ false → prefix_len p (front ++ rest) ≡ length front
run_ends p [] [] all other = refl
run_ends p [] (b ∷ bs) all other = cond-false (p b) _ 0 other
run_ends p (b ∷ bs) rest all other =
    let parts = and_parts (p b) (list_all p bs) all in
    let more = run_ends p bs rest parts.1 other in
    cond-true (p b) (1 + prefix_len p (bs ++ rest)) 0 parts.0 ∙ omega arith

letter_solid : (b : ℕ) → is_letter b ≡ true → is_gap b ≡ false
letter_solid b e = grind (arith, nat_tests)

letter_other : (b : ℕ) → is_letter b ≡ true → (b == 125) ≡ false
letter_other b e = grind (arith, nat_tests)

letter_no_bang : (b c : ℕ) → is_letter b ≡ true → (b == 33 && not (c == 61)) ≡ false
letter_no_bang b c e = grind (arith, nat_tests)

letter_no_comment : (b : ℕ) → is_letter b ≡ true → (b == 35) ≡ false
letter_no_comment b e = grind (arith, nat_tests)

cut-name : (text : Text) → newline_len text ≡ 0 → is_letter (first text) ≡ true → cut text ≡ name_cut text
unfolding cut
cut-name text unbroken letter =
    cond-false (nat_lt 0 (newline_len text)) _ _ (rw unbroken refl) ∙ cond-false (first text == 35) _ _ (letter_no_comment (first text) letter)
    ∙ cond-true (is_letter (first text)) _ _ letter

pub plain_none : (s : State) → opening s.rest ≡ None → plain_step s ≡ take_cut s (cut s.rest)
unfolding plain_step
plain_none s none = ap (literal_or s) none

-- a name that is ended by what comes after it
pub record IsNamed (front rest : Text) : Type 0 where
  pub all : list_all is_name_byte front ≡ true
  pub letter : is_letter (first front) ≡ true
  pub ends : EndsName rest

named_some : (front : Text) → is_letter (first front) ≡ true → 0 < length front
named_some [] e = cc
named_some (b ∷ bs) e = omega arith

first_same : (front rest : Text) → 0 < length front → first (front ++ rest) ≡ first front
first_same [] rest some = absurd (omega arith)
first_same (b ∷ bs) rest some = refl

name_step : (front rest : Text) (s : State) → IsNamed front rest → s.rest ≡ front ++ rest → plain_step s ≡ take_cut s (name_cut s.rest)
name_step front rest s h is =
    let some = named_some front h.letter in
    let letter : is_letter (first s.rest) ≡ true = ap (λ x. is_letter (first x)) is ∙ ap is_letter (first_same front rest some) ∙ h.letter in
    let solid : Solid s.rest = record { some = omega (arith, ap length is, length-append front rest); no_gap = letter_solid (first s.rest) letter } in
    plain_none s (ap opening is ∙ name_opens_none front rest some h.all h.ends) ∙ ap (take_cut s) (cut-name s.rest (solid_unbroken s.rest solid) letter)

-- a name is the token that its step gives
named_given : (front rest : Text) (t : Terminal) → IsNamed front rest
    → ((s : State) → s.rest ≡ front ++ rest → is_letter (first s.rest) ≡ true → length front ≡ prefix_len is_name_byte s.rest → take (length front) s.rest
    ≡ front
    → take_cut s (name_cut s.rest) ≡ gives t (length front) s (after (length front) s))
    → Given front rest t
named_given front rest t h cuts =
    let some = named_some front h.letter in
    let letter : is_letter (first (front ++ rest)) ≡ true = ap is_letter (first_same front rest some) ∙ h.letter in
    record {
      some = some;
      solid = record { some = omega (arith, length-append front rest); no_gap = letter_solid (first (front ++ rest)) letter };
      no_hole_end = letter_other (first (front ++ rest)) letter;
      no_bang = letter_no_bang (first (front ++ rest)) (get_or (front ++ rest) 1 0) letter;
      given = λ s is.
          name_step front rest s h is
          ∙ cuts s is (ap (λ x. is_letter (first x)) is ∙ letter)
          (sym (ap (prefix_len is_name_byte) is ∙ run_ends is_name_byte front rest h.all h.ends.no_more))
          (ap (take (length front)) is ∙ take-append_seam front rest);
    }

pub keyword_given : (front rest : Text) (t : Terminal) → IsNamed front rest → keyword front ≡ Some t → Given front rest t
keyword_given front rest t h is =
    named_given front rest t h (λ s here letter len front_is. name-keyword s (length front) t letter len (sym (ap keyword front_is ∙ is)))

pub identifier_given : (front rest : Text) → IsNamed front rest → keyword front ≡ None → is_reserved front ≡ false → Given front rest (Identifier front)
identifier_given front rest h is plain =
    named_given front rest (Identifier front) h
    (λ s here letter len front_is.
    name-identifier s (length front) letter len (sym (ap keyword front_is ∙ is)) (sym (ap is_reserved front_is ∙ plain))
    ∙ ap (λ text. gives (Identifier text) (length front) s (after (length front) s)) front_is)
