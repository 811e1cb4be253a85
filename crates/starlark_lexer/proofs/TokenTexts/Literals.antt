-- String and bytes literals in double quotes, at the front of a text.
use Rattle.std.proofs.Common.{◌≡◌, ℕ, ◌+◌, Bool, true, false, cond, ◌&&◌, ◌||◌, ◌==◌, [], ◌∷◌, ◌++◌, length, get_or, drop, flat_map, Some, refl, ap, ◌∙◌}
use Rattle.std.proofs.Common.{arith, length-append, append_assoc}
use Rattle.std.proofs.lemmas.Bool.{and_left, cond-false}
use Rattle.std.proofs.lemmas.Bool.Decides.{nat_tests}
use Rattle.starlark_lexer.specs.declared.string.escape.Stop.TheVariants.{Closed}
use Rattle.starlark_lexer.specs.declared.string.opening.Style.{Style}
use Rattle.starlark_lexer.specs.Newlines.{first, newline_len}
use Rattle.starlark_lexer.specs.Cuts.{token}
use Rattle.starlark_lexer.specs.Openings.{prefix, opening}
use Rattle.starlark_lexer.specs.Strings.{run, literal, cut_at, string_cut}
use Rattle.starlark_lexer.specs.Tokens.{Text, Terminal, String, Bytes}
use Rattle.starlark_lexer.specs.Lexemes.{State, after, gives, take_cut, literal_or, plain_step, opens, closes}
use Rattle.starlark_lexer.proofs.StepLemmas.{sign_taken}
use Rattle.starlark_lexer.proofs.TokenTexts.StringPieces.{RunsTo, run_of, run_is}
use Rattle.starlark_lexer.proofs.TokenTexts.StringBytes.{marks, Spells, itself, by_letter, by_digits, doubled, opening as opening_brace}
use Rattle.starlark_lexer.proofs.TokenTexts.StringBytes.{closing as closing_brace, AreSpelled, spelled_all, closes_run}
use Rattle.starlark_lexer.proofs.TokenTexts.LineTokens.{Solid, Given, solid_unbroken}

-- ---- three double quotes open another literal

abbrev pub is_triple : Text → Bool
is_triple inside = get_or inside 0 0 == 34 && get_or inside 1 0 == 34

-- no byte is written with a double quote first
pub spelled_begins : {bytes format : Bool} {b : ℕ} {front : Text} (rest : Text) → Spells bytes format b front → (get_or (front ++ rest) 0 0 == 34) ≡ false
spelled_begins {bytes = bytes} {format = format} {b = b} rest (itself plain) = grind (arith, nat_tests)
spelled_begins rest (by_letter is) = refl
spelled_begins rest (by_digits first second is small adds) = refl
spelled_begins rest (doubled is opening_brace) = refl
spelled_begins rest (doubled is closing_brace) = refl

-- the text of a literal, its closing quote, and what is after it
abbrev pub closed : Text → Text → Text
closed inside rest = inside ++ 34 ∷ rest

pub not_triple : (bytes format : Bool) (spell : ℕ → Text) (all rest : Text) → AreSpelled bytes format spell all → (first rest == 34) ≡ false
    → is_triple (closed (flat_map spell all) rest) ≡ false
not_triple bytes format spell [] rest each other = other
not_triple bytes format spell (b ∷ bs) rest each other =
    rw (append_assoc (spell b) (flat_map spell bs) (34 ∷ rest)) (and_left _ _ (spelled_begins (closed (flat_map spell bs) rest) each.0))

-- ---- openings

string_opens : (inside : Text) → is_triple inside ≡ false → opening (34 ∷ inside) ≡ Some (marks false false, 1)
unfolding opening prefix
string_opens inside once = rw once refl

bytes_opens : (inside : Text) → is_triple inside ≡ false → opening (98 ∷ 34 ∷ inside) ≡ Some (marks true false, 2)
unfolding opening prefix
bytes_opens inside once = rw once refl

pub format_opens : (inside : Text) → is_triple inside ≡ false → opening (102 ∷ 34 ∷ inside) ≡ Some (marks false true, 2)
unfolding opening prefix
format_opens inside once = rw once refl

-- ---- the whole literal

cut_closed : (style : Style) (n : ℕ) (text inside value : Text) (len : ℕ) → drop n text ≡ inside → run style inside ≡ run_of value len Closed
    → string_cut style n text ≡ cut_at style n inside len Closed
unfolding string_cut
cut_closed style n text inside value len is r = rw (is, r) refl

literal_is : (style : Style) (inside value : Text) (len : ℕ) → run style inside ≡ run_of value len Closed
    → literal style inside ≡ cond style.bytes (Bytes value) (String value)
unfolding literal
literal_is style inside value len r = rw r refl

-- what is between the quotes is read as this value
abbrev Closes : Bool → Text → Text → Text → Type 0
Closes bytes body rest value = RunsTo (marks bytes false) (closed body rest) value (length body) Closed

plain_opened : (s : State) (style : Style) (n : ℕ) → opening s.rest ≡ Some (style, n) → style.format ≡ false → plain_step s
    ≡ take_cut s (string_cut style n s.rest)
unfolding plain_step
plain_opened s style n is plain = ap (literal_or s) is ∙ cond-false style.format _ _ plain

-- a text that begins with these bytes opens a literal that is cut off as this token
literal_given : (front text : Text) (style : Style) (n m : ℕ) (t : Terminal) (s : State) → s.rest ≡ text → Solid text
    → (opens (first text) || closes (first text)) ≡ false → opening text ≡ Some (style, n) → style.format ≡ false → string_cut style n text ≡ token t m
    → m ≡ length front → plain_step s ≡ gives t (length front) s (after (length front) s)
literal_given front text style n m t s whole solid plain opened no_format cut is =
    plain_opened s style n (ap opening whole ∙ opened) no_format ∙ ap (take_cut s) (ap (string_cut style n) whole ∙ cut)
    ∙ sign_taken s m t (ap newline_len whole ∙ solid_unbroken text solid) (ap (λ x. opens (first x) || closes (first x)) whole ∙ plain)
    ∙ ap (λ k. gives t k s (after k s)) is

pub string_given : (body rest value : Text) → is_triple (closed body rest) ≡ false → Closes false body rest value
    → Given (34 ∷ (body ++ 34 ∷ [])) rest (String value)
string_given body rest value once r =
    let style = marks false false in
    let cut : string_cut style 1 (34 ∷ closed body rest) ≡ token (String value) (1 + length body + 1) =
    cut_closed style 1 (34 ∷ closed body rest) (closed body rest) value (length body) refl (run_is r)
    ∙ ap (λ t. token t (1 + length body + 1)) (literal_is style (closed body rest) value (length body) (run_is r)) in
    record {
      some = omega arith;
      solid = record { some = omega arith; no_gap = refl };
      no_hole_end = refl;
      no_bang = refl;
      given = λ s is.
          literal_given (34 ∷ (body ++ 34 ∷ [])) (34 ∷ closed body rest) style 1 (1 + length body + 1) (String value) s
          (is ∙ ap (λ x. 34 ∷ x) (append_assoc body (34 ∷ []) rest)) (record { some = omega arith; no_gap = refl }) refl
          (string_opens (closed body rest) once) refl cut
          (omega (arith, length-append body (34 ∷ [])));
    }

pub bytes_given : (body rest value : Text) → is_triple (closed body rest) ≡ false → Closes true body rest value
    → Given (98 ∷ 34 ∷ (body ++ 34 ∷ [])) rest (Bytes value)
bytes_given body rest value once r =
    let style = marks true false in
    let cut : string_cut style 2 (98 ∷ 34 ∷ closed body rest) ≡ token (Bytes value) (2 + length body + 1) =
    cut_closed style 2 (98 ∷ 34 ∷ closed body rest) (closed body rest) value (length body) refl (run_is r)
    ∙ ap (λ t. token t (2 + length body + 1)) (literal_is style (closed body rest) value (length body) (run_is r)) in
    record {
      some = omega arith;
      solid = record { some = omega arith; no_gap = refl };
      no_hole_end = refl;
      no_bang = refl;
      given = λ s is.
          literal_given (98 ∷ 34 ∷ (body ++ 34 ∷ [])) (98 ∷ 34 ∷ closed body rest) style 2 (2 + length body + 1) (Bytes value) s
          (is ∙ ap (λ x. 98 ∷ 34 ∷ x) (append_assoc body (34 ∷ []) rest)) (record { some = omega arith; no_gap = refl }) refl
          (bytes_opens (closed body rest) once) refl cut (omega (arith, length-append body (34 ∷ [])));
    }

-- ---- for bytes that are spelled one by one

pub spelled_string : (spell : ℕ → Text) (value rest : Text) → AreSpelled false false spell value → (first rest == 34) ≡ false
    → Given (34 ∷ (flat_map spell value ++ 34 ∷ [])) rest (String value)
spelled_string spell value rest each other =
    string_given (flat_map spell value) rest value (not_triple false false spell value rest each other)
    (spelled_all false false spell value each (closes_run false false rest))

pub spelled_bytes : (spell : ℕ → Text) (value rest : Text) → AreSpelled true false spell value → (first rest == 34) ≡ false
    → Given (98 ∷ 34 ∷ (flat_map spell value ++ 34 ∷ [])) rest (Bytes value)
spelled_bytes spell value rest each other =
    bytes_given (flat_map spell value) rest value (not_triple true false spell value rest each other)
    (spelled_all true false spell value each (closes_run true false rest))
