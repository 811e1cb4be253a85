-- What may follow a token, and what expressions begin with.
use Rattle.std.proofs.Common.{◌≡◌, ℕ, Bool, true, false, ◌&&◌, ◌||◌, ◌==◌, arith, inl, inr}
use Rattle.std.specs.Bool.{⊤}
use Rattle.std.proofs.lemmas.Bool.{or_cases, or_left, and_parts, false≢true}
use Rattle.std.proofs.lemmas.Bool.Decides.{nat_tests}
use Rattle.starlark_lexer.specs.Newlines.{first}
use Rattle.starlark_lexer.specs.Classes.{is_letter, is_name_byte, is_digit_of}
use Rattle.starlark_lexer.specs.Cuts.{is_gap}
use Rattle.starlark_lexer.specs.Openings.{is_quote}
use Rattle.starlark_lexer.specs.Tokens.{Text}
use Rattle.starlark_lexer.proofs.TokenTexts.Names.{EndsName}
use Rattle.starlark_lexer.proofs.TokenTexts.Numbers.{EndsNumber}

-- ---- what follows an expression

-- a space, a line feed, `!`, `(`, `)`, `,`, `:`, `;`, `[`, `]` or `}`
abbrev pub is_stop : ℕ → Bool
is_stop b =
    b == 32 || (b == 10 || (b == 33 || (b == 40 || (b == 41 || (b == 44 || (b == 58 || (b == 59 || (b == 91 || (b == 93 || b == 125)))))))))

-- one of these, or a dot if that may follow
abbrev pub StopsOr : Bool → Text → Type 0
StopsOr p rest = (is_stop (first rest) || (p && first rest == 46)) ≡ true

abbrev pub Stops : Text → Type 0
Stops rest = StopsOr false rest

abbrev pub Any : Text → Type 0
Any rest = ⊤

pub with_point : (p : Bool) (rest : Text) → Stops rest → StopsOr p rest
with_point true rest h = elim (or_cases (is_stop (first rest)) false h) [
  | inl stop ↦ or_left (is_stop (first rest)) _ stop
  | inr none ↦ absurd
      (false≢true none)
]
with_point false rest h = h

stop_name : (b : ℕ) → is_stop b ≡ true → is_name_byte b ≡ false
stop_name b e = grind (arith, nat_tests)

stop_quote : (b : ℕ) → is_stop b ≡ true → is_quote b ≡ false
stop_quote b e = grind (arith, nat_tests)

stop_mark : (b : ℕ) → is_stop b ≡ true → (b == 34) ≡ false
stop_mark b e = grind (arith, nat_tests)

stop_number : (b : ℕ) → is_stop b ≡ true → ((b == 46) ≡ false) × ((b == 43) ≡ false) × ((b == 45) ≡ false)
stop_number b e = (grind (arith, nat_tests), grind (arith, nat_tests), grind (arith, nat_tests))

point_name : (b : ℕ) → (b == 46) ≡ true → (is_name_byte b ≡ false) × (is_quote b ≡ false) × ((b == 34) ≡ false)
point_name b e = (grind (arith, nat_tests), grind (arith, nat_tests), grind (arith, nat_tests))

pub ends_name : (p : Bool) (rest : Text) → StopsOr p rest → EndsName rest
ends_name p rest h =
    elim (or_cases (is_stop (first rest)) (p && first rest == 46) h) [
      | inl stop ↦ record { no_more = stop_name (first rest) stop; no_quote = stop_quote (first rest) stop }
      | inr point ↦ let here = point_name (first rest) (and_parts p (first rest == 46) point).1 in record { no_more = here.0; no_quote = here.1 }
    ]

pub no_mark : (p : Bool) (rest : Text) → StopsOr p rest → (first rest == 34) ≡ false
no_mark p rest h =
    elim (or_cases (is_stop (first rest)) (p && first rest == 46) h) [
      | inl stop ↦ stop_mark (first rest) stop
      | inr point ↦ (point_name (first rest) (and_parts p (first rest == 46) point).1).2
    ]

pub is_stopped : (rest : Text) → Stops rest → is_stop (first rest) ≡ true
is_stopped rest h = elim (or_cases (is_stop (first rest)) false h) [ inl stop ↦ stop | inr none ↦ absurd (false≢true none) ]

pub ends_number : (rest : Text) → Stops rest → EndsNumber rest
ends_number rest h =
    let stop = is_stopped rest h in
    let other = stop_number (first rest) stop in
    record { no_name = stop_name (first rest) stop; no_point = other.0; no_plus = other.1; no_minus = other.2 }

-- ---- what an expression begins with

-- a byte of a name, or `"`, `(`, `+`, `-`, `.`, `[`, `{` or `~`
abbrev pub is_begin : ℕ → Bool
is_begin b = is_name_byte b || (b == 34 || (b == 40 || (b == 43 || (b == 45 || (b == 46 || (b == 91 || (b == 123 || b == 126)))))))

-- no operator continues with it, and it does not begin a comment, a newline or whitespace
pub record Begins (b : ℕ) : Type 0 where
  pub no_equal : (b == 61) ≡ false
  pub no_greater : (b == 62) ≡ false
  pub no_star : (b == 42) ≡ false
  pub no_slash : (b == 47) ≡ false
  pub no_gap : is_gap b ≡ false
  pub no_comment : (b == 35) ≡ false

pub begins : (b : ℕ) → is_begin b ≡ true → Begins b
begins b e = record {
  no_equal = grind (arith, nat_tests);
  no_greater = grind (arith, nat_tests);
  no_star = grind (arith, nat_tests);
  no_slash = grind (arith, nat_tests);
  no_gap = grind (arith, nat_tests);
  no_comment = grind (arith, nat_tests);
}

pub letter_begins : (b : ℕ) → is_letter b ≡ true → is_begin b ≡ true
letter_begins b e = grind (arith, nat_tests)

pub digit_begins : (b : ℕ) → is_digit_of 10 b ≡ true → is_begin b ≡ true
digit_begins b e = grind (arith, nat_tests)

-- what may follow a dot
pub letter_after_point : (b : ℕ) → is_letter b ≡ true → ((b == 46) ≡ false) × (is_digit_of 10 b ≡ false)
letter_after_point b e = (grind (arith, nat_tests), grind (arith, nat_tests))

-- no operator continues with what ends an expression
stop_signs : (b : ℕ) → is_stop b ≡ true → ((b == 42) ≡ false) × ((b == 47) ≡ false) × ((b == 61) ≡ false)
stop_signs b e = (grind (arith, nat_tests), grind (arith, nat_tests), grind (arith, nat_tests))

pub no_signs : (rest : Text) → Stops rest → ((first rest == 42) ≡ false) × ((first rest == 47) ≡ false) × ((first rest == 61) ≡ false)
no_signs rest h = stop_signs (first rest) (is_stopped rest h)
