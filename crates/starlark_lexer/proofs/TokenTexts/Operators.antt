-- Operators and delimiters at the front of a text.
use Rattle.std.proofs.Common.{◌≡◌, ℕ, Bool, true, false, not, ◌&&◌, ◌||◌, ◌==◌, [], ◌∷◌, ◌++◌, length, get_or, Some, None, refl, sym, ap, ◌∙◌, arith}
use Rattle.std.proofs.lemmas.Bool.{and_parts, and_left, cond-false, or_from, eqb-false}
use Rattle.starlark_lexer.specs.declared.string.opening.Prefix.{Prefix}
use Rattle.starlark_lexer.specs.Newlines.{first, newline_len}
use Rattle.starlark_lexer.specs.Classes.{is_letter, is_digit_of}
use Rattle.starlark_lexer.specs.Cuts.{token, is_gap}
use Rattle.starlark_lexer.specs.Lexing.{sign_cut}
use Rattle.starlark_lexer.specs.Numbers.{begins_number}
use Rattle.starlark_lexer.specs.Openings.{prefix_of, prefix, opening, is_quote}
use Rattle.starlark_lexer.specs.Words.{sign}
use Rattle.starlark_lexer.specs.Tokens.{Text, Terminal, Comma, Semicolon, Colon, Dot, Ellipsis, MinusGreater}
use Rattle.starlark_lexer.specs.Tokens.{Plus, Minus, Star, Slash, SlashSlash, Percent, StarStar, Ampersand, Pipe, Caret, Tilde, LessLess, GreaterGreater}
use Rattle.starlark_lexer.specs.Tokens.{LessThan, GreaterThan, LessEqual, GreaterEqual}
use Rattle.starlark_lexer.specs.Tokens.{EqualEqual, BangEqual, Equal, PlusEqual, MinusEqual, StarEqual, SlashEqual, SlashSlashEqual, PercentEqual}
use Rattle.starlark_lexer.specs.Tokens.{AmpersandEqual, PipeEqual, CaretEqual, LessLessEqual, GreaterGreaterEqual}
use Rattle.starlark_lexer.specs.Lexemes.{take_cut, opens, closes}
use Rattle.starlark_lexer.proofs.StepLemmas.{sign-one, sign-two, sign-three, plain-sign, sign_taken}
use Rattle.starlark_lexer.proofs.TokenTexts.LineTokens.{Solid, Given, solid_unbroken}

-- ---- the first byte

prefix_none : (a b : ℕ) → (a == 114) ≡ false → (a == 98) ≡ false → (a == 102) ≡ false → prefix a b ≡ prefix_of 0 false false false
unfolding prefix
prefix_none a b r x f =
    cond-false _ _ _ (and_left (a == 114) (b == 98) r) ∙ cond-false _ _ _ (and_left (a == 98) (b == 114) x)
    ∙ cond-false _ _ _ (and_left (a == 102) (b == 114) f)
    ∙ cond-false _ _ _ (and_left (a == 114) (b == 102) r) ∙ cond-false _ _ _ r ∙ cond-false _ _ _ x ∙ cond-false _ _ _ f

pub opening_none : (a : ℕ) (text : Text) → (a == 114) ≡ false → (a == 98) ≡ false → (a == 102) ≡ false → is_quote a ≡ false → opening (a ∷ text) ≡ None
unfolding opening
opening_none a text r x f quote =
    cond-false _ _ None (ap (λ (p : Prefix). is_quote (get_or (a ∷ text) p.len 0)) (prefix_none a (get_or text 0 0) r x f) ∙ quote)

-- a byte that begins an operator or punctuation but no delimiter, and a number only if a digit follows
abbrev begins_plainly : ℕ → Bool
begins_plainly a =
    not (a == 114) && (not (a == 98) && (not (a == 102) && (not (is_quote a) && (not (is_gap a) && (not (a == 35) && (not (is_letter a)
    && (not (is_digit_of 10 a) && (not (a == 125) && not (opens a || closes a)))))))))

record Plainly (a : ℕ) : Type 0 where
  r : (a == 114) ≡ false
  b : (a == 98) ≡ false
  f : (a == 102) ≡ false
  quote : is_quote a ≡ false
  gap : is_gap a ≡ false
  comment : (a == 35) ≡ false
  letter : is_letter a ≡ false
  digit : is_digit_of 10 a ≡ false
  curly : (a == 125) ≡ false
  bracket : (opens a || closes a) ≡ false

no : (b : Bool) → not b ≡ true → b ≡ false
no true e = cc
no false e = refl

plainly : (a : ℕ) → begins_plainly a ≡ true → Plainly a
plainly a e =
    let p0 = and_parts _ _ e in
    let p1 = and_parts _ _ p0.1 in
    let p2 = and_parts _ _ p1.1 in
    let p3 = and_parts _ _ p2.1 in
    let p4 = and_parts _ _ p3.1 in
    let p5 = and_parts _ _ p4.1 in
    let p6 = and_parts _ _ p5.1 in
    let p7 = and_parts _ _ p6.1 in
    let p8 = and_parts _ _ p7.1 in
    record {
      r = no _ p0.0;
      b = no _ p1.0;
      f = no _ p2.0;
      quote = no _ p3.0;
      gap = no _ p4.0;
      comment = no _ p5.0;
      letter = no _ p6.0;
      digit =
          no _ p7.0;
      curly = no _ p8.0;
      bracket = no _ p8.1;
    }

-- a number begins with a digit, or with a point and a digit
no_number : (a : ℕ) (text : Text) → is_digit_of 10 a ≡ false → (a == 46 && is_digit_of 10 (first text)) ≡ false → begins_number (a ∷ text) ≡ false
no_number a text digit point = or_from _ _ digit point

sign_given : (a : ℕ) (more rest : Text) (t : Terminal) → begins_plainly a ≡ true → (a == 46 && is_digit_of 10 (first (more ++ rest))) ≡ false
    → (a == 33 && not (first (more ++ rest) == 61)) ≡ false → sign_cut ((a ∷ more) ++ rest) ≡ token t (length (a ∷ more)) → Given (a ∷ more) rest t
sign_given a more rest t plain point bang cut =
    let p = plainly a plain in
    let solid : Solid (a ∷ (more ++ rest)) = record { some = omega arith; no_gap = p.gap } in
    record {
      some = omega arith;
      solid = solid;
      no_hole_end = p.curly;
      no_bang = bang;
      given = λ s is.
          plain-sign s (sym (ap opening is ∙ opening_none a (more ++ rest) p.r p.b p.f p.quote)) (ap newline_len is ∙ solid_unbroken (a ∷ (more ++ rest)) solid)
          (λ same. eqb-false a 35 p.comment (sym (ap first is) ∙ same)) (ap (λ x. is_letter (first x)) is ∙ p.letter)
          (ap begins_number is ∙ no_number a (more ++ rest) p.digit point)
          ∙ ap (take_cut s) (ap sign_cut is ∙ cut)
          ∙ sign_taken s (length (a ∷ more)) t (ap newline_len is ∙ solid_unbroken (a ∷ (more ++ rest)) solid)
          (ap (λ x. opens (first x) || closes (first x)) is ∙ p.bracket);
    }

-- ---- operators and punctuation of one byte

one_byte : (a : ℕ) (rest : Text) (t : Terminal) → None ≡ sign (a ∷ first rest ∷ get_or rest 1 0 ∷ []) → None ≡ sign (a ∷ first rest ∷ []) → Some t
    ≡ sign (a ∷ [])
    → sign_cut (a ∷ rest) ≡ token t 1
one_byte a rest t three two one = sign-one (a ∷ rest) t three two one

-- a token of one byte that no following byte makes longer
pub data Lone : Terminal → ℕ → Type 0 where
  comma : Lone Comma 44
  semicolon : Lone Semicolon 59
  colon : Lone Colon 58
  tilde : Lone Tilde 126

lone_three : {t : Terminal} {a : ℕ} (b c : ℕ) → Lone t a → None ≡ sign (a ∷ b ∷ c ∷ [])
unfolding sign
lone_three b c comma = refl
lone_three b c semicolon = refl
lone_three b c colon = refl
lone_three b c tilde = refl

lone_two : {t : Terminal} {a : ℕ} (b : ℕ) → Lone t a → None ≡ sign (a ∷ b ∷ [])
unfolding sign
lone_two b comma = refl
lone_two b semicolon = refl
lone_two b colon = refl
lone_two b tilde = refl

lone_one : {t : Terminal} {a : ℕ} → Lone t a → Some t ≡ sign (a ∷ [])
unfolding sign
lone_one comma = refl
lone_one semicolon = refl
lone_one colon = refl
lone_one tilde = refl

lone_plain : {t : Terminal} {a : ℕ} → Lone t a → begins_plainly a ≡ true
lone_plain comma = refl
lone_plain semicolon = refl
lone_plain colon = refl
lone_plain tilde = refl

lone_point : {t : Terminal} {a : ℕ} (x : Bool) → Lone t a → (a == 46 && x) ≡ false
lone_point x comma = refl
lone_point x semicolon = refl
lone_point x colon = refl
lone_point x tilde = refl

lone_bang : {t : Terminal} {a : ℕ} (x : Bool) → Lone t a → (a == 33 && x) ≡ false
lone_bang x comma = refl
lone_bang x semicolon = refl
lone_bang x colon = refl
lone_bang x tilde = refl

pub lone_given : {t : Terminal} {a : ℕ} (rest : Text) → Lone t a → Given (a ∷ []) rest t
lone_given {t = t} {a = a} rest is =
    sign_given a [] rest t (lone_plain is) (lone_point _ is) (lone_bang _ is) (one_byte a rest t (lone_three _ _ is) (lone_two _ is) (lone_one is))

minus_three : (b c : ℕ) → (b == 61) ≡ false → (b == 62) ≡ false → None ≡ sign (45 ∷ b ∷ c ∷ [])
unfolding sign
minus_three b c equal greater = rw (equal, greater) refl

minus_two : (b : ℕ) → (b == 61) ≡ false → (b == 62) ≡ false → None ≡ sign (45 ∷ b ∷ [])
unfolding sign
minus_two b equal greater = rw (equal, greater) refl

plus_three : (b c : ℕ) → (b == 61) ≡ false → None ≡ sign (43 ∷ b ∷ c ∷ [])
unfolding sign
plus_three b c equal = rw equal refl

plus_two : (b : ℕ) → (b == 61) ≡ false → None ≡ sign (43 ∷ b ∷ [])
unfolding sign
plus_two b equal = rw equal refl

star_three : (b c : ℕ) → (b == 42) ≡ false → (b == 61) ≡ false → None ≡ sign (42 ∷ b ∷ c ∷ [])
unfolding sign
star_three b c star equal = rw (star, equal) refl

star_two : (b : ℕ) → (b == 42) ≡ false → (b == 61) ≡ false → None ≡ sign (42 ∷ b ∷ [])
unfolding sign
star_two b star equal = rw (star, equal) refl

slash_three : (b c : ℕ) → (b == 47) ≡ false → (b == 61) ≡ false → None ≡ sign (47 ∷ b ∷ c ∷ [])
unfolding sign
slash_three b c slash equal = rw (slash, equal) refl

slash_two : (b : ℕ) → (b == 47) ≡ false → (b == 61) ≡ false → None ≡ sign (47 ∷ b ∷ [])
unfolding sign
slash_two b slash equal = rw (slash, equal) refl

dot_three : (b c : ℕ) → (b == 46) ≡ false → None ≡ sign (46 ∷ b ∷ c ∷ [])
unfolding sign
dot_three b c dot = rw dot refl

dot_two : (b : ℕ) → (b == 46) ≡ false → None ≡ sign (46 ∷ b ∷ [])
unfolding sign
dot_two b dot = rw dot refl

ones : (Some Minus ≡ sign (45 ∷ [])) × (Some Plus ≡ sign (43 ∷ [])) × (Some Star ≡ sign (42 ∷ [])) × (Some Slash ≡ sign (47 ∷ []))
    × (Some Dot ≡ sign (46 ∷ []))
unfolding sign
ones = (refl, refl, refl, refl, refl)

pub minus_given : (rest : Text) → (first rest == 61) ≡ false → (first rest == 62) ≡ false → Given (45 ∷ []) rest Minus
minus_given rest equal greater =
    sign_given 45 [] rest Minus refl refl refl (one_byte 45 rest Minus (minus_three _ _ equal greater) (minus_two _ equal greater) ones.0)

pub plus_given : (rest : Text) → (first rest == 61) ≡ false → Given (43 ∷ []) rest Plus
plus_given rest equal = sign_given 43 [] rest Plus refl refl refl (one_byte 43 rest Plus (plus_three _ _ equal) (plus_two _ equal) ones.1)

pub star_given : (rest : Text) → (first rest == 42) ≡ false → (first rest == 61) ≡ false → Given (42 ∷ []) rest Star
star_given rest star equal = sign_given 42 [] rest Star refl refl refl (one_byte 42 rest Star (star_three _ _ star equal) (star_two _ star equal) ones.2)

pub slash_given : (rest : Text) → (first rest == 47) ≡ false → (first rest == 61) ≡ false → Given (47 ∷ []) rest Slash
slash_given rest slash equal = sign_given 47 [] rest Slash refl refl refl
    (one_byte 47 rest Slash (slash_three _ _ slash equal) (slash_two _ slash equal) ones.3)

pub dot_given : (rest : Text) → (first rest == 46) ≡ false → is_digit_of 10 (first rest) ≡ false → Given (46 ∷ []) rest Dot
dot_given rest dot digit = sign_given 46 [] rest Dot refl digit refl (one_byte 46 rest Dot (dot_three _ _ dot) (dot_two _ dot) ones.4)

-- ---- operators of more bytes

stars_three : (c : ℕ) → None ≡ sign (42 ∷ 42 ∷ c ∷ [])
unfolding sign
stars_three c = refl

stars : (Some StarStar ≡ sign (42 ∷ 42 ∷ [])) × (Some Ellipsis ≡ sign (46 ∷ 46 ∷ 46 ∷ []))
unfolding sign
stars = (refl, refl)

pub star_star_given : (rest : Text) → Given (42 ∷ 42 ∷ []) rest StarStar
star_star_given rest = sign_given 42 (42 ∷ []) rest StarStar refl refl refl (sign-two (42 ∷ 42 ∷ rest) StarStar (stars_three (first rest)) stars.0)

pub ellipsis_given : (rest : Text) → Given (46 ∷ 46 ∷ 46 ∷ []) rest Ellipsis
ellipsis_given rest = sign_given 46 (46 ∷ 46 ∷ []) rest Ellipsis refl refl refl (sign-three (46 ∷ 46 ∷ 46 ∷ rest) Ellipsis stars.1)

-- ---- operators before a space

-- an operator between two spaces, and its bytes
pub data Spaced : Terminal → ℕ → Text → Type 0 where
  plus : Spaced Plus 43 []
  minus : Spaced Minus 45 []
  star : Spaced Star 42 []
  slash : Spaced Slash 47 []
  percent : Spaced Percent 37 []
  ampersand : Spaced Ampersand 38 []
  pipe : Spaced Pipe 124 []
  caret : Spaced Caret 94 []
  less_than : Spaced LessThan 60 []
  greater_than : Spaced GreaterThan 62 []
  equal : Spaced Equal 61 []
  minus_greater : Spaced MinusGreater 45 (62 ∷ [])
  slash_slash : Spaced SlashSlash 47 (47 ∷ [])
  less_less : Spaced LessLess 60 (60 ∷ [])
  greater_greater : Spaced GreaterGreater 62 (62 ∷ [])
  less_equal : Spaced LessEqual 60 (61 ∷ [])
  greater_equal : Spaced GreaterEqual 62 (61 ∷ [])
  equal_equal : Spaced EqualEqual 61 (61 ∷ [])
  bang_equal : Spaced BangEqual 33 (61 ∷ [])
  plus_equal : Spaced PlusEqual 43 (61 ∷ [])
  minus_equal : Spaced MinusEqual 45 (61 ∷ [])
  star_equal : Spaced StarEqual 42 (61 ∷ [])
  slash_equal : Spaced SlashEqual 47 (61 ∷ [])
  percent_equal : Spaced PercentEqual 37 (61 ∷ [])
  ampersand_equal : Spaced AmpersandEqual 38 (61 ∷ [])
  pipe_equal : Spaced PipeEqual 124 (61 ∷ [])
  caret_equal : Spaced CaretEqual 94 (61 ∷ [])
  slash_slash_equal : Spaced SlashSlashEqual 47 (47 ∷ 61 ∷ [])
  less_less_equal : Spaced LessLessEqual 60 (60 ∷ 61 ∷ [])
  greater_greater_equal : Spaced GreaterGreaterEqual 62 (62 ∷ 61 ∷ [])

spaced_cut : {t : Terminal} {a : ℕ} {more : Text} (rest : Text) → Spaced t a more → sign_cut ((a ∷ more) ++ 32 ∷ rest) ≡ token t (length (a ∷ more))
unfolding sign
spaced_cut rest plus = sign-one (43 ∷ 32 ∷ rest) Plus refl refl refl
spaced_cut rest minus = sign-one (45 ∷ 32 ∷ rest) Minus refl refl refl
spaced_cut rest star = sign-one (42 ∷ 32 ∷ rest) Star refl refl refl
spaced_cut rest slash = sign-one (47 ∷ 32 ∷ rest) Slash refl refl refl
spaced_cut rest percent = sign-one (37 ∷ 32 ∷ rest) Percent refl refl refl
spaced_cut rest ampersand = sign-one (38 ∷ 32 ∷ rest) Ampersand refl refl refl
spaced_cut rest pipe = sign-one (124 ∷ 32 ∷ rest) Pipe refl refl refl
spaced_cut rest caret = sign-one (94 ∷ 32 ∷ rest) Caret refl refl refl
spaced_cut rest less_than = sign-one (60 ∷ 32 ∷ rest) LessThan refl refl refl
spaced_cut rest greater_than = sign-one (62 ∷ 32 ∷ rest) GreaterThan refl refl refl
spaced_cut rest equal = sign-one (61 ∷ 32 ∷ rest) Equal refl refl refl
spaced_cut rest minus_greater = sign-two (45 ∷ 62 ∷ 32 ∷ rest) MinusGreater refl refl
spaced_cut rest slash_slash = sign-two (47 ∷ 47 ∷ 32 ∷ rest) SlashSlash refl refl
spaced_cut rest less_less = sign-two (60 ∷ 60 ∷ 32 ∷ rest) LessLess refl refl
spaced_cut rest greater_greater = sign-two (62 ∷ 62 ∷ 32 ∷ rest) GreaterGreater refl refl
spaced_cut rest less_equal = sign-two (60 ∷ 61 ∷ 32 ∷ rest) LessEqual refl refl
spaced_cut rest greater_equal = sign-two (62 ∷ 61 ∷ 32 ∷ rest) GreaterEqual refl refl
spaced_cut rest equal_equal = sign-two (61 ∷ 61 ∷ 32 ∷ rest) EqualEqual refl refl
spaced_cut rest bang_equal = sign-two (33 ∷ 61 ∷ 32 ∷ rest) BangEqual refl refl
spaced_cut rest plus_equal = sign-two (43 ∷ 61 ∷ 32 ∷ rest) PlusEqual refl refl
spaced_cut rest minus_equal = sign-two (45 ∷ 61 ∷ 32 ∷ rest) MinusEqual refl refl
spaced_cut rest star_equal = sign-two (42 ∷ 61 ∷ 32 ∷ rest) StarEqual refl refl
spaced_cut rest slash_equal = sign-two (47 ∷ 61 ∷ 32 ∷ rest) SlashEqual refl refl
spaced_cut rest percent_equal = sign-two (37 ∷ 61 ∷ 32 ∷ rest) PercentEqual refl refl
spaced_cut rest ampersand_equal = sign-two (38 ∷ 61 ∷ 32 ∷ rest) AmpersandEqual refl refl
spaced_cut rest pipe_equal = sign-two (124 ∷ 61 ∷ 32 ∷ rest) PipeEqual refl refl
spaced_cut rest caret_equal = sign-two (94 ∷ 61 ∷ 32 ∷ rest) CaretEqual refl refl
spaced_cut rest slash_slash_equal = sign-three (47 ∷ 47 ∷ 61 ∷ 32 ∷ rest) SlashSlashEqual refl
spaced_cut rest less_less_equal = sign-three (60 ∷ 60 ∷ 61 ∷ 32 ∷ rest) LessLessEqual refl
spaced_cut rest greater_greater_equal = sign-three (62 ∷ 62 ∷ 61 ∷ 32 ∷ rest) GreaterGreaterEqual refl

spaced_plain : {t : Terminal} {a : ℕ} {more : Text} → Spaced t a more → begins_plainly a ≡ true
spaced_plain plus = refl
spaced_plain minus = refl
spaced_plain star = refl
spaced_plain slash = refl
spaced_plain percent = refl
spaced_plain ampersand = refl
spaced_plain pipe = refl
spaced_plain caret = refl
spaced_plain less_than = refl
spaced_plain greater_than = refl
spaced_plain equal = refl
spaced_plain minus_greater = refl
spaced_plain slash_slash = refl
spaced_plain less_less = refl
spaced_plain greater_greater = refl
spaced_plain less_equal = refl
spaced_plain greater_equal = refl
spaced_plain equal_equal = refl
spaced_plain bang_equal = refl
spaced_plain plus_equal = refl
spaced_plain minus_equal = refl
spaced_plain star_equal = refl
spaced_plain slash_equal = refl
spaced_plain percent_equal = refl
spaced_plain ampersand_equal = refl
spaced_plain pipe_equal = refl
spaced_plain caret_equal = refl
spaced_plain slash_slash_equal = refl
spaced_plain less_less_equal = refl
spaced_plain greater_greater_equal = refl

spaced_point : {t : Terminal} {a : ℕ} {more : Text} (x : Bool) → Spaced t a more → (a == 46 && x) ≡ false
spaced_point x plus = refl
spaced_point x minus = refl
spaced_point x star = refl
spaced_point x slash = refl
spaced_point x percent = refl
spaced_point x ampersand = refl
spaced_point x pipe = refl
spaced_point x caret = refl
spaced_point x less_than = refl
spaced_point x greater_than = refl
spaced_point x equal = refl
spaced_point x minus_greater = refl
spaced_point x slash_slash = refl
spaced_point x less_less = refl
spaced_point x greater_greater = refl
spaced_point x less_equal = refl
spaced_point x greater_equal = refl
spaced_point x equal_equal = refl
spaced_point x bang_equal = refl
spaced_point x plus_equal = refl
spaced_point x minus_equal = refl
spaced_point x star_equal = refl
spaced_point x slash_equal = refl
spaced_point x percent_equal = refl
spaced_point x ampersand_equal = refl
spaced_point x pipe_equal = refl
spaced_point x caret_equal = refl
spaced_point x slash_slash_equal = refl
spaced_point x less_less_equal = refl
spaced_point x greater_greater_equal = refl

spaced_bang : {t : Terminal} {a : ℕ} {more : Text} (rest : Text) → Spaced t a more → (a == 33 && not (first (more ++ 32 ∷ rest) == 61)) ≡ false
spaced_bang rest plus = refl
spaced_bang rest minus = refl
spaced_bang rest star = refl
spaced_bang rest slash = refl
spaced_bang rest percent = refl
spaced_bang rest ampersand = refl
spaced_bang rest pipe = refl
spaced_bang rest caret = refl
spaced_bang rest less_than = refl
spaced_bang rest greater_than = refl
spaced_bang rest equal = refl
spaced_bang rest minus_greater = refl
spaced_bang rest slash_slash = refl
spaced_bang rest less_less = refl
spaced_bang rest greater_greater = refl
spaced_bang rest less_equal = refl
spaced_bang rest greater_equal = refl
spaced_bang rest equal_equal = refl
spaced_bang rest bang_equal = refl
spaced_bang rest plus_equal = refl
spaced_bang rest minus_equal = refl
spaced_bang rest star_equal = refl
spaced_bang rest slash_equal = refl
spaced_bang rest percent_equal = refl
spaced_bang rest ampersand_equal = refl
spaced_bang rest pipe_equal = refl
spaced_bang rest caret_equal = refl
spaced_bang rest slash_slash_equal = refl
spaced_bang rest less_less_equal = refl
spaced_bang rest greater_greater_equal = refl

pub spaced_given : {t : Terminal} {a : ℕ} {more : Text} (rest : Text) → Spaced t a more → Given (a ∷ more) (32 ∷ rest) t
spaced_given {t = t} {a = a} {more = more} rest is =
    sign_given a more (32 ∷ rest) t (spaced_plain is) (spaced_point _ is) (spaced_bang rest is) (spaced_cut rest is)
