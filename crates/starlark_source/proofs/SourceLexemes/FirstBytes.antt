-- The first byte of an expression.
use Rattle.std.proofs.Common.{◌≡◌, ℕ, ◌^◌, ◌<◌, nat_lt, Bool, true, false, ◌==◌, [], ◌∷◌, ◌++◌, length, pos, negsuc, refl, sym, ap, ◌∙◌, subst, arith, inl}
use Rattle.std.proofs.Common.{inr, eqb-true, ltb-true}
use Rattle.std.specs.List.{list_all}
use Rattle.std.specs.Fmt.{decimal}
use Rattle.std.specs.Str.Parse.{AllDigits}
use Rattle.std.proofs.lemmas.Bool.{or_cases, and_parts, false≢true, true≢false, lt-ltb}
use Rattle.std.proofs.lemmas.Bool.Decides.{nat_tests}
use Rattle.std.proofs.lemmas.Fmt.{decimal_is_IsNumeral}
use Rattle.std.specs.Char.{digit_value}
use Rattle.starlark_lexer.specs.Newlines.{first}
use Rattle.starlark_lexer.specs.Classes.{is_letter, is_digit_of}
use Rattle.starlark_lexer.specs.Numbers.{begins_number}
use Rattle.starlark_lexer.specs.Tokens.{Text, Span, small, large, Identifier, Int, Float, Bytes}
use Rattle.starlark_tree.specs.Ast as t
use Rattle.starlark_tree.specs.Ast.{Payloads, Word}
use Rattle.starlark_source.specs.declared.level.Level.{Level}
use Rattle.starlark_source.specs.declared.level.Level.TheVariants as level
use Rattle.starlark_source.specs.Levels.{is_looser, level_of, level_of_operator, left_of}
use Rattle.starlark_source.specs.Literals.{name, sayable, literal, is_byte}
use Rattle.starlark_source.specs.Pieces.{Pieces}
use Rattle.starlark_source.specs.Readings.{is_name, is_float, is_large_int}
use Rattle.starlark_source.specs.Source.{bracketed, begins_with_brace, shape_begins_with_brace, at_level, test, shape_source}
use Rattle.starlark_source.proofs.ReadBack.Writing.{Sayable, split}
use Rattle.starlark_source.proofs.SourceLexemes.Pieces.{write, write-append}
use Rattle.starlark_source.proofs.SourceLexemes.Tokens.{is_named, is_floated, is_large}
use Rattle.starlark_source.proofs.SourceLexemes.NextBytes.{is_begin, letter_begins, digit_begins}

-- an expression begins with this byte, which is `{` only if a dict is first
pub record BeginsAs (brace : Bool) (b : ℕ) : Type 0 where
  pub begin : is_begin b ≡ true
  pub no_brace : brace ≡ false → (b == 123) ≡ false

as_byte : (brace : Bool) (a b : ℕ) → a ≡ b → BeginsAs brace b → BeginsAs brace a
as_byte brace a b is h = subst (BeginsAs brace) (sym is) h

-- ---- leaves

letter_no_brace : (b : ℕ) → is_letter b ≡ true → (b == 123) ≡ false
letter_no_brace b e = grind (arith, nat_tests)

digit_no_brace : (b : ℕ) → is_digit_of 10 b ≡ true → (b == 123) ≡ false
digit_no_brace b e = grind (arith, nat_tests)

from_letter : (brace : Bool) (b : ℕ) → is_letter b ≡ true → BeginsAs brace b
from_letter brace b e = record { begin = letter_begins b e; no_brace = λ _. letter_no_brace b e }

from_digit : (brace : Bool) (b : ℕ) → is_digit_of 10 b ≡ true → BeginsAs brace b
from_digit brace b e = record { begin = digit_begins b e; no_brace = λ _. digit_no_brace b e }

from_number : (brace : Bool) (text : Text) → begins_number text ≡ true → BeginsAs brace (first text)
from_number brace text e =
    elim (or_cases _ _ e) [
      | inl digit ↦ from_digit brace (first text) digit
      | inr point ↦ as_byte brace (first text) 46 (eqb-true (first text) 46 (and_parts (first text == 46) _ point).0)
          (record { begin = refl; no_brace = λ _. refl })
    ]

first_of : (text rest : Text) → 0 < length text → first (text ++ rest) ≡ first text
first_of [] rest some = absurd (omega arith)
first_of (b ∷ bs) rest some = refl

letter_some : (text : Text) → is_letter (first text) ≡ true → 0 < length text
letter_some [] e = absurd (false≢true e)
letter_some (b ∷ bs) e = omega arith

number_some : (text : Text) → begins_number text ≡ true → 0 < length text
number_some [] e = absurd (false≢true e)
number_some (b ∷ bs) e = omega arith

pub name_letter : (w : Word) (rest : Text) → Sayable (name w) → is_letter (first (write (name w) rest)) ≡ true
name_letter w rest h = go (is_name w.text) refl h
  where
    go : (b : Bool) → is_name w.text ≡ b → Sayable (sayable b (Identifier w.text) w.span)
        → is_letter (first (write (sayable b (Identifier w.text) w.span) rest)) ≡ true
    go true e h =
        let letter = (is_named w.text e).letter in ap is_letter (first_of w.text rest (letter_some w.text letter)) ∙ letter
    go false e h = absurd h

name_begins : (brace : Bool) (w : Word) (rest : Text) → Sayable (name w) → BeginsAs brace (first (write (name w) rest))
name_begins brace w rest h = from_letter brace _ (name_letter w rest h)

number_begins : (brace : Bool) (text rest : Text) → begins_number text ≡ true → BeginsAs brace (first (text ++ rest))
number_begins brace text rest e = as_byte brace _ (first text) (first_of text rest (number_some text e)) (from_number brace text e)

large_begins : (brace : Bool) (text rest : Text) (s : Span) (b : Bool) → is_large_int text ≡ b → Sayable (sayable b (Int (large text)) s)
    → BeginsAs brace (first (write (sayable b (Int (large text)) s) rest))
large_begins brace text rest s true e h = number_begins brace text rest (is_large text e).begins
large_begins brace text rest s false e h = absurd h

float_begins : (brace : Bool) (text rest : Text) (s : Span) (b : Bool) → is_float text ≡ b → Sayable (sayable b (Float text) s)
    → BeginsAs brace (first (write (sayable b (Float text) s) rest))
float_begins brace text rest s true e h = number_begins brace text rest (is_floated text e).begins
float_begins brace text rest s false e h = absurd h

digits_begin : (brace : Bool) (ds rest : Text) → 0 < length ds → AllDigits 10 ds → BeginsAs brace (first (ds ++ rest))
digits_begin brace [] rest some all = absurd (omega arith)
digits_begin brace (d ∷ ds) rest some all = from_digit brace d (lt-ltb (digit_value d) 10 all.0)

small_begins : (brace : Bool) (n : ℕ) (rest : Text) (s : Span) (b : Bool) → nat_lt n (2 ^ 31) ≡ b → Sayable (sayable b (Int (small (pos n))) s)
    → BeginsAs brace (first (write (sayable b (Int (small (pos n))) s) rest))
small_begins brace n rest s true e h =
    let less = ltb-true n (2 ^ 31) e in
    let digits = decimal_is_IsNumeral n (omega arith) in
    digits_begin brace (decimal n) rest digits.0.0 digits.0.1
small_begins brace n rest s false e h = absurd h

bytes_begin : (brace : Bool) (bytes rest : Text) (s : Span) (b : Bool) → Sayable (sayable b (Bytes bytes) s)
    → BeginsAs brace (first (write (sayable b (Bytes bytes) s) rest))
bytes_begin brace bytes rest s true h = record { begin = refl; no_brace = λ _. refl }
bytes_begin brace bytes rest s false h = absurd h

literal_begins : (x : t.Literal) (rest : Text) → Sayable (literal x) → BeginsAs false (first (write (literal x) rest))
literal_begins (t.Int s (small (pos n))) rest h = small_begins false n rest s (nat_lt n (2 ^ 31)) refl h
literal_begins (t.Int s (small (negsuc n))) rest h = absurd h
literal_begins (t.Int s (large text)) rest h = large_begins false text rest s (is_large_int text) refl h
literal_begins (t.Float w) rest h = float_begins false w.text rest w.span (is_float w.text) refl h
literal_begins (t.String w) rest h = record { begin = refl; no_brace = λ _. refl }
literal_begins (t.Bytes w) rest h = bytes_begin false w.text rest w.span (list_all is_byte w.text) h
literal_begins t.Ellipsis rest h = record { begin = refl; no_brace = λ _. refl }

-- ---- expressions

sign_begins : (brace : Bool) (b : ℕ) → is_begin b ≡ true → (b == 123) ≡ false → BeginsAs brace b
sign_begins brace b begin no_brace = record { begin = begin; no_brace = λ _. no_brace }

curly_begins : (brace : Bool) (b : ℕ) → is_begin b ≡ true → brace ≡ true → BeginsAs brace b
curly_begins brace b begin is = record { begin = begin; no_brace = λ other. absurd (true≢false (sym is ∙ other)) }

pub front_begins : (brace : Bool) (ps qs : Pieces) (rest : Text) → BeginsAs brace (first (write ps (write qs rest)))
    → BeginsAs brace (first (write (ps ++ qs) rest))
front_begins brace ps qs rest h = as_byte brace _ _ (ap first (write-append ps qs rest)) h

bracketed_begins : (asked : Bool) (ps : Pieces) (brace : Bool) (rest : Text) → Sayable (bracketed asked ps)
    → (Sayable ps → BeginsAs brace (first (write ps rest)))
    → BeginsAs brace (first (write (bracketed asked ps) rest))
bracketed_begins true ps brace rest h f = sign_begins brace 40 refl refl
bracketed_begins false ps brace rest h f = f h

module _ {P : Payloads} where
  mutual
    pub shape_begins : (shape : t.Shape P) (rest : Text) → Sayable (shape_source shape)
        → BeginsAs (shape_begins_with_brace shape) (first (write (shape_source shape) rest))
    shape_begins (t.Tuple es) rest h = sign_begins false 40 refl refl
    shape_begins (t.Dot e w) rest h = front_begins _ (at_level level.Primary e) _ rest
        (level_begins level.Primary e _ (split (at_level level.Primary e) _ h).0)
    shape_begins (t.Call f xs) rest h = front_begins _ (at_level level.Number f) _ rest
        (level_begins level.Number f _ (split (at_level level.Number f) _ h).0)
    shape_begins (t.Index a i) rest h = front_begins _ (at_level level.Number a) _ rest
        (level_begins level.Number a _ (split (at_level level.Number a) _ h).0)
    shape_begins (t.Index2 a i j) rest h = front_begins _ (at_level level.Number a) _ rest
        (level_begins level.Number a _ (split (at_level level.Number a) _ h).0)
    shape_begins (t.Slice a start stop step) rest h =
        front_begins _ (at_level level.Number a) _ rest (level_begins level.Number a _ (split (at_level level.Number a) _ h).0)
    shape_begins (t.Identifier w p) rest h = name_begins false w rest h
    shape_begins (t.Lambda ps e p) rest h = sign_begins false 108 refl refl
    shape_begins (t.Constant x) rest h = literal_begins x rest h
    shape_begins (t.Not e) rest h = sign_begins false 110 refl refl
    shape_begins (t.Minus e) rest h = sign_begins false 45 refl refl
    shape_begins (t.Plus e) rest h = sign_begins false 43 refl refl
    shape_begins (t.BitNot e) rest h = sign_begins false 126 refl refl
    shape_begins (t.Op l o r) rest h =
        let k = left_of (level_of_operator o) in
        front_begins _ (at_level k l) _ rest (level_begins k l _ (split (at_level k l) _ h).0)
    shape_begins (t.If c a b) rest h = front_begins _ (at_level level.Or a) _ rest (level_begins level.Or a _ (split (at_level level.Or a) _ h).0)
    shape_begins (t.List es) rest h = sign_begins false 91 refl refl
    shape_begins (t.Dict ps) rest h = curly_begins true 123 refl refl
    shape_begins (t.ListComprehension e first cs) rest h = sign_begins false 91 refl refl
    shape_begins (t.DictComprehension k v first cs) rest h = curly_begins true 123 refl refl
    shape_begins (t.FString s format es) rest h = sign_begins false 102 refl refl

    pub level_begins : (k : Level) (e : t.Expression P) (rest : Text) → Sayable (at_level k e)
        → BeginsAs (begins_with_brace e) (first (write (at_level k e) rest))
    level_begins k (t.expression s shape) rest h = bracketed_begins (is_looser (level_of shape) k) (shape_source shape) _ rest h
        (λ g. shape_begins shape rest g)

  pub test_begins : (e : t.Expression P) (rest : Text) → Sayable (test e) → BeginsAs (begins_with_brace e) (first (write (test e) rest))
  test_begins (t.expression s shape) rest h = shape_begins shape rest h
