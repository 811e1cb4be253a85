-- The value of a literal consists of bytes if its text does.
use Rattle.std.proofs.Common.{◌≡◌, ℕ, zero, suc, ◌+◌, ◌<◌, Bool, true, not, cond, ◌&&◌, ◌==◌}
use Rattle.std.proofs.Common.{nat_lt, ◌/◌, ◌%◌, List, [], ◌∷◌, ◌++◌, length, get_or, take, drop, IsUtf8, Option, Some, None}
use Rattle.std.proofs.Common.{Result, Ok, Err, refl, ◌∙◌, subst, arith, ltb-true}
use Rattle.std.specs.Bool.{⊤}
use Rattle.std.specs.Prelude.{encode_utf8}
use Rattle.std.specs.List.{list_all, prefix_len}
use Rattle.std.specs.Str.Parse.{digits_value}
use Rattle.std.proofs.Math.Utf8.{scalar, scalars, encode, encodes}
use Rattle.std.proofs.lemmas.Bool.{and_parts, and_from, cond_both, lt-ltb}
use Rattle.std.proofs.lemmas.Bool.Decides.{nat_tests}
use Rattle.std.proofs.lemmas.List.Folds.{list_all-append}
use Rattle.starlark_lexer.specs.declared.string.escape.Adds.{Adds}
use Rattle.starlark_lexer.specs.declared.string.escape.Adds.TheVariants.{Front, Char, Byte}
use Rattle.starlark_lexer.specs.declared.string.escape.Piece.{Piece}
use Rattle.starlark_lexer.specs.declared.string.escape.Stop.{Stop}
use Rattle.starlark_lexer.specs.declared.string.escape.Stop.TheVariants.{Closed, Unfinished, Hole, LoneBrace, BadEscape}
use Rattle.starlark_lexer.specs.declared.string.opening.Style.{Style}
use Rattle.starlark_lexer.specs.Newlines.{newline_len}
use Rattle.starlark_lexer.specs.Escapes.{piece_of, simple_escape, is_scalar, digits_len as escape_digits, numbered, octal_escape, hex_escape, unicode_escape}
use Rattle.starlark_lexer.specs.Escapes.{letter_piece, letter_escape, escape}
use Rattle.starlark_lexer.specs.Pieces.{is_plain, as_it_stands, at_quote, raw_backslash, at_brace, at_newline, special, piece, added}
use Rattle.starlark_lexer.specs.Strings.{run_from, run_within, run}
use Rattle.starlark_lexer.specs.Tokens.{Text}
use Rattle.starlark_lexer.proofs.TokenTexts.CutTexts.{is_byte, AreBytes}

-- ---- bytes

pub bytes_left : (n : ℕ) (text : Text) → AreBytes text → AreBytes (drop n text)
bytes_left zero text h = h
bytes_left (suc n) [] h = refl
bytes_left (suc n) (b ∷ bs) h = bytes_left n bs (and_parts (is_byte b) (list_all is_byte bs) h).1

bytes_taken : (n : ℕ) (text : Text) → AreBytes text → AreBytes (take n text)
bytes_taken zero text h = refl
bytes_taken (suc n) [] h = refl
bytes_taken (suc n) (b ∷ bs) h =
    let parts = and_parts (is_byte b) (list_all is_byte bs) h in and_from (is_byte b) (list_all is_byte (take n bs)) parts.0 (bytes_taken n bs parts.1)

bytes_joined : (xs ys : Text) → AreBytes xs → AreBytes ys → AreBytes (xs ++ ys)
bytes_joined xs ys h k = list_all-append is_byte xs ys ∙ and_from (list_all is_byte xs) (list_all is_byte ys) h k

a_byte : (b : ℕ) (bs : Text) → b < 256 → AreBytes bs → AreBytes (b ∷ bs)
a_byte b bs h more = and_from (is_byte b) (list_all is_byte bs) (lt-ltb b 256 h) more

-- the bytes of a character
two_bytes : (a b : ℕ) → a < 256 → b < 256 → AreBytes (a ∷ b ∷ [])
two_bytes a b h k = a_byte a (b ∷ []) h (a_byte b [] k refl)

three_bytes : (a b c : ℕ) → a < 256 → b < 256 → c < 256 → AreBytes (a ∷ b ∷ c ∷ [])
three_bytes a b c h k l = a_byte a (b ∷ c ∷ []) h (two_bytes b c k l)

four_bytes : (a b c d : ℕ) → a < 256 → b < 256 → c < 256 → d < 256 → AreBytes (a ∷ b ∷ c ∷ d ∷ [])
four_bytes a b c d h k l m = a_byte a (b ∷ c ∷ d ∷ []) h (three_bytes b c d k l m)

encoded_bytes : (c : ℕ) → c < 1_114_112 → AreBytes (encode c)
unfolding encode
encoded_bytes c h =
    cond_both (nat_lt c 128) _ _ AreBytes (λ e. let less = ltb-true c 128 e in a_byte c [] (omega arith) refl)
    (λ _. cond_both (nat_lt c 2048) _ _ AreBytes (λ e. let less = ltb-true c 2048 e in two_bytes (192 + c / 64) (128 + c % 64) (omega arith) (omega arith))
    (λ _. cond_both (nat_lt c 65536) _ _ AreBytes
    (λ e. let less = ltb-true c 65536 e in three_bytes (224 + c / 4096) (128 + c / 64 % 64) (128 + c % 64) (omega arith) (omega arith) (omega arith))
    (λ _. four_bytes (240 + c / 262144) (128 + c / 4096 % 64) (128 + c / 64 % 64) (128 + c % 64) (omega arith) (omega arith) (omega arith) (omega arith))))

scalar_bound : (c : ℕ) → is_scalar c ≡ true → c < 1_114_112
scalar_bound c e = grind (arith, nat_tests)

-- ---- what the pieces of a literal add

abbrev IsAdded : Adds → Type 0
IsAdded (Front n) = ⊤
IsAdded (Char c) = is_scalar c ≡ true
IsAdded (Byte b) = b < 256

abbrev IsPiece : Result Piece Stop → Type 0
IsPiece (Ok p) = IsAdded p.adds
IsPiece (Err stop) = ⊤

record GoodPiece (r : Result Piece Stop) : Type 0 where
  piece : IsPiece r

stands : (n : ℕ) → GoodPiece (Ok (as_it_stands n))
stands n = record { piece = tt }

made : (adds : Adds) (len : ℕ) → IsAdded adds → GoodPiece (Ok (piece_of adds len))
made adds len h = record { piece = h }

stopped : (stop : Stop) → GoodPiece (Err stop)
stopped stop = record { piece = tt }

either_piece : (b : Bool) (p q : Result Piece Stop) → (b ≡ true → GoodPiece p) → GoodPiece q → GoodPiece (cond b p q)
either_piece b p q h k = cond_both b p q GoodPiece h (λ _. k)

numbered_good : (bytes : Bool) (number len : ℕ) → GoodPiece (numbered bytes number len)
unfolding numbered
numbered_good bytes number len =
    either_piece (nat_lt number 256) _ _ (λ e. record { piece = ltb-true number 256 e })
    (either_piece (is_scalar number && not bytes) _ _ (λ e. record { piece = (and_parts (is_scalar number) (not bytes) e).0 }) (stopped (BadEscape len)))

octal_good : (bytes : Bool) (text : Text) → GoodPiece (octal_escape bytes text)
unfolding octal_escape
octal_good bytes text = numbered_good bytes _ _

hex_good : (bytes : Bool) (text : Text) → GoodPiece (hex_escape bytes text)
unfolding hex_escape
hex_good bytes text = either_piece (escape_digits 16 2 text == 2) _ _ (λ _. numbered_good bytes _ 4) (stopped _)

unicode_good : (count : ℕ) (text : Text) → GoodPiece (unicode_escape count text)
unfolding unicode_escape
unicode_good count text =
    let c = digits_value 16 (take (escape_digits 16 count text) text) in
    either_piece (is_scalar c && escape_digits 16 count text == count) _ _
    (λ e. record { piece = (and_parts (is_scalar c) (escape_digits 16 count text == count) e).0 }) (stopped _)

abbrev IsLetter : Option ℕ → Type 0
IsLetter (Some c) = is_scalar c ≡ true
IsLetter None = ⊤

letter_or : (b : Bool) (c : ℕ) (more : Option ℕ) → is_scalar c ≡ true → IsLetter more → IsLetter (cond b (Some c) more)
letter_or b c more h k = cond_both b (Some c) more IsLetter (λ _. h) (λ _. k)

simple_good : (letter : ℕ) → IsLetter (simple_escape letter)
simple_good letter =
    letter_or (letter == 97) 7 _ refl (letter_or (letter == 98) 8 _ refl (letter_or (letter == 102) 12 _ refl (letter_or (letter == 110) 10 _ refl
    (letter_or (letter == 114) 13 _ refl (letter_or (letter == 116) 9 _ refl (letter_or (letter == 118) 11 _ refl (letter_or (letter == 92) 92 _ refl
    (letter_or (letter == 39) 39 _ refl (letter_or (letter == 34) 34 None refl tt)))))))))

letter_good : (o : Option ℕ) → IsLetter o → GoodPiece (Ok (letter_piece o))
letter_good (Some c) h = record { piece = h }
letter_good None h = record { piece = tt }

letter_escape_good : (letter : ℕ) → GoodPiece (Ok (letter_escape letter))
unfolding letter_escape
letter_escape_good letter = letter_good (simple_escape letter) (simple_good letter)

escape_good : (bytes : Bool) (text : Text) → GoodPiece (escape bytes text)
unfolding escape
escape_good bytes text =
    either_piece _ _ _ (λ _. made (Front 0) (1 + newline_len (drop 1 text)) tt) (either_piece _ _ _ (λ _. octal_good bytes (drop 1 text))
    (either_piece _ _ _ (λ _. hex_good bytes (drop 1 (drop 1 text))) (either_piece _ _ _ (λ _. unicode_good 4 (drop 1 (drop 1 text)))
    (either_piece _ _ _ (λ _. unicode_good 8 (drop 1 (drop 1 text))) (letter_escape_good (get_or (drop 1 text) 0 0))))))

quote_good : (style : Style) (text : Text) → GoodPiece (at_quote style text)
unfolding at_quote
quote_good style text = either_piece _ _ _ (λ _. stands 1) (stopped Closed)

raw_good : (style : Style) (text : Text) → GoodPiece (Ok (raw_backslash style text))
unfolding raw_backslash
raw_good style text = cond_both _ (as_it_stands 2) (as_it_stands 1) (λ p. GoodPiece (Ok p)) (λ _. stands 2) (λ _. stands 1)

brace_good : (stop : Stop) (text : Text) → GoodPiece (at_brace stop text)
unfolding at_brace
brace_good stop text = either_piece _ _ _ (λ _. made (Front 1) 2 tt) (stopped stop)

newline_good : (text : Text) → GoodPiece (at_newline text)
unfolding at_newline
newline_good text = either_piece _ _ _ (λ _. stands 1) (stopped Unfinished)

special_good : (style : Style) (text : Text) → GoodPiece (special style text)
unfolding special
special_good style text =
    either_piece _ _ _ (λ _. quote_good style text) (either_piece _ _ _
    (λ _. either_piece style.raw _ _ (λ _. raw_good style text) (escape_good style.bytes text))
    (either_piece _ _ _ (λ _. brace_good Hole text) (either_piece _ _ _ (λ _. brace_good LoneBrace text) (newline_good text))))

piece_good : (style : Style) (text : Text) → GoodPiece (piece style text)
unfolding piece
piece_good style text = either_piece _ _ _ (λ _. stands (prefix_len (is_plain style) text)) (special_good style text)

added_bytes : (bytes : Bool) (text : Text) (a : Adds) → IsAdded a → AreBytes text → AreBytes (added bytes text a)
added_bytes bytes text (Front n) h k = bytes_taken n text k
added_bytes bytes text (Char c) h k = encoded_bytes c (scalar_bound c h)
added_bytes bytes text (Byte b) h k = cond_both bytes (b ∷ []) (encode_utf8 b) AreBytes (λ _. a_byte b [] h refl) (λ _. encoded_bytes b (omega arith))

from_bytes : (n : ℕ) (style : Style) (text : Text) (r : Result Piece Stop) → IsPiece r → AreBytes text
    → ((more : Text) → AreBytes more → AreBytes (run_within n style more).value)
    → AreBytes (run_from style text (run_within n style) r).value
from_bytes n style text (Ok p) good h more = bytes_joined (added style.bytes text p.adds) _ (added_bytes style.bytes text p.adds good h)
    (more (drop p.len text) (bytes_left p.len text h))
from_bytes n style text (Err stop) good h more = refl

within_bytes : (n : ℕ) (style : Style) (text : Text) → AreBytes text → AreBytes (run_within n style text).value
unfolding run_within
within_bytes zero style text h = refl
within_bytes (suc n) style text h = from_bytes n style text (piece style text) (piece_good style text).piece h (λ more k. within_bytes n style more k)

pub run_bytes : (style : Style) (text : Text) → AreBytes text → AreBytes (run style text).value
unfolding run
run_bytes style text h = within_bytes (suc (length text)) style text h

-- ---- a text in UTF-8 consists of bytes

encodes_bytes : (cs : List ℕ) → scalars cs ≡ true → AreBytes (encodes cs)
encodes_bytes [] e = refl
encodes_bytes (c ∷ cs) e =
    let parts = and_parts (scalar c) (scalars cs) e in
    bytes_joined (encode c) (encodes cs) (encoded_bytes c (below c parts.0)) (encodes_bytes cs parts.1)
  where
    below : (c : ℕ) → scalar c ≡ true → c < 1_114_112
    below c e = grind (arith, nat_tests)

pub utf8_bytes : (text : Text) → IsUtf8 text → AreBytes text
utf8_bytes text (cs, (e, is)) = subst AreBytes is (encodes_bytes cs e)
