-- Literals in double quotes, read byte by byte.
use Rattle.std.proofs.Common.{◌≡◌, ℕ, ◌+◌, ◌<◌, Bool, true, false, ◌==◌, nat_lt, [], ◌∷◌, ◌++◌, length, get_or, Ok, Err, refl, ◌∙◌, arith, flat_map}
use Rattle.std.proofs.Common.{append_assoc, length-append}
use Rattle.std.specs.Bool.{⊤}
use Rattle.std.proofs.lemmas.Bool.{cond-true, cond-false, le-ltb, lt-ltb}
use Rattle.std.proofs.lemmas.Str.{encode_ascii}
use Rattle.std.specs.List.{prefix_len}
use Rattle.std.specs.Str.Parse.{digits_value}
use Rattle.starlark_lexer.specs.declared.string.escape.Adds.TheVariants.{Front, Char, Byte}
use Rattle.starlark_lexer.specs.declared.string.escape.Stop.{Stop}
use Rattle.starlark_lexer.specs.declared.string.escape.Stop.TheVariants.{Closed, Hole}
use Rattle.starlark_lexer.specs.declared.string.opening.Style.{Style}
use Rattle.starlark_lexer.specs.Classes.{is_digit_of}
use Rattle.starlark_lexer.specs.Tokens.{Text}
use Rattle.starlark_lexer.specs.Escapes.{piece_of, escape, letter_escape, hex_escape, numbered, digits_len}
use Rattle.starlark_lexer.specs.Pieces.{is_plain, at_quote, at_brace, special, added}
use Rattle.starlark_lexer.proofs.TokenTexts.StringPieces.{RunsTo, plain_first, piece_first, stops_there, special_piece}

-- in double quotes: text, bytes, and the text of an f-string
abbrev pub marks : Bool → Bool → Style
marks bytes format = record { quote = 34; triple = false; raw = false; bytes = bytes; format = format }

-- the letters after a `\` that denote a character
pub data Letter : ℕ → ℕ → Type 0 where
  feed : Letter 110 10
  tab : Letter 116 9
  return : Letter 114 13
  quotation : Letter 34 34
  backslash : Letter 92 92

pub data Brace : ℕ → Type 0 where
  opening : Brace 123
  closing : Brace 125

-- how a byte may be written in double quotes
pub data Spells (bytes format : Bool) : ℕ → Text → Type 0 where
  itself : {b : ℕ} → is_plain (marks bytes format) b ≡ true → Spells bytes format b (b ∷ [])
  by_letter : {letter b : ℕ} → Letter letter b → Spells bytes format b (92 ∷ letter ∷ [])
  by_digits : {d e b : ℕ} → is_digit_of 16 d ≡ true → is_digit_of 16 e ≡ true → digits_value 16 (d ∷ e ∷ []) ≡ b → b < 256 → added bytes [] (Byte b) ≡ b ∷ []
      → Spells bytes format b (92 ∷ 120 ∷ d ∷ e ∷ [])
  doubled : {b : ℕ} → format ≡ true → Brace b → Spells bytes format b (b ∷ b ∷ [])

letter_piece : {letter b : ℕ} (bytes format : Bool) (text : Text) → Letter letter b → special (marks bytes format) (92 ∷ letter ∷ text)
    ≡ Ok (piece_of (Char b) 2)
unfolding special escape letter_escape
letter_piece bytes format text feed = refl
letter_piece bytes format text tab = refl
letter_piece bytes format text return = refl
letter_piece bytes format text quotation = refl
letter_piece bytes format text backslash = refl

letter_added : {letter b : ℕ} (bytes : Bool) (text : Text) → Letter letter b → added bytes text (Char b) ≡ b ∷ []
letter_added bytes text feed = encode_ascii 10 (omega arith)
letter_added bytes text tab = encode_ascii 9 (omega arith)
letter_added bytes text return = encode_ascii 13 (omega arith)
letter_added bytes text quotation = encode_ascii 34 (omega arith)
letter_added bytes text backslash = encode_ascii 92 (omega arith)

letter_first : {letter b : ℕ} {value text : Text} {len : ℕ} {stop : Stop} (bytes format : Bool) → Letter letter b
    → RunsTo (marks bytes format) text value len stop → RunsTo (marks bytes format) (92 ∷ letter ∷ text) (b ∷ value) (2 + len) stop
letter_first {letter = letter} {b = b} {text = text} bytes format is r =
    piece_first (92 ∷ letter ∷ text) text (piece_of (Char b) 2) (b ∷ []) (special_piece _ _ refl ∙ letter_piece bytes format text is) refl
    (letter_added bytes (92 ∷ letter ∷ text) is) (omega arith) r

-- ---- two digits

two_digits : (d e : ℕ) (text : Text) → is_digit_of 16 d ≡ true → is_digit_of 16 e ≡ true → digits_len 16 2 (d ∷ e ∷ text) ≡ 2
two_digits d e text first second =
    let k = prefix_len (is_digit_of 16) text in
    let run : prefix_len (is_digit_of 16) (d ∷ e ∷ text) ≡ 1 + (1 + k) = rw (first, second) refl in
    rw run (cond-false (nat_lt (1 + (1 + k)) 2) _ 2 (le-ltb (1 + (1 + k)) 2 (omega arith)))

hex_is : (bytes : Bool) (d e b : ℕ) (text : Text) → digits_len 16 2 (d ∷ e ∷ text) ≡ 2 → digits_value 16 (d ∷ e ∷ []) ≡ b → b < 256
    → hex_escape bytes (d ∷ e ∷ text) ≡ Ok (piece_of (Byte b) 4)
unfolding hex_escape numbered
hex_is bytes d e b text len value small = rw (len, value) (cond-true (nat_lt b 256) _ _ (lt-ltb b 256 small))

hex_piece : (bytes format : Bool) (d e : ℕ) (text : Text) → special (marks bytes format) (92 ∷ 120 ∷ d ∷ e ∷ text) ≡ hex_escape bytes (d ∷ e ∷ text)
unfolding special escape
hex_piece bytes format d e text = refl

digits_first : {d e b : ℕ} {value text : Text} {len : ℕ} {stop : Stop} (bytes format : Bool) → is_digit_of 16 d ≡ true → is_digit_of 16 e ≡ true
    → digits_value 16 (d ∷ e ∷ []) ≡ b → b < 256 → added bytes [] (Byte b) ≡ b ∷ []
    → RunsTo (marks bytes format) text value len stop → RunsTo (marks bytes format) (92 ∷ 120 ∷ d ∷ e ∷ text) (b ∷ value) (4 + len) stop
digits_first {d = d} {e = e} {b = b} {text = text} bytes format first second is small adds r =
    piece_first (92 ∷ 120 ∷ d ∷ e ∷ text) text (piece_of (Byte b) 4) (b ∷ [])
    (special_piece _ _ refl ∙ hex_piece bytes format d e text ∙ hex_is bytes d e b text (two_digits d e text first second) is small) refl
    adds (omega arith) r

-- ---- braces

brace_piece : {b : ℕ} (bytes : Bool) (text : Text) → Brace b → special (marks bytes true) (b ∷ b ∷ text) ≡ Ok (piece_of (Front 1) 2)
unfolding special at_brace
brace_piece bytes text opening = refl
brace_piece bytes text closing = refl

brace_special : {b : ℕ} (bytes : Bool) (text : Text) → Brace b → prefix_len (is_plain (marks bytes true)) (b ∷ b ∷ text) ≡ 0
brace_special bytes text opening = refl
brace_special bytes text closing = refl

brace_first : {b : ℕ} {value text : Text} {len : ℕ} {stop : Stop} (bytes format : Bool) → format ≡ true → Brace b
    → RunsTo (marks bytes format) text value len stop → RunsTo (marks bytes format) (b ∷ b ∷ text) (b ∷ value) (2 + len) stop
brace_first bytes false is brace r = absurd (cc)
brace_first {b = b} {text = text} bytes true is brace r =
    piece_first (b ∷ b ∷ text) text (piece_of (Front 1) 2) (b ∷ []) (special_piece _ _ (brace_special bytes text brace) ∙ brace_piece bytes text brace) refl
    refl (omega arith) r

-- ---- all bytes

-- a byte that is written like this, before a text
pub spelled_first : {bytes format : Bool} {b len : ℕ} {front text value : Text} {stop : Stop} → Spells bytes format b front
    → RunsTo (marks bytes format) text value len stop → RunsTo (marks bytes format) (front ++ text) (b ∷ value) (length front + len) stop
spelled_first (itself plain) r = plain_first _ plain r
spelled_first {bytes = bytes} {format = format} (by_letter is) r = letter_first bytes format is r
spelled_first {bytes = bytes} {format = format} (by_digits first second is small adds) r = digits_first bytes format first second is small adds r
spelled_first {bytes = bytes} {format = format} (doubled is brace) r = brace_first bytes format is brace r

-- each of these bytes is written like this
abbrev pub AreSpelled : Bool → Bool → (ℕ → Text) → Text → Type 0
AreSpelled bytes format spell [] = ⊤
AreSpelled bytes format spell (b ∷ bs) = Spells bytes format b (spell b) × AreSpelled bytes format spell bs

-- bytes that are written like this, one after another, before what stops them
pub spelled_all : (bytes format : Bool) {stop : Stop} (spell : ℕ → Text) (all : Text) {rest : Text} → AreSpelled bytes format spell all
    → RunsTo (marks bytes format) rest [] 0 stop
    → RunsTo (marks bytes format) (flat_map spell all ++ rest) all (length (flat_map spell all)) stop
spelled_all bytes format spell [] each r = r
spelled_all bytes format spell (b ∷ bs) {rest = rest} each r =
    rw (append_assoc (spell b) (flat_map spell bs) rest, length-append (spell b) (flat_map spell bs))
    (spelled_first each.0 (spelled_all bytes format spell bs each.1 r))

-- ---- what stops them

quote_stops : (bytes format : Bool) (text : Text) → special (marks bytes format) (34 ∷ text) ≡ Err Closed
unfolding special at_quote
quote_stops bytes format text = refl

pub closes_run : (bytes format : Bool) (text : Text) → RunsTo (marks bytes format) (34 ∷ text) [] 0 Closed
closes_run bytes format text = stops_there (special_piece _ _ refl ∙ quote_stops bytes format text)

hole_stops : (bytes : Bool) (text : Text) → (get_or text 0 0 == 123) ≡ false → special (marks bytes true) (123 ∷ text) ≡ Err Hole
unfolding special at_brace
hole_stops bytes text other = rw other refl

pub hole_stops_run : (bytes : Bool) (text : Text) → (get_or text 0 0 == 123) ≡ false → RunsTo (marks bytes true) (123 ∷ text) [] 0 Hole
hole_stops_run bytes text other = stops_there (special_piece _ _ refl ∙ hole_stops bytes text other)
