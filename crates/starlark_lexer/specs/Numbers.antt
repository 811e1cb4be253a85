-- Numbers.
use Rattle.std.specs.Prelude.{ℕ, ◌+◌, ◌^◌, Bool, not, ◌&&◌, ◌||◌, ◌==◌, nat_lt, if◌then◌else◌, length, take, drop, slice_index, pos}
use Rattle.std.specs.List.{prefix_len}
use Rattle.std.specs.Str.Parse.{digits_value}
use Rattle.starlark_lexer.specs.Bytes.{plus_sign, minus_sign, full_stop, digit_zero, capital_e, letter_e}
use Rattle.starlark_lexer.specs.declared.token.LexerErrorKind.TheVariants as kinds
use Rattle.starlark_lexer.specs.Tokens.{Text, Number, small, large, Int, Float}
use Rattle.starlark_lexer.specs.Newlines.{first}
use Rattle.starlark_lexer.specs.Classes.{is_digit_of}
use Rattle.starlark_lexer.specs.Cuts.{Cut, token, refused}

-- the base of the letter after a first `0`, or 10
abbrev pub base_of : ℕ → ℕ
base_of b =
    if b == 120 || b == 88 then 16
    else if b == 111 || b == 79 then 8
    else if b == 98 || b == 66 then 2
    else 10

-- the number that the digits denote, or its text if it does not fit 32 bits with a sign
unfoldable pub integer : ℕ → Text → Text → Number
integer base digits text = if nat_lt (digits_value base digits) (2 ^ 31) then small (pos (digits_value base digits)) else large text

abbrev pub digits_len : ℕ → Text → ℕ
digits_len base text = prefix_len (is_digit_of base) text

-- a decimal point and digits
abbrev pub fraction_len : Text → ℕ
fraction_len text = if first text == full_stop then 1 + digits_len 10 (drop 1 text) else 0

abbrev pub sign_len : Text → ℕ
sign_len text = if first text == plus_sign || first text == minus_sign then 1 else 0

-- an `e`, a `+` or `-` if there is one, and digits
abbrev pub exponent_len : Text → ℕ
exponent_len text =
    let sign = sign_len (drop 1 text) in
    let digits = digits_len 10 (drop sign (drop 1 text)) in
    if (first text == letter_e || first text == capital_e) && nat_lt 0 digits then 1 + sign + digits else 0

-- digits of another base after `0` and a letter
abbrev pub prefixed_len : Text → ℕ
prefixed_len text =
    let base = base_of (slice_index text 1) in
    if first text == digit_zero && not (base == 10) then digits_len base (drop 2 text) else 0

-- digits only
unfoldable pub integer_cut : Text → Cut
integer_cut digits =
    if first digits == digit_zero && nat_lt 1 (length digits) then refused kinds.InvalidNumber 0 (length digits)
    else token (Int (integer 10 digits digits)) (length digits)

-- a number without a prefix
unfoldable pub decimal_cut : Text → Cut
decimal_cut text =
    let digits = digits_len 10 text in
    let fraction = fraction_len (drop digits text) in
    let exponent = exponent_len (drop fraction (drop digits text)) in
    if nat_lt 0 (fraction + exponent) then token (Float (take (digits + fraction + exponent) text)) (digits + fraction + exponent)
    else integer_cut (take digits text)

-- this many digits after `0` and a letter
abbrev pub prefixed_cut : ℕ → Text → Cut
prefixed_cut digits text =
    token (Int (integer (base_of (slice_index text 1)) (take digits (drop 2 text)) (take (2 + digits) text))) (2 + digits)

unfoldable pub number_cut : Text → Cut
number_cut text =
    let digits = prefixed_len text in
    if nat_lt 0 digits then prefixed_cut digits text else decimal_cut text

-- a number begins with a digit, or with a point and a digit
abbrev pub begins_number : Text → Bool
begins_number text = is_digit_of 10 (first text) || (first text == full_stop && is_digit_of 10 (slice_index text 1))
