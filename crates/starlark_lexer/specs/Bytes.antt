-- Names of ASCII bytes.
use Rattle.std.specs.Prelude.{ℕ}

abbrev pub tab : ℕ
tab = 9

abbrev pub line_feed : ℕ
line_feed = 10

abbrev pub carriage_return : ℕ
carriage_return = 13

abbrev pub space : ℕ
space = 32

abbrev pub exclamation_mark : ℕ
exclamation_mark = 33

abbrev pub quotation_mark : ℕ
quotation_mark = 34

abbrev pub number_sign : ℕ
number_sign = 35

abbrev pub apostrophe : ℕ
apostrophe = 39

abbrev pub opening_round : ℕ
opening_round = 40

abbrev pub closing_round : ℕ
closing_round = 41

abbrev pub plus_sign : ℕ
plus_sign = 43

abbrev pub minus_sign : ℕ
minus_sign = 45

abbrev pub full_stop : ℕ
full_stop = 46

abbrev pub digit_zero : ℕ
digit_zero = 48

abbrev pub equals_sign : ℕ
equals_sign = 61

abbrev pub capital_e : ℕ
capital_e = 69

abbrev pub opening_square : ℕ
opening_square = 91

abbrev pub backslash : ℕ
backslash = 92

abbrev pub closing_square : ℕ
closing_square = 93

abbrev pub letter_e : ℕ
letter_e = 101

abbrev pub opening_curly : ℕ
opening_curly = 123

abbrev pub closing_curly : ℕ
closing_curly = 125
