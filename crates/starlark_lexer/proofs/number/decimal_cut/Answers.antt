use Rattle.std.proofs.Common.{◌≡◌, ◌<◌, drop, sym, ap, ◌∙◌, arith}
use Rattle.std.proofs.lemmas.List.{length-take-le}
use Rattle.starlark_lexer.specs.Classes.{is_digit_of}
use Rattle.starlark_lexer.specs.Numbers.{exponent_len, integer_cut, fraction_len, digits_len}
use Rattle.starlark_lexer.proofs.NumberLemmas.{decimal_cut-integer, digits_some, list_all-run}
use Rattle.starlark_lexer.proofs.number.decimal_cut.Goals as goal

pub integer_cut-requires-clause-some : goal.integer_cut-requires-clause-some
integer_cut-requires-clause-some c =
    let rest = c.args.rest.now in
    let n = c.split_run-digits.result.0 in
    let len : n ≡ digits_len 10 rest = c.split_run-digits.ensures.len in
    let zero_fraction : c.split_fraction-fraction.result.0 ≡ 0 = omega arith in
    let none : fraction_len (drop (digits_len 10 rest) rest) ≡ 0 =
    ap (λ k. fraction_len (drop k rest)) (sym len) ∙ ap fraction_len (sym c.split_run-digits.ensures.rest) ∙ sym c.split_fraction-fraction.ensures.len
    ∙ zero_fraction in
    let some : 0 < n = rw len (digits_some rest c.requires.some c.requires.begins none) in
    let within = c.split_run-digits.ensures.within in
    rw c.until.ensures (omega (arith, length-take-le n rest (omega arith)))

pub integer_cut-requires-clause-all : goal.integer_cut-requires-clause-all
integer_cut-requires-clause-all c = rw (c.until.ensures, c.split_run-digits.ensures.len) (list_all-run (is_digit_of 10) c.args.rest.now)

pub returns : goal.returns
returns c =
    let rest = c.args.rest.now in
    let n = c.split_run-digits.result.0 in
    let f = c.split_fraction-fraction.result.0 in
    let e = c.split_exponent-exponent.result.0 in
    let len : n ≡ digits_len 10 rest = c.split_run-digits.ensures.len in
    let after = c.split_run-digits.ensures.rest in
    let fraction : f ≡ fraction_len (drop n rest) = c.split_fraction-fraction.ensures.len ∙ ap fraction_len after in
    let tail = c.split_fraction-fraction.ensures.rest ∙ ap (λ l. drop f l) after in
    let exponent : e ≡ exponent_len (drop f (drop n rest)) = c.split_exponent-exponent.ensures.len ∙ ap exponent_len tail in
    let whole = decimal_cut-integer rest n f e len fraction exponent (omega arith) ∙ ap integer_cut (sym c.until.ensures) in
    rw whole c.integer_cut.ensures
