use Rattle.std.proofs.Common.{◌≡◌, ◌≤◌, length, take, rules, arith, ◌∙◌}
use Rattle.std.proofs.lemmas.List.{length-take-le}
use Rattle.std.proofs.lemmas.List.Sums.{prefix_len-le-length}
use Rattle.std.specs.List.{prefix_len}
use Rattle.starlark_lexer.specs.Classes.{is_digit_of}
use Rattle.starlark_lexer.proofs.EscapeDigits.{AllDigits-run, short_number}
use Rattle.starlark_lexer.proofs.string.escape.digits.Goals as goal

pub returns-clause-value : goal.returns-clause-value
returns-clause-value c =
    let text = c.args.text.now in
    let base = c.args.base in
    let n = c.if-run-most.len in
    let run : n ≤ prefix_len (is_digit_of base) text = search rules in
    let within = prefix_len-le-length (is_digit_of base) text in
    let len : length (take n text) ≡ n = length-take-le n text (omega arith) in
    let few : n ≤ 8 = search rules in
    let parsed = rw c.front.ensures at c.from_str_radix.ensures.value in
    c.unwrap_or-value.ensures ∙ short_number base (take n text) c.from_str_radix.result c.requires.high (omega arith) (AllDigits-run base text n run) parsed
