use Rattle.std.proofs.Common.{◌≡◌, ◌<◌, true, false, None, get_or, sym, ap, subst, ◌∙◌, arith}
use Rattle.std.proofs.lemmas.Str.{IsUtf8-had}
use Rattle.starlark_lexer.specs.Newlines.{newline_len}
use Rattle.starlark_lexer.specs.Classes.{is_letter}
use Rattle.starlark_lexer.specs.Cuts.{token, IsCutOf}
use Rattle.starlark_lexer.specs.Lexer.{state_of}
use Rattle.starlark_lexer.specs.Numbers.{begins_number}
use Rattle.starlark_lexer.specs.Openings.{opening}
use Rattle.starlark_lexer.specs.Tokens.{Newline}
use Rattle.starlark_lexer.proofs.CutLaws.{newline_fits}
use Rattle.starlark_lexer.proofs.StepLemmas.{plain-number, plain-sign}
use Rattle.starlark_lexer.proofs.lexer.Lexer.plain_step.Goals as goal

pub take_token-requires : goal.take_token-requires
take_token-requires c =
    let text = c.args.self.now.rest.now in
    let is : c.newline_len-len.result ≡ newline_len text = c.newline_len-len.ensures ∙ ap newline_len c.as_bytes-bytes.ensures.value in
    let some : 0 < newline_len text = subst (λ n. 0 < n) is c.if-len-gt0.true in
    record { cut = subst (λ n. IsCutOf text (token Newline n)) (sym is) (newline_fits text (IsUtf8-had _ c.args.self.now.utf8) some) }

pub returns-then-begins_number : goal.returns-then-begins_number
returns-then-begins_number c =
    let s = state_of c.args.self.now in
    let same = c.as_bytes-bytes.ensures.value in
    let first : c.byte_at-first.result ≡ get_or s.rest 0 0 = c.byte_at-first.ensures ∙ ap (λ t. get_or t 0 0) same in
    let is : c.newline_len-len.result ≡ newline_len s.rest = c.newline_len-len.ensures ∙ ap newline_len same in
    let none : None ≡ opening s.rest = c.in_default.ensures ∙ ap opening same in
    let unbroken : newline_len s.rest ≡ 0 = omega arith in
    let other : get_or s.rest 0 0 ≡ 35 → ⊥ = λ e. c.if-first-eq35.false (first ∙ e) in
    let letter : is_letter (get_or s.rest 0 0) ≡ false = sym (c.if-is_letter.ensures ∙ ap is_letter first) in
    let begins : begins_number s.rest ≡ true = sym (c.if-begins_number.ensures ∙ ap begins_number same) in
    rw (plain-number s none unbroken other letter begins) c.number_step.ensures

pub returns : goal.returns
returns c =
    let s = state_of c.args.self.now in
    let same = c.as_bytes-bytes.ensures.value in
    let first : c.byte_at-first.result ≡ get_or s.rest 0 0 = c.byte_at-first.ensures ∙ ap (λ t. get_or t 0 0) same in
    let is : c.newline_len-len.result ≡ newline_len s.rest = c.newline_len-len.ensures ∙ ap newline_len same in
    let none : None ≡ opening s.rest = c.in_default.ensures ∙ ap opening same in
    let unbroken : newline_len s.rest ≡ 0 = omega arith in
    let other : get_or s.rest 0 0 ≡ 35 → ⊥ = λ e. c.if-first-eq35.false (first ∙ e) in
    let letter : is_letter (get_or s.rest 0 0) ≡ false = sym (c.if-is_letter.ensures ∙ ap is_letter first) in
    let begins : begins_number s.rest ≡ false = sym (c.if-begins_number.ensures ∙ ap begins_number same) in
    rw (plain-sign s none unbroken other letter begins) c.sign_step.ensures
