use Rattle.std.proofs.Common.{◌≡◌, get_or, ap, subst, ◌∙◌, arith}
use Rattle.std.proofs.lemmas.Str.{IsUtf8-had}
use Rattle.starlark_lexer.specs.Cuts.{IsCutOf}
use Rattle.starlark_lexer.specs.Lexer.{state_of}
use Rattle.starlark_lexer.specs.Lexing.{char_len}
use Rattle.starlark_lexer.specs.Tokens.{terminal}
use Rattle.starlark_lexer.proofs.CutLaws.{char_len-le, sign_fits}
use Rattle.starlark_lexer.proofs.StepLemmas.{gave-given, sign-three, sign-two, sign-one, sign-refused}
use Rattle.starlark_lexer.proofs.lexer.Lexer.longest_sign_step.Goals as goal

pub take_sign-requires : goal.take_sign-requires
take_sign-requires c =
    let text = c.args.self.now.rest.now in
    let same = c.as_bytes-bytes.ensures.value in
    let a : c.byte_at-first.result ≡ get_or text 0 0 = c.byte_at-first.ensures ∙ ap (λ t. get_or t 0 0) same in
    let b : c.byte_at-second.result ≡ get_or text 1 0 = c.byte_at-second.ensures ∙ ap (λ t. get_or t 1 0) same in
    let d : c.byte_at.result ≡ get_or text 2 0 = c.byte_at.ensures ∙ ap (λ t. get_or t 2 0) same in
    let e = rw (a, b, d) at c.in-Some.ensures in
    record {
      cut = subst (IsCutOf text) (sign-three text (terminal c.in-Some.sign) e) (sign_fits text (IsUtf8-had _ c.args.self.now.utf8) c.requires.some);
      unbroken = c.requires.unbroken;
      no_bracket = c.requires.no_bracket;
    }

pub returns-in-Some : goal.returns-in-Some
returns-in-Some c =
    let s = state_of c.args.self.now in
    let text = s.rest in
    let same = c.as_bytes-bytes.ensures.value in
    let a : c.byte_at-first.result ≡ get_or text 0 0 = c.byte_at-first.ensures ∙ ap (λ t. get_or t 0 0) same in
    let b : c.byte_at-second.result ≡ get_or text 1 0 = c.byte_at-second.ensures ∙ ap (λ t. get_or t 1 0) same in
    let d : c.byte_at.result ≡ get_or text 2 0 = c.byte_at.ensures ∙ ap (λ t. get_or t 2 0) same in
    let e = rw (a, b, d) at c.in-Some.ensures in
    rw (sign-three text (terminal c.in-Some.sign) e)
    (gave-given s (terminal c.in-Some.sign) 3 3 c.take_sign.result (state_of c.take_sign.new.self) c.take_sign.ensures)

pub take_sign-requires-in-Some-sign_of_two : goal.take_sign-requires-in-Some-sign_of_two
take_sign-requires-in-Some-sign_of_two c =
    let text = c.args.self.now.rest.now in
    let same = c.as_bytes-bytes.ensures.value in
    let a : c.byte_at-first.result ≡ get_or text 0 0 = c.byte_at-first.ensures ∙ ap (λ t. get_or t 0 0) same in
    let b : c.byte_at-second.result ≡ get_or text 1 0 = c.byte_at-second.ensures ∙ ap (λ t. get_or t 1 0) same in
    let d : c.byte_at.result ≡ get_or text 2 0 = c.byte_at.ensures ∙ ap (λ t. get_or t 2 0) same in
    let three = rw (a, b, d) at c.in_default.ensures in
    let e = rw (a, b) at c.in-Some-sign_of_two.ensures in
    record {
      cut = subst (IsCutOf text) (sign-two text (terminal c.in-Some-sign_of_two.sign) three e)
          (sign_fits text (IsUtf8-had _ c.args.self.now.utf8) c.requires.some);
      unbroken = c.requires.unbroken;
      no_bracket = c.requires.no_bracket;
    }

pub returns-in-Some-sign_of_two : goal.returns-in-Some-sign_of_two
returns-in-Some-sign_of_two c =
    let s = state_of c.args.self.now in
    let text = s.rest in
    let same = c.as_bytes-bytes.ensures.value in
    let a : c.byte_at-first.result ≡ get_or text 0 0 = c.byte_at-first.ensures ∙ ap (λ t. get_or t 0 0) same in
    let b : c.byte_at-second.result ≡ get_or text 1 0 = c.byte_at-second.ensures ∙ ap (λ t. get_or t 1 0) same in
    let d : c.byte_at.result ≡ get_or text 2 0 = c.byte_at.ensures ∙ ap (λ t. get_or t 2 0) same in
    let three = rw (a, b, d) at c.in_default.ensures in
    let e = rw (a, b) at c.in-Some-sign_of_two.ensures in
    rw (sign-two text (terminal c.in-Some-sign_of_two.sign) three e)
    (gave-given s (terminal c.in-Some-sign_of_two.sign) 2 2 c.take_sign-in-Some-sign_of_two.result (state_of c.take_sign-in-Some-sign_of_two.new.self)
    c.take_sign-in-Some-sign_of_two.ensures)

pub take_sign-requires-in-Some-sign_of_one : goal.take_sign-requires-in-Some-sign_of_one
take_sign-requires-in-Some-sign_of_one c =
    let text = c.args.self.now.rest.now in
    let same = c.as_bytes-bytes.ensures.value in
    let a : c.byte_at-first.result ≡ get_or text 0 0 = c.byte_at-first.ensures ∙ ap (λ t. get_or t 0 0) same in
    let b : c.byte_at-second.result ≡ get_or text 1 0 = c.byte_at-second.ensures ∙ ap (λ t. get_or t 1 0) same in
    let d : c.byte_at.result ≡ get_or text 2 0 = c.byte_at.ensures ∙ ap (λ t. get_or t 2 0) same in
    let three = rw (a, b, d) at c.in_default.ensures in
    let two = rw (a, b) at c.in_default-sign_of_two.ensures in
    let e = rw a at c.in-Some-sign_of_one.ensures in
    record {
      cut = subst (IsCutOf text) (sign-one text (terminal c.in-Some-sign_of_one.sign) three two e)
          (sign_fits text (IsUtf8-had _ c.args.self.now.utf8) c.requires.some);
      unbroken = c.requires.unbroken;
      no_bracket = c.requires.no_bracket;
    }

pub returns-in-Some-sign_of_one : goal.returns-in-Some-sign_of_one
returns-in-Some-sign_of_one c =
    let s = state_of c.args.self.now in
    let text = s.rest in
    let same = c.as_bytes-bytes.ensures.value in
    let a : c.byte_at-first.result ≡ get_or text 0 0 = c.byte_at-first.ensures ∙ ap (λ t. get_or t 0 0) same in
    let b : c.byte_at-second.result ≡ get_or text 1 0 = c.byte_at-second.ensures ∙ ap (λ t. get_or t 1 0) same in
    let d : c.byte_at.result ≡ get_or text 2 0 = c.byte_at.ensures ∙ ap (λ t. get_or t 2 0) same in
    let three = rw (a, b, d) at c.in_default.ensures in
    let two = rw (a, b) at c.in_default-sign_of_two.ensures in
    let e = rw a at c.in-Some-sign_of_one.ensures in
    rw (sign-one text (terminal c.in-Some-sign_of_one.sign) three two e)
    (gave-given s (terminal c.in-Some-sign_of_one.sign) 1 1 c.take_sign-in-Some-sign_of_one.result (state_of c.take_sign-in-Some-sign_of_one.new.self)
    c.take_sign-in-Some-sign_of_one.ensures)

pub overflow_add-self : goal.overflow_add-self
overflow_add-self c =
    let text = c.args.self.now.rest.now in
    let is : c.char_len.result ≡ char_len text = c.char_len.ensures ∙ ap char_len c.as_bytes-bytes.ensures.value in
    let within = char_len-le text c.requires.some in
    let small = c.args.self.now.small in
    omega arith

pub refuse-requires-clause-small : goal.refuse-requires-clause-small
refuse-requires-clause-small c =
    let text = c.args.self.now.rest.now in
    let is : c.char_len.result ≡ char_len text = c.char_len.ensures ∙ ap char_len c.as_bytes-bytes.ensures.value in
    let within = char_len-le text c.requires.some in
    let small = c.args.self.now.small in
    omega arith

pub returns : goal.returns
returns c =
    let s = state_of c.args.self.now in
    let text = s.rest in
    let same = c.as_bytes-bytes.ensures.value in
    let a : c.byte_at-first.result ≡ get_or text 0 0 = c.byte_at-first.ensures ∙ ap (λ t. get_or t 0 0) same in
    let b : c.byte_at-second.result ≡ get_or text 1 0 = c.byte_at-second.ensures ∙ ap (λ t. get_or t 1 0) same in
    let d : c.byte_at.result ≡ get_or text 2 0 = c.byte_at.ensures ∙ ap (λ t. get_or t 2 0) same in
    let three = rw (a, b, d) at c.in_default.ensures in
    let two = rw (a, b) at c.in_default-sign_of_two.ensures in
    let one = rw a at c.in_default-sign_of_one.ensures in
    let is : c.char_len.result ≡ char_len text = c.char_len.ensures ∙ ap char_len same in
    rw (sign-refused s c.char_len.result is three two one) c.refuse.ensures
