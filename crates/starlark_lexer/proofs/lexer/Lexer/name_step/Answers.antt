use Rattle.std.proofs.Common.{◌≡◌, ◌+◌, true, false, take, Some, None, Ok, refl, sym, ap, subst, ◌∙◌}
use Rattle.std.proofs.lemmas.Str.{IsUtf8-had}
use Rattle.std.specs.List.{prefix_len}
use Rattle.starlark_lexer.specs.Classes.{is_name_byte}
use Rattle.starlark_lexer.specs.Lexemes.{take_cut}
use Rattle.starlark_lexer.specs.Lexer.{TakesMemory, state_of}
use Rattle.starlark_lexer.specs.Lexing.{name_cut}
use Rattle.starlark_lexer.specs.Tokens.{terminal, Identifier, lexeme, from_to}
use Rattle.starlark_lexer.specs.Words.{keyword, is_reserved}
use Rattle.starlark_lexer.proofs.CutLaws.{name_ends}
use Rattle.starlark_lexer.proofs.StepLemmas.{gave-taken, name-keyword, name-reserved, name-identifier}
use Rattle.starlark_lexer.proofs.lexer.Lexer.name_step.Goals as goal

pub take-requires : goal.take-requires
take-requires c =
    rw (c.run_len-len.ensures.len, c.as_bytes.ensures.value) (name_ends c.args.self.now.rest.now (IsUtf8-had _ c.args.self.now.utf8))

pub take-requires-2 : goal.take-requires-2
take-requires-2 c =
    rw (c.run_len-len.ensures.len, c.as_bytes.ensures.value) (name_ends c.args.self.now.rest.now (IsUtf8-had _ c.args.self.now.utf8))

pub returns-in-Some : goal.returns-in-Some
returns-in-Some c =
    let s = state_of c.args.self.now in
    let n = c.run_len-len.result in
    let is : n ≡ prefix_len is_name_byte s.rest = c.run_len-len.ensures.len ∙ ap (λ t. prefix_len is_name_byte t) c.as_bytes.ensures.value in
    let word : Some (terminal c.in-Some.keyword) ≡ keyword (take n s.rest) = c.in-Some.ensures ∙ ap keyword c.front-name.ensures in
    rw (name-keyword s n (terminal c.in-Some.keyword) c.requires is word)
    (gave-taken _ _ c.take.result (state_of c.take.new.self) c.take.ensures.token c.take.ensures.state)

pub returns-then-is_reserved : goal.returns-then-is_reserved
returns-then-is_reserved c =
    let s = state_of c.args.self.now in
    let n = c.run_len-len.result in
    let is : n ≡ prefix_len is_name_byte s.rest = c.run_len-len.ensures.len ∙ ap (λ t. prefix_len is_name_byte t) c.as_bytes.ensures.value in
    let word : None ≡ keyword (take n s.rest) = c.in_default.ensures ∙ ap keyword c.front-name.ensures in
    let reserved : true ≡ is_reserved (take n s.rest) = c.if-is_reserved.ensures ∙ ap is_reserved c.front-name.ensures in
    rw (name-reserved s n is word reserved) c.refuse.ensures

pub returns-in_default-from_str : goal.returns-in_default-from_str
returns-in_default-from_str c =
    let s = state_of c.args.self.now in
    let n = c.run_len-len.result in
    let is : n ≡ prefix_len is_name_byte s.rest = c.run_len-len.ensures.len ∙ ap (λ t. prefix_len is_name_byte t) c.as_bytes.ensures.value in
    let word : None ≡ keyword (take n s.rest) = c.in_default.ensures ∙ ap keyword c.front-name.ensures in
    let plain : false ≡ is_reserved (take n s.rest) = c.if-is_reserved.ensures ∙ ap is_reserved c.front-name.ensures in
    let e = name-identifier s n c.requires is word plain in
    c.out_of_memory.ensures (take_cut s (name_cut s.rest)) (subst (λ p. TakesMemory p.0) (sym e) refl)

pub returns : goal.returns
returns c =
    let s = state_of c.args.self.now in
    let n = c.run_len-len.result in
    let is : n ≡ prefix_len is_name_byte s.rest = c.run_len-len.ensures.len ∙ ap (λ t. prefix_len is_name_byte t) c.as_bytes.ensures.value in
    let word : None ≡ keyword (take n s.rest) = c.in_default.ensures ∙ ap keyword c.front-name.ensures in
    let plain : false ≡ is_reserved (take n s.rest) = c.if-is_reserved.ensures ∙ ap is_reserved c.front-name.ensures in
    let token = c.take-2.ensures.token ∙ ap (λ t. Ok (lexeme (Identifier t) (from_to s.at (s.at + n)))) (c.in-Ok.ensures.ok ∙ c.front-name.ensures) in
    rw (name-identifier s n c.requires is word plain) (gave-taken _ _ c.take-2.result (state_of c.take-2.new.self) token c.take-2.ensures.state)
