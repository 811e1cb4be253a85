use Rattle.std.proofs.Common.{◌≡◌, ◌≤◌, le_refl, get_or, length, take, ap, subst, ◌∙◌, arith}
use Rattle.std.specs.List.{prefix_len}
use Rattle.starlark_lexer.specs.Lexing.{comment_cut}
use Rattle.starlark_lexer.specs.Lines.{indentation}
use Rattle.starlark_lexer.specs.Lexer.{Gave, Begins, state_of}
use Rattle.starlark_lexer.specs.Lexemes.{take_cut, indent_step}
use Rattle.starlark_lexer.specs.Classes.{is_whitespace, is_space}
use Rattle.starlark_lexer.proofs.LineLemmas.{whitespace_len-le, run_in_front}
use Rattle.starlark_lexer.proofs.NumberLemmas.{list_all-run}
use Rattle.starlark_lexer.proofs.StepLemmas.{filled_line-comment, filled_line-indent}
use Rattle.starlark_lexer.proofs.lexer.Lexer.filled_line_step.Goals as goal

pub returns-then-bytes-whitespace-eq35 : goal.returns-then-bytes-whitespace-eq35
returns-then-bytes-whitespace-eq35 c =
    let s = state_of c.args.self.now in
    let n = c.args.whitespace in
    let same = c.as_bytes-bytes.ensures.value in
    let some = subst (λ t. n ≡ length t → ⊥) same c.if-whitespace-bytes.false in
    let hash = subst (λ t. get_or t n 0 ≡ 35) same c.if-bytes-whitespace-eq35.true in
    let e = filled_line-comment s n c.requires.whitespace some hash in
    let there = c.advance-then-bytes-whitespace-eq35.ensures in
    rw e (subst (λ t. Gave (take_cut t (comment_cut t.rest)) c.comment_step.result (state_of c.comment_step.new.self)) there c.comment_step.ensures)

pub returns : goal.returns
returns c =
    let s = state_of c.args.self.now in
    let n = c.args.whitespace in
    let same = c.as_bytes-bytes.ensures.value in
    let some = subst (λ t. n ≡ length t → ⊥) same c.if-whitespace-bytes.false in
    let other = subst (λ t. get_or t n 0 ≡ 35 → ⊥) same c.if-bytes-whitespace-eq35.false in
    let e = filled_line-indent s n c.requires.whitespace some other in
    let counted : c.indentation.result ≡ indentation (take n s.rest) = c.indentation.ensures ∙ ap (λ t. indentation (take n t)) same in
    rw e (subst (λ k. Begins (indent_step s n k) c.indent_step.result (state_of c.indent_step.new.self)) counted c.indent_step.ensures)

pub bounds-bytes-whitespace : goal.bounds-bytes-whitespace
bounds-bytes-whitespace c =
    let within = whitespace_len-le c.args.self.now.rest.now in
    let is = c.requires.whitespace in
    let some = subst (λ t. c.args.whitespace ≡ length t → ⊥) c.as_bytes-bytes.ensures.value c.if-whitespace-bytes.false in
    rw c.as_bytes-bytes.ensures.value (omega arith)

pub indentation-requires-clause-blank : goal.indentation-requires-clause-blank
indentation-requires-clause-blank c = rw (c.as_bytes-bytes.ensures.value, c.requires.whitespace) (list_all-run is_whitespace c.args.self.now.rest.now)

pub indentation-requires-clause-spaces : goal.indentation-requires-clause-spaces
indentation-requires-clause-spaces c =
    let text = c.args.self.now.rest.now in
    let run : c.args.spaces ≤ prefix_len is_space text = subst (λ k. c.args.spaces ≤ k) c.requires.spaces (le_refl c.args.spaces) in
    rw c.as_bytes-bytes.ensures.value (run_in_front c.args.spaces c.args.whitespace text run c.requires.order)
