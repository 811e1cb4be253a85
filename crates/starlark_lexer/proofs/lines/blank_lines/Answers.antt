use Rattle.std.proofs.Common.{◌≡◌, ◌+◌, ◌<◌, drop, ap, ◌∙◌, sym, subst, arith}
use Rattle.std.proofs.lemmas.Grind.{common_steps}
use Rattle.std.proofs.lemmas.List.{drop-drop}
use Rattle.starlark_lexer.specs.Newlines.{newline_len}
use Rattle.starlark_lexer.specs.Lines.{whitespace_len, blank_lines_len}
use Rattle.starlark_lexer.proofs.LineLemmas.{blank_lines-line, blank_lines-none, newline_len-le}
use Rattle.starlark_lexer.proofs.lines.blank_lines.Goals as goal

pub returns-then-end-eq0-clause-len : goal.returns-then-end-eq0-clause-len
returns-then-end-eq0-clause-len c =
    let at = c.lines.at in
    let rest = drop at c.args.rest.now in
    let whitespace : c.margin-whitespace.result.0 ≡ whitespace_len rest = grind (arith, common_steps) in
    let end : c.newline_len-end.result ≡ newline_len (drop (at + c.margin-whitespace.result.0) c.args.rest.now) = grind (arith, common_steps) in
    let here : newline_len (drop (whitespace_len rest) rest) ≡ 0 =
    ap newline_len (ap (λ n. drop n rest) (sym whitespace) ∙ drop-drop c.margin-whitespace.result.0 at c.args.rest.now) ∙ sym end ∙ c.if-end-eq0.true in
    let none = blank_lines-none rest here in
    let walked = c.lines.invariant.blank in
    omega arith

pub lines-preserved : goal.lines-preserved
lines-preserved c =
    let at = c.lines.at in
    let n = c.margin-whitespace.result.0 in
    let b = c.newline_len-end.result in
    let rest = drop at c.args.rest.now in
    let whitespace : n ≡ whitespace_len rest = grind (arith, common_steps) in
    let end : b ≡ newline_len (drop (at + n) c.args.rest.now) = grind (arith, common_steps) in
    let here : b ≡ newline_len (drop (whitespace_len rest) rest) =
    end ∙ sym (ap newline_len (ap (λ k. drop k rest) (sym whitespace) ∙ drop-drop n at c.args.rest.now)) in
    let some : 0 < newline_len (drop (whitespace_len rest) rest) = subst (λ k. 0 < k) here (grind arith) in
    let line = blank_lines-line rest some in
    let left : drop (whitespace_len rest + newline_len (drop (whitespace_len rest) rest)) rest ≡ drop (at + (n + b)) c.args.rest.now =
    ap (λ k. drop k rest) (omega arith) ∙ drop-drop (n + b) at c.args.rest.now in
    let more = ap blank_lines_len left in
    let fits = newline_len-le (drop (at + n) c.args.rest.now) in
    let walked = c.lines.invariant.blank in
    record { within = grind (arith, common_steps); blank = omega arith }
