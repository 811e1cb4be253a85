use Rattle.std.proofs.Common.{◌≡◌, ◌≤◌, drop, le_refl, subst, arith}
use Rattle.std.proofs.lemmas.Grind.{common_steps}
use Rattle.std.specs.List.{prefix_len}
use Rattle.starlark_lexer.specs.Classes.{is_space}
use Rattle.starlark_lexer.specs.Lines.{whitespace_len}
use Rattle.starlark_lexer.proofs.LineLemmas.{whitespace_split}
use Rattle.starlark_lexer.proofs.lines.margin.Goals as goal

pub returns-clause-whitespace : goal.returns-clause-whitespace
returns-clause-whitespace c =
    let n = c.spaces_len-spaces.result in
    let text = c.args.rest.now in
    let within : n ≤ prefix_len is_space text = subst (λ k. n ≤ k) c.spaces_len-spaces.ensures.len (le_refl n) in
    let split = whitespace_split n text within in
    let run : c.run_len.result ≡ whitespace_len (drop n text) = grind (arith, common_steps) in
    omega arith
