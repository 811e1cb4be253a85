use Rattle.std.proofs.Common.{rules, ◌≡◌, ◌+◌, ◌<◌, Some, None, refl, arith}
use Rattle.starlark_lexer.specs.Places.{line_of, line_at}
use Rattle.starlark_lexer.specs.Spans.{ends}
use Rattle.starlark_module.proofs.CommentsLemmas.Lines.{line_of-le, merged}
use Rattle.starlark_module.specs.Comments.Suppressions.{with_line_after}
use Rattle.starlark_module.proofs.comments.lint_suppressions.with_line_after.Goals as goal

pub overflow_add-find_line : goal.overflow_add-find_line
overflow_add-find_line c =
    let small : c.begin.result.byte < 4294967296 = search rules in
    let early = line_of-le c.args.codemap.now.text c.begin.result.byte in omega (arith, c.find_line.ensures)

pub returns-in-Some : goal.returns-in-Some
unfolding with_line_after
returns-in-Some c =
    let found : Some (ends c.in-Some.next) ≡ line_at (line_of c.args.codemap.now.text c.args.last.begin.byte + 1) c.args.codemap.now.text =
    rw (← c.begin.ensures, ← c.find_line.ensures) c.in-Some.ensures.line in
    rw (← found) (merged c.args.span c.in-Some.next c.merge.result c.merge.ensures.begin c.merge.ensures.end)

pub returns-in-None : goal.returns-in-None
unfolding with_line_after
returns-in-None c =
    let none : None ≡ line_at (line_of c.args.codemap.now.text c.args.last.begin.byte + 1) c.args.codemap.now.text =
    rw (← c.begin.ensures, ← c.find_line.ensures) c.in-None.ensures.line in
    rw (← none) refl
