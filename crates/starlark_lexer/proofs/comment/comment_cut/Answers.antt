use Rattle.std.proofs.Common.{◌≡◌, ◌-◌, ◌==◌, cond, get_or, arith}
use Rattle.std.proofs.lemmas.Bool.Decides.{nat_tests}
use Rattle.std.proofs.lemmas.Str.{IsCharBoundary-after_ascii}
use Rattle.starlark_lexer.specs.Lexing.{before_newline}
use Rattle.starlark_lexer.proofs.CommentLemmas.{before_newline-IsNewlinePlace, comment_end-IsNewlinePlace}
use Rattle.starlark_lexer.proofs.ByteRuns.{within_from_byte}
use Rattle.starlark_lexer.proofs.comment.comment_cut.Goals as goal
use Rattle.starlark_lexer.proofs.comment.comment_cut.Goals.{then-bytes-line-eq13, else-bytes-line-eq13}

pub bounds-bytes-line : goal.bounds-bytes-line
bounds-bytes-line c =
    let h = before_newline-IsNewlinePlace c.args.rest.now c.requires in
    let some = h.some in
    let within = h.within in
    rw (c.before_newline-line.ensures, c.as_bytes-bytes.ensures.value) (omega arith)

pub range-requires-clause-start_boundary : goal.range-requires-clause-start_boundary
range-requires-clause-start_boundary c =
    let text = c.args.rest.now in
    λ _. IsCharBoundary-after_ascii text 0 c.utf8.rest (within_from_byte text 0 (omega (arith, c.requires))) (omega (arith, c.requires))

pub range-requires-clause-end_boundary : goal.range-requires-clause-end_boundary
range-requires-clause-end_boundary c =
    let text = c.args.rest.now in
    let n = before_newline text in
    let h = comment_end-IsNewlinePlace text n c.requires (before_newline-IsNewlinePlace text c.requires) in
    let e : c.if-bytes-line-eq13.len ≡ cond (get_or text (n - 1) 0 == 13) (n - 1) n =
    elim c.if-bytes-line-eq13.branch [ then-bytes-line-eq13 w ↦ grind (arith, nat_tests) | else-bytes-line-eq13 w ↦ grind (arith, nat_tests) ] in
    rw e h.boundary
