use Rattle.std.proofs.Common.{arith, sym, ◌∙◌}
use Rattle.std.proofs.lemmas.Bool.{false≢true}
use Rattle.starlark_depth.proofs.nesting.Nesting.start_line.Goals as goal
use Rattle.starlark_depth.proofs.nesting.Nesting.start_line.Goals.{else-self-limit-via-then-self-limit+else-matches, in-Elif, in_default}
use Rattle.starlark_depth.proofs.nesting.Nesting.start_line.Goals.{else-self-limit-via-else-self-limit}

pub statement_of_line-statement-requires : goal.statement_of_line-statement-requires
statement_of_line-statement-requires c is =
    elim c.else-self-limit.branch [
      | else-self-limit-via-then-self-limit+else-matches w ↦ elim w.match-matches.branch [
        | in-Elif v ↦ absurd (false≢true (sym w.if-matches.false ∙ v.matches-is))
        | in_default v ↦ absurd (v.in_default.not-Elif is)
      ]
      | else-self-limit-via-else-self-limit w ↦ omega (arith, w.if-self-limit.false, c.ranges.limit.fits)
    ]
