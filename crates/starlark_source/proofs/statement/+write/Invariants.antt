use Rattle.std.proofs.Common.{◌+◌, ◌*◌, take}
use Rattle.std.specs.List.{flat_map}
use Rattle.starlark_source.specs.Pages.{Wrote}
use Rattle.starlark_source.specs.Lines.{as_line}
use Rattle.starlark_source.specs.DraftedLines.{drafted_lines}
use Rattle.starlark_source.proofs.statement.+write.Given as goal

abbrev pub invariant-write_all-loop-part : goal.invariant-write_all-loop-part
invariant-write_all-loop-part l = Wrote l.initial.page (flat_map (λ s. drafted_lines as_line l.depth s.span s.node) (take l.part-index l.parts)) l.page

abbrev pub decreases-write_lines : goal.decreases-write_lines
decreases-write_lines l = 8 * goal.size-write_lines l

abbrev pub decreases-write_all : goal.decreases-write_all
decreases-write_all l = 8 * goal.size-write_all l + 1

abbrev pub decreases-write_block : goal.decreases-write_block
decreases-write_block l = 8 * goal.size-write_block l + 2

abbrev pub decreases-write_body : goal.decreases-write_body
decreases-write_body l = 8 * goal.size-write_body l + 3

abbrev pub decreases-write_suite : goal.decreases-write_suite
decreases-write_suite l = 8 * goal.size-write_suite l + 4

abbrev pub decreases-write_else : goal.decreases-write_else
decreases-write_else l = 8 * goal.size-write_else l + 5
