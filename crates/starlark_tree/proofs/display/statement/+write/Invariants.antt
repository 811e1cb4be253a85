use Rattle.std.proofs.Common.{take}
use Rattle.std.specs.List.{flat_map}
use Rattle.std.specs.Fmt.{HasWritten, IsPlainFormatter}
use Rattle.starlark_tree.specs.Printed.{printed_stmt}
use Rattle.starlark_tree.proofs.display.statement.+write.Given as goal

abbrev pub invariant-write_stmts-loop-statement : goal.invariant-write_stmts-loop-statement
invariant-write_stmts-loop-statement g l =
    IsPlainFormatter l.initial.f
    → HasWritten g.W.Write.write_str_gives l.initial.f (flat_map (λ s. printed_stmt l.depth s.node) (take l.statement-index l.statements)) l.f
