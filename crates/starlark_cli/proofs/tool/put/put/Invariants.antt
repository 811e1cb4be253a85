use Rattle.std.proofs.Common.{◌≡◌, ◌++◌, List, ℕ}
use Rattle.std.specs.Io.KnownBytes.{Appends}
use Rattle.starlark_cli.proofs.tool.put.put.Given as goal

abbrev pub invariant-loop : goal.invariant-loop
invariant-loop g l = (begin : List ℕ) × (Appends (g.W.Write.contents l.initial.out) (g.W.Write.contents l.out) begin) × (l.fn.text ≡ begin ++ l.rest)
