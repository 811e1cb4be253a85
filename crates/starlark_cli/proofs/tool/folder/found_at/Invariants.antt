use Rattle.std.proofs.Common.{map, take}
use Rattle.starlark_cli.specs.Tool.Folders.{StandFor}
use Rattle.starlark_cli.proofs.tool.folder.found_at.Given as goal

abbrev pub invariant-loop-path : goal.invariant-loop-path
invariant-loop-path g l = StandFor (map (λ p. p.now) (take l.path-index l.fn.paths)) l.found.items
