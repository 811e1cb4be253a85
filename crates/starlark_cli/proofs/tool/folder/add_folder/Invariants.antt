use Rattle.std.specs.List.{All}
use Rattle.starlark_cli.specs.Tool.Folders.{AddsBelow, IsLaterBelow}
use Rattle.starlark_cli.proofs.tool.folder.add_folder.Given as goal

abbrev pub invariant-loop : goal.invariant-loop
invariant-loop g l = AddsBelow l.fn.folder l.fn.found.items l.found.items × All (IsLaterBelow l.fn.folder) l.later.items
