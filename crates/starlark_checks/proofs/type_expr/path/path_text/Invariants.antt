use Rattle.std.proofs.Common.{◌≡◌, ◌++◌, string_bytes, take}
use Rattle.std.specs.List.{flat_map}
use Rattle.starlark_checks.proofs.TypePaths.{after_point}
use Rattle.starlark_checks.proofs.type_expr.path.path_text.Given as goal

abbrev pub invariant-loop-name : goal.invariant-loop-name
invariant-loop-name g l = string_bytes l.text ≡ string_bytes l.path.first.now.node.ident ++ flat_map after_point (take l.name-index l.name-items)
