use Rattle.std.specs.Option.{option_map_or}
use Rattle.std.proofs.Common.{◌≡◌, ◌+◌, ◌++◌, map, string_bytes, option_map, length}
use Rattle.starlark_module.specs.Comments.Suppressions.{names_among, names_listed, pieces_of}
use Rattle.starlark_module.proofs.comments.lint_suppressions.names_listed.Given as goal

abbrev pub invariant-pieces : goal.invariant-pieces
invariant-pieces l = map string_bytes l.names.items ++ names_among (pieces_of (option_map (λ rest. rest.now) l.rest)) ≡ names_listed l.text

abbrev pub decreases-pieces : goal.decreases-pieces
decreases-pieces l = option_map_or (λ rest. length rest.now + 1) l.rest 0
