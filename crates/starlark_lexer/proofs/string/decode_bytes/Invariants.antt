use Rattle.std.proofs.Common.{◌≡◌, ◌++◌, length}
use denote.Text.{Utf8}
use denote.Shadow.{shadow}
use Rattle.starlark_lexer.specs.Strings.{run}
use Rattle.starlark_lexer.proofs.string.decode_bytes.Given as goal

abbrev pub invariant-pieces : goal.invariant-pieces
invariant-pieces l = shadow (Utf8 l.left) × ((run l.style l.rest).value ≡ l.value.items ++ (run l.style l.left).value)

abbrev pub decreases-pieces : goal.decreases-pieces
decreases-pieces l = length l.left
