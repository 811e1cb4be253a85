use Rattle.std.proofs.Common.{◌≡◌, ◌++◌, length, string_bytes}
use denote.Text.{Utf8}
use denote.Shadow.{shadow}
use Rattle.starlark_lexer.specs.Strings.{run}
use Rattle.starlark_lexer.proofs.string.decode.Given as goal

abbrev pub invariant-pieces : goal.invariant-pieces
invariant-pieces l = shadow (Utf8 l.left) × ((run l.style l.rest).value ≡ string_bytes l.value ++ (run l.style l.left).value)

abbrev pub decreases-pieces : goal.decreases-pieces
decreases-pieces l = length l.left
