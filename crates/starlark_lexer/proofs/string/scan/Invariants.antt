use Rattle.std.proofs.Common.{◌≡◌, ◌+◌, ◌++◌, true, length, take, drop}
use denote.Text.{Utf8}
use denote.Shadow.{shadow}
use Rattle.starlark_lexer.specs.Strings.{run}
use Rattle.starlark_lexer.proofs.string.scan.Given as goal

abbrev pub invariant-pieces : goal.invariant-pieces
invariant-pieces l =
    shadow (Utf8 l.left) × (l.len + length l.left ≡ length l.rest)
    × ((run l.style l.rest).len ≡ l.len + (run l.style l.left).len) × ((run l.style l.rest).stop ≡ (run l.style l.left).stop)
    × (l.left ≡ drop l.len l.rest) × (l.verbatim ≡ true → (run l.style l.rest).value ≡ take l.len l.rest ++ (run l.style l.left).value)

abbrev pub decreases-pieces : goal.decreases-pieces
decreases-pieces l = length l.left
