use Rattle.std.proofs.Common.{◌≡◌, ◌++◌, length}
use Rattle.std.specs.List.{flat_map}
use Rattle.std.specs.Fmt.{HasWritten, IsPlainFormatter}
use denote.Text.{Utf8}
use denote.Shadow.{shadow}
use Rattle.starlark_lexer.specs.Tokens.{Text}
use Rattle.starlark_tree.specs.Literals.{escaped}
use Rattle.starlark_tree.proofs.display.literal.write_escaped.Given as goal

abbrev pub invariant-pieces : goal.invariant-pieces
invariant-pieces g l =
    shadow (Utf8 l.rest) × ((done : Text) × (flat_map escaped l.fn.s ≡ done ++ flat_map escaped l.rest)
    × (IsPlainFormatter l.initial.f → HasWritten g.W.Write.write_str_gives l.initial.f done l.f))

abbrev pub decreases-pieces : goal.decreases-pieces
decreases-pieces g l = length l.rest
