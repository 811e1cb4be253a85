-- Which bytes of a string have an escape.
use Rattle.std.specs.Prelude.{ℕ, ◌==◌, Bool, length}
use Rattle.starlark_tree.specs.Literals.{escaped}

-- a byte is displayed as one byte, and so unchanged, if it has no escape
abbrev pub is_plain : ℕ → Bool
is_plain b = length (escaped b) == 1
