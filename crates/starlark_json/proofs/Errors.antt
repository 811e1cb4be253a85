-- The JSON of an error.
use Rattle.std.proofs.Common.{◌≡◌, ◌∷◌, Result}
use Rattle.json.specs.Token.{key}
use Rattle.json.specs.Tree.{json_tokens}
use Rattle.json.specs.Written.{Written}
use Rattle.starlark_json.specs.Answers.{position_json}
use Rattle.starlark_lexer.specs.Places.{Place}
use Rattle.starlark_lexer.specs.Tokens.{Text}
use Rattle.starlark_json.specs.Tree.Adds.{Adds}

-- a position, at the line and column that it is
pub placed : {E : Type 0} {r : Result (Unit {0}) E} {o n : Written} {k : Text} {a b : Place} → a ≡ b
    → Adds r o n (key k ∷ json_tokens (position_json a)) → Adds r o n (key k ∷ json_tokens (position_json b))
placed e p = rw e at p
