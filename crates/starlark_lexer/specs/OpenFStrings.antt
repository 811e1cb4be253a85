-- The open f-strings.
use Rattle.std.specs.Prelude.{◌≡◌, ℕ, ◌≤◌, true, false}
use Rattle.starlark_lexer.specs.declared.f_string.FString.{FString}
use Rattle.starlark_lexer.specs.Openings.{is_quote}

-- an f-string that was opened at or before a position
pub record IsOpen (at : ℕ) (f : FString) : Type 0 where
  pub quoted : is_quote f.style.quote ≡ true
  pub text : f.style.bytes ≡ false
  pub begin : f.begin ≤ at
  pub depth : f.depth ≤ at
