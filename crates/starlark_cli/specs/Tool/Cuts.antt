-- What is written of a text, of which a part at its end may be left out if writing fails.
use Rattle.std.specs.Prelude.{◌≡◌, ◌++◌, ℕ, List, Option, Result, Ok, Err}
use Rattle.std.specs.Io.KnownBytes.{Appends}
use Rattle.starlark_lexer.specs.Tokens.{Text}

-- the start of a text was written after what was there before
pub record IsCut (before after : Option (List ℕ)) (text : Text) : Type 0 where
  pub begin : Text
  pub rest : Text
  pub written : Appends before after begin
  pub is_text : text ≡ begin ++ rest

-- all of it if that succeeds
abbrev pub Puts : {X E : Type 0} → Option (List ℕ) → Option (List ℕ) → Text → Result X E → Type 0
Puts before after text (Ok x) = Appends before after text
Puts before after text (Err e) = IsCut before after text
