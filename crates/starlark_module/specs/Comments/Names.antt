-- Names that are found by name.
use Rattle.std.specs.Prelude.{◌≡◌, Bool, List, string_bytes}
use Rattle.std.specs.HashSet.{HashSet, contains_text}
use Rattle.std.specs.List.{list_any}
use Rattle.std.specs.Str.{bytes_eq}
use Rattle.std.specs.declared.string.String.{String}
use Rattle.starlark_lexer.specs.Tokens.{Text}

module _ {A : Type 0} where
  -- whether a name is among those that are listed
  abbrev pub is_listed : Text → List (String A) → Bool
  is_listed text listed = list_any (λ name. bytes_eq text (string_bytes name)) listed

  -- the set has the names that are listed, and no others
  abbrev pub HasNames : {S : Type 0} → HashSet (String A) S → List (String A) → Type 0
  HasNames set listed = (text : Text) → contains_text set text ≡ is_listed text listed
