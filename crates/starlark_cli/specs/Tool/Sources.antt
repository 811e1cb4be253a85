-- What reading gives.
use Rattle.std.specs.Prelude.{◌≡◌, ℕ, List, Option, Some, None, IsUtf8, ⊤, string_bytes}
use Rattle.std.specs.Io.KnownBytes.{IsAtEnd}
use Rattle.starlark_cli.specs.declared.tool.source.Source.{Source}
use Rattle.starlark_cli.specs.declared.tool.source.Source.TheVariants.{Text, NotUtf8, Unread}

-- all of these bytes, as text if they are UTF-8
abbrev pub IsSourceOf : List ℕ → Source → Type 0
IsSourceOf bytes (Text text) = string_bytes text ≡ bytes
IsSourceOf bytes NotUtf8 = ¬ IsUtf8 bytes
IsSourceOf bytes (Unread reason) = ⊥

-- all that a reader still has, if that is known
abbrev pub IsAllOf : Option (List ℕ) → Source → Type 0
IsAllOf None source = ⊤
IsAllOf (Some bytes) source = IsSourceOf bytes source

-- what reading the input to its end gives, and leaves, if what it still has is known: all of it, unless it cannot be read
abbrev pub HasRead : Option (List ℕ) → Option (List ℕ) → Source → Type 0
HasRead known left (Text text) = IsAllOf known (Text text) × IsAtEnd left
HasRead known left NotUtf8 = IsAllOf known NotUtf8 × IsAtEnd left
HasRead known left (Unread reason) = ⊤

abbrev pub IsUnread : Source → Type 0
IsUnread (Text text) = ⊥
IsUnread NotUtf8 = ⊥
IsUnread (Unread reason) = ⊤
