-- The message on an unexpected token or end.
use Rattle.std.specs.Prelude.{◌≡◌, ◌⊎◌, ℕ, List, [], Option, Some, None, Result, Ok, Err, IfSome, IfNone, IsSomeAnd, codes, length, slice_get, take}
use Rattle.std.specs.List.{AllByRecursion}
use Rattle.starlark_lexer.specs.Kinds.{kind_of}
use Rattle.starlark_lexer.specs.Lexemes.{lexemes}
use Rattle.starlark_lexer.specs.Places.{text_between}
use Rattle.starlark_lexer.specs.Tokens.{Lexeme, LexerFault, Span, Text}
use Rattle.starlark_lexer.specs.declared.kind.Kind.{Kind}
use Rattle.starlark_spec.specs.Items.{items}
use Rattle.starlark_expected.specs.MayFollow.{MayFollow}
use Rattle.starlark_diagnostics.specs.Stops.{IsIn}
use Rattle.starlark_diagnostics.specs.Things.{kinds_of, unexpected}
use Rattle.starlark_diagnostics.specs.Tokens.{token_name}
use Rattle.starlark_diagnostics.specs.declared.stop.Stop.{Stop}
use Rattle.starlark_diagnostics.specs.declared.thing.Thing.{Thing}

-- the tokens of the first lexemes of a text
abbrev pub tokens_before : ℕ → Text → List Lexeme
tokens_before count text = (items (take count (lexemes text))).tokens

abbrev pub IsToken : Span → Kind → Result Lexeme LexerFault → Type 0
IsToken span kind (Ok l) = (l.span ≡ span) × (kind_of l.token ≡ kind)
IsToken span kind (Err e) = ⊥

-- a token of the kind that is written so, or the end
abbrev pub name_of : Option Kind → Text → Text
name_of (Some kind) text = token_name kind text
name_of None text = codes "end of file"

-- What comes after the first lexemes of a text: a token at the span, of this kind, which cannot follow them; or the end.
abbrev pub ComesNext : Text → Span → ℕ → Option Kind → Type 0
ComesNext text span count None = count ≡ length (lexemes text)
ComesNext text span count (Some kind) = IsSomeAnd (slice_get (lexemes text) count) (IsToken span kind) × ¬ MayFollow (tokens_before count text) kind

-- the thing may come after the tokens, with each kind that it means
abbrev pub MayCome : List Lexeme → Thing → Type 0
MayCome tokens thing = AllByRecursion (MayFollow tokens) (kinds_of thing)

-- The message names what cannot follow what comes before it, and what can.
pub record SaysExpected (text : Text) (span : Span) (message : Text) : Type 0 where
  pub count : ℕ
  pub next : Option Kind
  pub comes : ComesNext text span count next
  pub expected : List Thing
  pub may_come : AllByRecursion (MayCome (tokens_before count text)) expected
  pub says : message ≡ unexpected (name_of next (text_between text span.begin span.end)) expected

-- the messages that are clearer than what is expected
abbrev pub IsSentence : Text → Type 0
IsSentence message =
    (message ≡ codes "comparisons do not chain: join two by `and`")
    ⊎ (message ≡ codes "no bracket is open that this closes")
    ⊎ (message ≡ codes "unexpected indentation")

abbrev pub SaysUnexpected : Text → Span → Text → Type 0
SaysUnexpected text span message = IsSentence message ⊎ SaysExpected text span message

-- the same of a stop that the code found, and of the text of its span
pub record Names (stop : Stop) (text : Text) (message : Text) : Type 0 where
  pub expected : List Thing
  pub some : IfSome stop.set (λ set. AllByRecursion (IsIn set.kinds.items) expected)
  pub none : IfNone stop.set (expected ≡ [])
  pub says : message ≡ unexpected (name_of stop.kind text) expected
