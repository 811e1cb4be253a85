-- Where a list of lexemes stops being the beginning of a program, as the code holds it.
use Rattle.std.specs.Prelude.{◌≡◌, ℕ, List, Option, Some, None, Ok, Err, IfSome, IfNone, IsSomeAnd, length, slice_get, take}
use Rattle.std.specs.List.{AllByRecursion}
use Rattle.starlark_lexer.specs.Kinds.{kind_of}
use Rattle.starlark_lexer.specs.Lexer.{CodeLexeme}
use Rattle.starlark_lexer.specs.Tokens.{terminal}
use Rattle.starlark_lexer.specs.declared.kind.Kind.{Kind}
use Rattle.starlark_lexer.specs.declared.span.Span.{Span as CodeSpan}
use Rattle.starlark_spec.specs.Nodes.{IsMember}
use Rattle.starlark_spec.specs.Program.{BeginsProgram}
use Rattle.starlark_expected.specs.MayFollow.{IsExpected, tokens_of}
use Rattle.starlark_expected.specs.declared.set.Expected.{Expected}
use Rattle.starlark_diagnostics.specs.Things.{kinds_of}
use Rattle.starlark_diagnostics.specs.declared.stop.Stop.{Stop}
use Rattle.starlark_diagnostics.specs.declared.thing.Thing.{Thing}

-- each kind that the thing means is in the set
abbrev pub IsIn : List Kind → Thing → Type 0
IsIn set thing = AllByRecursion (λ kind. IsMember kind set) (kinds_of thing)

abbrev pub HasMember : Option Expected → Kind → Type 0
HasMember None kind = ⊥
HasMember (Some e) kind = IsMember kind e.kinds.items

-- the lexeme is a token of the kind at the span
abbrev pub IsAt : CodeSpan → Kind → CodeLexeme → Type 0
IsAt span kind (Ok x) = (x.0 ≡ span.begin.byte) × (x.2 ≡ span.end.byte) × (kind_of (terminal x.1) ≡ kind)
IsAt span kind (Err e) = ⊥

-- what stops after so many lexemes: a token at the span that is not in the set, or the end
abbrev pub IsNext : CodeSpan → List CodeLexeme → ℕ → Option Expected → Option Kind → Type 0
IsNext span lexemes count set None = count ≡ length lexemes
IsNext span lexemes count set (Some kind) = IsSomeAnd (slice_get lexemes count) (IsAt span kind) × ¬ HasMember set kind

pub record IsStop (lexemes : List CodeLexeme) (span : CodeSpan) (s : Stop) : Type 0 where
  pub count : ℕ
  pub before : s.before.now ≡ take count lexemes
  pub exact : IfSome s.set (λ e. IsExpected (tokens_of s.before.now) e.kinds.items e.is_end)
  pub none : IfNone s.set (¬ BeginsProgram (tokens_of s.before.now))
  pub next : IsNext span lexemes count s.set s.kind
