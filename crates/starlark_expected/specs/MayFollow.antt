-- What may follow tokens.
use Rattle.std.specs.Prelude.{◌≡◌, ◌↔◌, List, [], ◌∷◌, ◌++◌, map, reverse, Ok, Err, IsTrue, Bool, true, false, ⊤}
use Rattle.starlark_lexer.specs.Tokens.{Lexeme, terminal}
use Rattle.starlark_lexer.specs.Lexer.{CodeLexeme, lexeme_of}
use Rattle.starlark_spec.specs.Items.{items}
use Rattle.starlark_spec.specs.Nodes.{IsMember}
use Rattle.starlark_lexer.specs.declared.kind.Kind.{Kind}
use Rattle.starlark_lexer.specs.Kinds.{kind_of}
use Rattle.starlark_spec.specs.Program.{IsProgram, BeginsProgram}
use Rattle.starlark_lexer.specs.declared.kind.Kind.TheVariants as kinds
use Rattle.starlark_expected.specs.declared.word.Word.{Word}
use Rattle.starlark_expected.specs.declared.expected.Sort.{Sort}
use Rattle.starlark_expected.specs.declared.expected.Sort.TheVariants as sorts
use Rattle.starlark_expected.specs.declared.due.Says.{Says}
use Rattle.starlark_expected.specs.declared.due.Says.TheVariants as says
use Rattle.starlark_expected.specs.Words.{Outcome, Took, Refused, Whole, outcome}

-- some program begins with the tokens and then a token of the kind
abbrev pub MayFollow : List Lexeme → Kind → Type 0
MayFollow tokens kind = (x : Lexeme) × (kind_of x.token ≡ kind) × BeginsProgram (tokens ++ x ∷ [])

abbrev pub IsTook : Outcome → Type 0
IsTook (Took due named) = ⊤
IsTook o = ⊥

-- what the code returns for it
abbrev pub IsSaid : Outcome → Says → Type 0
IsSaid (Took due named) s = s ≡ says.Takes
IsSaid Refused s = s ≡ says.Refuses
IsSaid Whole s = s ≡ says.Whole

abbrev pub takes_so : Says → Bool
takes_so says.Takes = true
takes_so s = false

abbrev pub whole_so : Says → Bool
whole_so says.Whole = true
whole_so s = false

-- the token is consumed, and this is due then; or it is not
abbrev pub IsTaken : Outcome → (taken : Bool) → List Word → Bool → Type 0
IsTaken (Took due named) taken new new_named = (taken ≡ true) × (new ≡ due) × (new_named ≡ named)
IsTaken o taken new new_named = taken ≡ false

-- the same for words with the next last
abbrev pub TakesAt : (old : List Word) (old_named : Bool) → Kind → (taken : Bool) → (new : List Word) (named : Bool) → Type 0
TakesAt old old_named kind taken new named = IsTaken (outcome (reverse old) old_named kind) taken (reverse new) named

-- what is due after tokens decides what may follow them
pub record Decides (tokens : List Lexeme) (due : List Word) (named : Bool) : Type 0 where
  pub begins : BeginsProgram tokens
  pub follows : (kind : Kind) → IsTook (outcome due named kind) ↔ MayFollow tokens kind
  pub ends : (outcome due named kinds.End ≡ Whole) ↔ IsProgram tokens

-- those of a list for which something holds, in its order
pub data Chosen {A : Type 0} (Of : A → Type 0) : List A → List A → Type 0 where
  none_left : Chosen Of [] []
  chooses : {x : A} {all chosen : List A} → Of x → Chosen Of all chosen → Chosen Of (x ∷ all) (x ∷ chosen)
  leaves_out : {x : A} {all chosen : List A} → ¬ Of x → Chosen Of all chosen → Chosen Of (x ∷ all) chosen

-- all kinds, in their order
abbrev pub all_kinds : List Kind
all_kinds =
    kinds.Identifier ∷ kinds.Int ∷ kinds.Float ∷ kinds.String ∷ kinds.Bytes ∷ kinds.Comment ∷ kinds.Newline ∷ kinds.Indent ∷ kinds.Dedent ∷
    kinds.FStringStart ∷ kinds.FStringText ∷ kinds.FStringExprStart ∷ kinds.FStringBang ∷ kinds.FStringExprEnd ∷ kinds.FStringEnd ∷ kinds.And ∷
    kinds.Break ∷ kinds.Continue ∷ kinds.Def ∷ kinds.Elif ∷ kinds.Else ∷ kinds.For ∷ kinds.If ∷ kinds.In ∷ kinds.Lambda ∷ kinds.Load ∷ kinds.Not ∷
    kinds.Or ∷ kinds.Pass ∷ kinds.Return ∷ kinds.Comma ∷ kinds.Semicolon ∷ kinds.Colon ∷ kinds.Dot ∷ kinds.Ellipsis ∷ kinds.MinusGreater ∷
    kinds.OpeningRound ∷ kinds.ClosingRound ∷ kinds.OpeningSquare ∷ kinds.ClosingSquare ∷ kinds.OpeningCurly ∷ kinds.ClosingCurly ∷ kinds.Plus ∷
    kinds.Minus ∷ kinds.Star ∷ kinds.Slash ∷ kinds.SlashSlash ∷ kinds.Percent ∷ kinds.StarStar ∷ kinds.Ampersand ∷ kinds.Pipe ∷ kinds.Caret ∷
    kinds.Tilde ∷ kinds.LessLess ∷ kinds.GreaterGreater ∷ kinds.LessThan ∷ kinds.GreaterThan ∷ kinds.LessEqual ∷ kinds.GreaterEqual ∷
    kinds.EqualEqual ∷ kinds.BangEqual ∷ kinds.Equal ∷ kinds.PlusEqual ∷ kinds.MinusEqual ∷ kinds.StarEqual ∷ kinds.SlashEqual ∷
    kinds.SlashSlashEqual ∷ kinds.PercentEqual ∷ kinds.AmpersandEqual ∷ kinds.PipeEqual ∷ kinds.CaretEqual ∷ kinds.LessLessEqual ∷
    kinds.GreaterGreaterEqual ∷ kinds.Fault ∷ kinds.End ∷ []

-- the tokens up to the first error, ignoring comments
abbrev pub tokens_of : List CodeLexeme → List Lexeme
tokens_of lexemes = (items (map lexeme_of lexemes)).tokens

-- what the code sees of a lexeme
abbrev pub seen_by : Kind → Sort
seen_by kinds.Comment = sorts.Comment
seen_by kind = sorts.Token kind

abbrev pub seen_of : CodeLexeme → Sort
seen_of (Ok x) = seen_by (kind_of (terminal x.1))
seen_of (Err e) = sorts.Error

-- some program begins with the tokens, the kinds are all those that may follow, in the order of all kinds, and the end is reported correctly
pub record IsExpected (tokens : List Lexeme) (found : List Kind) (is_end : Bool) : Type 0 where
  pub begins : BeginsProgram tokens
  pub kinds : (kind : Kind) → IsMember kind found ↔ MayFollow tokens kind
  pub in_order : Chosen (MayFollow tokens) all_kinds found
  pub ends : IsTrue is_end ↔ IsProgram tokens
