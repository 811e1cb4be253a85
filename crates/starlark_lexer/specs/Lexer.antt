-- The lexer's functions, in terms of the steps.
use Rattle.std.specs.Prelude.{◌≡◌, ◌≤◌, ℕ, true, List, [], ◌∷◌, Option, Some, None, IsSomeAnd, Result, Ok, Err}
use Rattle.std.specs.Iterator.{Count, at_most, YieldsThen}
use Rattle.starlark_lexer.specs.declared.token.Token.{Token}
use Rattle.starlark_lexer.specs.declared.token.LexerError.{LexerError}
use Rattle.starlark_lexer.specs.declared.token.LexerErrorKind.{LexerErrorKind}
use Rattle.starlark_lexer.specs.declared.token.LexerErrorKind.TheVariants as kinds
use Rattle.starlark_lexer.specs.declared.lexer.Lexer.{Lexer}
use Rattle.starlark_lexer.specs.Tokens.{terminal, from_to, Lexeme, lexeme, LexerFault, fault_of}
use Rattle.starlark_lexer.specs.Memory.{takes_memory}
use Rattle.starlark_lexer.specs.Lexemes.{State, Step, step, left, token_step}

-- an item of an iterator over lexemes
abbrev pub CodeLexeme : Type 0
CodeLexeme = Result (ℕ × Token × ℕ) LexerError

abbrev pub lexeme_of : CodeLexeme → Result Lexeme LexerFault
lexeme_of (Ok x) = Ok (lexeme (terminal x.1) (from_to x.0 x.2))
lexeme_of (Err e) = Err (fault_of e)

abbrev pub state_of : Lexer → State
state_of l = record {
  at = l.at;
  rest = l.rest.now;
  depth = l.depth;
  line_begins = l.line_begins;
  levels = l.levels.items;
  f_strings = l.f_strings.items;
  ended = l.ended;
}

-- a token that allocates memory
abbrev pub TakesMemory : Result Lexeme LexerFault → Type 0
TakesMemory (Ok l) = takes_memory l.token ≡ true
TakesMemory (Err e) = ⊥

-- The error is that of the step. If the step's token allocates memory, it may also be out of memory, and then nothing comes after it.
abbrev pub Refuses : LexerErrorKind → LexerError → Step → State → Type 0
Refuses kinds.Memory e p t = TakesMemory p.0 × (t.ended ≡ true) × (t.levels ≡ [])
Refuses _ e p t = p ≡ (Err (fault_of e), t)

-- a call returned x and left t: as the step gives, unless memory ran out
abbrev pub Gave : Step → CodeLexeme → State → Type 0
Gave p (Ok x) t = p ≡ (lexeme_of (Ok x), t)
Gave p (Err e) t = Refuses e.kind e p t

-- The start of a line returned x and left t, as the step gives; or it returned nothing, and the step is that of the next token in t.
abbrev pub Begins : Step → Option CodeLexeme → State → Type 0
Begins p None t = p ≡ token_step t
Begins p (Some x) t = Gave p x t

-- a call from s returned r and left t
abbrev pub Gives : State → Option CodeLexeme → State → Type 0
Gives s None t = (step s ≡ None) × (t ≡ s)
Gives s (Some x) t = IsSomeAnd (step s) (λ p. Gave p x t)

-- a token lies between the position of the lexer before and after
abbrev pub IsBetween : ℕ → Option CodeLexeme → ℕ → Type 0
IsBetween from (Some (Ok x)) to = (from ≤ x.0) × (x.0 ≤ x.2) × (x.2 ≤ to)
IsBetween from _ to = Unit {0}

-- what a call of `next` returns
abbrev pub gives : Lexer → Option CodeLexeme → Lexer → Type 0
gives s r t = Gives (state_of s) r (state_of t) × IsBetween s.at r t.at

abbrev pub remaining : Lexer → Count
remaining s = at_most (left (state_of s))

-- an error is the last item
abbrev pub IsLast : LexerErrorKind → LexerError → List CodeLexeme → List (Result Lexeme LexerFault) → Type 0
IsLast kinds.Memory e xs [] = ⊥
IsLast kinds.Memory e xs (l ∷ ls) = TakesMemory l × (xs ≡ [])
IsLast _ e xs ls = (ls ≡ Err (fault_of e) ∷ []) × (xs ≡ [])

-- The results of a run of calls are this list. If memory ran out, they are a front of the list and then that error, as the last, in place
-- of a token that allocates memory.
abbrev pub AreLexemes : List CodeLexeme → List (Result Lexeme LexerFault) → Type 0
AreLexemes [] ls = ls ≡ []
AreLexemes (Ok x ∷ xs) ls = (more : List (Result Lexeme LexerFault)) × (ls ≡ lexeme_of (Ok x) ∷ more) × AreLexemes xs more
AreLexemes (Err e ∷ xs) ls = IsLast e.kind e xs ls

-- all calls of `next` from s on, up to the first `None`, returned xs
pub record GaveAll (s : Lexer) (xs : List CodeLexeme) : Type 0 where
  pub end : Lexer
  pub run : YieldsThen gives s xs None end
