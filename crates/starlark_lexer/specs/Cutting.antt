-- What the code cuts off, in terms of the definitions.
use Rattle.std.specs.Prelude.{◌≡◌, true, Result, Ok, Err, MatchResult}
use Rattle.starlark_lexer.specs.declared.token.Token.{Token}
use Rattle.starlark_lexer.specs.declared.token.LexerErrorKind.{LexerErrorKind}
use Rattle.starlark_lexer.specs.declared.cut.Cut.{Cut as CodeCut}
use Rattle.starlark_lexer.specs.Tokens.{Terminal, terminal}
use Rattle.starlark_lexer.specs.Memory.{takes_memory}
use Rattle.starlark_lexer.specs.Cuts.{Cut}

abbrev pub what_of : Result Token LexerErrorKind → Result Terminal LexerErrorKind
what_of (Ok t) = Ok (terminal t)
what_of (Err kind) = Err kind

abbrev pub cut_of : CodeCut → Cut
cut_of c = record { what = what_of c.what; begin = c.begin; len = c.len; taken = c.taken }

-- its token allocates memory
abbrev pub TakesMemory : Result Terminal LexerErrorKind → Type 0
TakesMemory (Ok t) = takes_memory t ≡ true
TakesMemory (Err kind) = ⊥

-- the cut is this one; allocation fails only for a token that allocates memory
abbrev pub Cuts : {E : Type 0} → Result CodeCut E → Cut → Type 0
Cuts r c = MatchResult r (λ x. cut_of x ≡ c) (λ _. TakesMemory c.what)
