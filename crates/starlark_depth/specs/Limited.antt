-- Lexemes that nest no deeper than a limit.
use Rattle.std.specs.Prelude.{ℕ, List, [], ◌∷◌, Option, Some, None, Result, Ok, Err}
use Rattle.starlark_lexer.specs.Tokens.{Span, Lexeme, LexerFault}
use Rattle.starlark_lexer.specs.declared.token.LexerErrorKind.TheVariants as kinds
use Rattle.starlark_depth.specs.Depths.{State, start, after_token}

abbrev pub too_deep : Span → LexerFault
too_deep span = record { kind = kinds.TooDeep; span = span }

abbrev pub limit_at : Lexeme → Option State → (State → List (Result Lexeme LexerFault)) → List (Result Lexeme LexerFault)
limit_at l None more = Err (too_deep l.span) ∷ []
limit_at l (Some t) more = Ok l ∷ more t

-- The lexemes up to the first error, or up to the first token that nests deeper than n: in place of that there is an error.
abbrev pub limited_from : ℕ → State → List (Result Lexeme LexerFault) → List (Result Lexeme LexerFault)
limited_from n s [] = []
limited_from n s (Ok l ∷ ls) = limit_at l (after_token n s l.token) (λ t. limited_from n t ls)
limited_from n s (Err e ∷ ls) = Err e ∷ []

abbrev pub limited : ℕ → List (Result Lexeme LexerFault) → List (Result Lexeme LexerFault)
limited n ls = limited_from n start ls
