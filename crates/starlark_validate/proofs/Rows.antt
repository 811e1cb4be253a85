-- Worked rows: the answers for some lists of tokens under a dialect.
use Rattle.std.proofs.Common.{◌≡◌, ℕ, List, [], ◌∷◌, codes, zero, suc, refl}
use Rattle.starlark_lexer.specs.Tokens.{Text, Span, from_to, large, Lexeme, lexeme, Terminal}
use Rattle.starlark_lexer.specs.Tokens as tokens
use Rattle.starlark_lexer.specs.Tokens.{Identifier, Int, String, Newline, Indent, Dedent}
use Rattle.starlark_lexer.specs.Dialects.{every_part, no_part, standard_parts}
use Rattle.starlark_lexer.specs.declared.dialect.Dialect.{Dialect}
use Rattle.starlark_lexer.specs.declared.dialect.DialectTypes.{DialectTypes}
use Rattle.starlark_lexer.specs.declared.token.FStringQuote.TheVariants.{Double}
use Rattle.starlark_tree.specs.Ast as t
use Rattle.starlark_spec.specs.Faults.{rule_fault as fault, grammar_fault, Dialect as of_dialect, Place, Params}
use Rattle.starlark_checks.specs.Faults.{miscalled}
use Rattle.starlark_spec.specs.declared.error.CallError.TheVariants as calls
use Rattle.starlark_spec.specs.declared.error.DialectError.TheVariants as dialects
use Rattle.starlark_spec.specs.declared.error.GrammarError.TheVariants as rules
use Rattle.starlark_spec.specs.declared.error.ParamsError.TheVariants as params
use Rattle.starlark_spec.specs.declared.error.PlaceError.TheVariants as places
use Rattle.starlark_spec.specs.Items.{at_end}
use Rattle.starlark_spec.specs.Grammar.Nonterminal.{Module}
use Rattle.starlark_spec.specs.Trees.{module_tree}
use Rattle.starlark_spec.specs.Answers.{Answer}
use Rattle.starlark_spec.specs.Answers.Answer.{module_of, memory, unexpected_token, broken_rule}
use Rattle.starlark_spec.specs.Machine.States.{State}
use Rattle.starlark_spec.specs.Machine.Sight.{look, sight}
use Rattle.starlark_spec.specs.Machine.Moves.{Keep, Take, Fail, Finish}
use Rattle.starlark_spec.specs.Machine.Faults.{Ruled, Moves, Refuses, ruled}
use Rattle.starlark_spec.specs.Machine.Steps.{start, after_first}
use Rattle.starlark_spec.specs.Machine.Answers.{stop_of}
use Rattle.starlark_validate.specs.Answers.{tested}

abbrev end_after : List Lexeme → ℕ → ℕ
end_after [] end = end
end_after (x ∷ rest) end = x.span.end

abbrev judge : List Lexeme → ℕ → Ruled Module → (State Module → List Lexeme → ℕ → Answer) → Answer
judge rest end (Refuses f) on = broken_rule f
judge rest end (Moves (Keep u)) on = on u rest end
judge rest end (Moves (Take u)) on = on u (after_first rest) (end_after rest end)
judge rest end (Moves Fail) on = stop_of (sight at_end rest) end
judge rest end (Moves (Finish d)) on = module_of (module_tree d)

-- the machine for this many steps; if they do not suffice the answer is out of memory
abbrev answer : ℕ → DialectTypes → State Module → List Lexeme → ℕ → Answer
answer zero y s rest end = memory
answer (suc m) y s rest end = judge rest end (ruled y s (look at_end rest)) (λ u r e. answer m y u r e)

abbrev says : Dialect → List Lexeme → Answer
says dialect ts = tested dialect (answer 600 dialect.enable_types start ts 0)

abbrev k : ℕ → ℕ → Terminal → Lexeme
k a b token = lexeme token (from_to a b)

abbrev n : ℕ → ℕ → Text → Lexeme
n a b text = k a b (Identifier text)

abbrev one : ℕ → ℕ → Lexeme
one a b = k a b (Int (large (codes "1")))

-- load("a")
row1 : says every_part (k 0 4 tokens.Load ∷ k 4 5 tokens.OpeningRound ∷ k 5 8 (String (codes "a")) ∷ k 8 9 tokens.ClosingRound ∷ k 9 10 Newline ∷ [])
    ≡ broken_rule (grammar_fault rules.LoadRequiresAtLeastTwoArguments (from_to 5 8))
row1 = refl

-- load("a") and on the next line 1 2
row2 : says every_part (k 0 4 tokens.Load ∷ k 4 5 tokens.OpeningRound ∷ k 5 8 (String (codes "a")) ∷ k 8 9 tokens.ClosingRound ∷ k 9 10 Newline ∷ one 10 11 ∷
    one 12 13 ∷ k 13 14 Newline ∷ []) ≡ unexpected_token (from_to 12 13)
row2 = refl

-- f(a=1, a=2)
row3 : says every_part (n 0 1 (codes "f") ∷ k 1 2 tokens.OpeningRound ∷ n 2 3 (codes "a") ∷ k 3 4 tokens.Equal ∷ one 4 5 ∷ k 5 6 tokens.Comma ∷ n 7 8
    (codes "a") ∷ k 8 9 tokens.Equal ∷ one 9 10 ∷ k 10 11 tokens.ClosingRound ∷ k 11 12 Newline ∷ [])
    ≡ broken_rule (miscalled calls.RepeatedName (from_to 7 8))
row3 = refl

-- f(x=1, 2)
row4 : says every_part (n 0 1 (codes "f") ∷ k 1 2 tokens.OpeningRound ∷ n 2 3 (codes "x") ∷ k 3 4 tokens.Equal ∷ one 4 5 ∷ k 5 6 tokens.Comma ∷ one 7 8 ∷ k 8
    9 tokens.ClosingRound ∷ k 9 10 Newline ∷ [])
    ≡ broken_rule (miscalled calls.PositionalAfterNonPositional (from_to 7 8))
row4 = refl

-- f(a=1,2) if g(b=1,2) else 1: the value is before the condition
row5 : says every_part (n 0 1 (codes "f") ∷ k 1 2 tokens.OpeningRound ∷ n 2 3 (codes "a") ∷ k 3 4 tokens.Equal ∷ one 4 5 ∷ k 5 6 tokens.Comma ∷ one 6 7 ∷ k 7
    8 tokens.ClosingRound ∷ k 9 11 tokens.If
    ∷ n 12 13 (codes "g") ∷ k 13 14 tokens.OpeningRound ∷ n 14 15 (codes "b") ∷ k 15 16 tokens.Equal ∷ one 16 17 ∷ k 17 18 tokens.Comma ∷ one 18 19 ∷ k 19 20
    tokens.ClosingRound ∷ k 21 25 tokens.Else ∷ one 26 27 ∷ k 27 28 Newline ∷ [])
    ≡ broken_rule (miscalled calls.PositionalAfterNonPositional (from_to 6 7))
row5 = refl

-- f(a=1,g(b=1,2)): the inner call ends first
row6 : says every_part (n 0 1 (codes "f") ∷ k 1 2 tokens.OpeningRound ∷ n 2 3 (codes "a") ∷ k 3 4 tokens.Equal ∷ one 4 5 ∷ k 5 6 tokens.Comma
    ∷ n 6 7 (codes "g") ∷ k 7 8 tokens.OpeningRound ∷ n 8 9 (codes "b") ∷ k 9 10 tokens.Equal ∷ one 10 11 ∷ k 11 12 tokens.Comma ∷ one 12 13 ∷ k 13 14
    tokens.ClosingRound ∷ k 14 15 tokens.ClosingRound ∷ k 15 16 Newline ∷ [])
    ≡ broken_rule (miscalled calls.PositionalAfterNonPositional (from_to 12 13))
row6 = refl

-- return f(a=1,2): before the statement's own fault
row7 : says every_part (k 0 6 tokens.Return ∷ n 7 8 (codes "f") ∷ k 8 9 tokens.OpeningRound ∷ n 9 10 (codes "a") ∷ k 10 11 tokens.Equal ∷ one 11 12 ∷ k 12 13
    tokens.Comma ∷ one 13 14 ∷ k 14 15 tokens.ClosingRound ∷ k 15 16 Newline ∷ [])
    ≡ broken_rule (miscalled calls.PositionalAfterNonPositional (from_to 13 14))
row7 = refl

-- f"a" if they are off
row8 : says no_part (k 0 2 (tokens.FStringStart Double) ∷ k 2 3 (tokens.FStringText (codes "a")) ∷ k 3 4 tokens.FStringEnd ∷ k 4 5 Newline ∷ [])
    ≡ broken_rule (fault (of_dialect dialects.FStrings) (from_to 0 4))
row8 = refl

-- lambda: 1 and on the next line return 2, if lambdas are off
row9 : says no_part (k 0 6 tokens.Lambda ∷ k 6 7 tokens.Colon ∷ one 8 9 ∷ k 9 10 Newline ∷ k 10 16 tokens.Return ∷ one 17 18 ∷ k 18 19 Newline ∷ [])
    ≡ broken_rule (fault (Place places.ReturnOutsideDef) (from_to 10 18))
row9 = refl

-- lambda: 1 if they are off
row10 : says no_part (k 0 6 tokens.Lambda ∷ k 6 7 tokens.Colon ∷ one 8 9 ∷ k 9 9 Newline ∷ []) ≡ broken_rule (fault (of_dialect dialects.Lambda) (from_to 0 9))
row10 = refl

-- ... if there are no types
row11 : says no_part (k 0 3 tokens.Ellipsis ∷ k 3 3 Newline ∷ []) ≡ broken_rule (fault (of_dialect dialects.Ellipsis) (from_to 0 3))
row11 = refl

-- def f(*, a): pass
abbrev keyword_only : List Lexeme
keyword_only =
    k 0 3 tokens.Def ∷ n 4 5 (codes "f") ∷ k 5 6 tokens.OpeningRound ∷ k 6 7 tokens.Star ∷ k 7 8 tokens.Comma ∷ n 9 10
    (codes "a") ∷ k 10 11 tokens.ClosingRound ∷ k 11 12 tokens.Colon ∷ k 13 17 tokens.Pass ∷ k 17 17 Newline ∷ []

row12 : says standard_parts keyword_only ≡ broken_rule (fault (of_dialect dialects.KeywordOnly) (from_to 6 7))
row12 = refl

row13 : says no_part keyword_only ≡ broken_rule (fault (of_dialect dialects.Def) (from_to 0 17))
row13 = refl

-- def f(a, /): pass
row14 : says standard_parts (k 0 3 tokens.Def ∷ n 4 5 (codes "f") ∷ k 5 6 tokens.OpeningRound ∷ n 6 7 (codes "a") ∷ k 7 8 tokens.Comma ∷ k 9 10 tokens.Slash ∷
    k 10 11 tokens.ClosingRound ∷ k 11 12 tokens.Colon ∷ k 13 17 tokens.Pass ∷ k 17 18 Newline ∷ [])
    ≡ broken_rule (fault (of_dialect dialects.PositionalOnly) (from_to 9 10))
row14 = refl

-- def f(a = ...): pass
row15 : says standard_parts (k 0 3 tokens.Def ∷ n 4 5 (codes "f") ∷ k 5 6 tokens.OpeningRound ∷ n 6 7 (codes "a") ∷ k 8 9 tokens.Equal ∷ k 10 13
    tokens.Ellipsis ∷ k 13 14 tokens.ClosingRound ∷ k 14 15 tokens.Colon ∷ k 16 20 tokens.Pass ∷ k 20 21 Newline ∷ [])
    ≡ broken_rule (fault (of_dialect dialects.Ellipsis) (from_to 10 13))
row15 = refl

-- def f(a, a): pass
row16 : says every_part (k 0 3 tokens.Def ∷ n 4 5 (codes "f") ∷ k 5 6 tokens.OpeningRound ∷ n 6 7 (codes "a") ∷ k 7 8 tokens.Comma ∷ n 9 10
    (codes "a") ∷ k 10 11 tokens.ClosingRound ∷ k 11 12 tokens.Colon ∷ k 13 17 tokens.Pass ∷ k 17 18 Newline ∷ [])
    ≡ broken_rule (fault (Params params.DuplicateName) (from_to 9 10))
row16 = refl

-- for x in y: and in its block def f(): break
row17 : says every_part (k 0 3 tokens.For ∷ n 4 5 (codes "x") ∷ k 6 8 tokens.In ∷ n 9 10 (codes "y") ∷ k 10 11 tokens.Colon ∷ k 11 12 Newline ∷ k 12 14 Indent
    ∷ k 14 17 tokens.Def ∷ n 18 19 (codes "f") ∷ k 19 20 tokens.OpeningRound ∷ k 20 21 tokens.ClosingRound ∷ k 21 22 tokens.Colon ∷ k 23 28 tokens.Break ∷ k
    28 29 Newline ∷ k 29 29 Dedent ∷ [])
    ≡ broken_rule (fault (Place places.BreakOutsideFor) (from_to 23 28))
row17 = refl

-- if a: and in its block load("m", "x")
row18 : says every_part (k 0 2 tokens.If ∷ n 3 4 (codes "a") ∷ k 4 5 tokens.Colon ∷ k 5 6 Newline ∷ k 6 8 Indent ∷ k 8 12 tokens.Load ∷ k 12 13
    tokens.OpeningRound ∷ k 13 16 (String (codes "m")) ∷ k 16 17 tokens.Comma
    ∷ k 18 21 (String (codes "x")) ∷ k 21 22 tokens.ClosingRound ∷ k 22 23 Newline ∷ k 23 23 Dedent ∷ [])
    ≡ broken_rule (fault (Place places.LoadNotAtTop) (from_to 8 22))
row18 = refl

-- load("m", "x") if they are off
row19 : says no_part (k 0 4 tokens.Load ∷ k 4 5 tokens.OpeningRound ∷ k 5 8 (String (codes "m")) ∷ k 8 9 tokens.Comma ∷ k 10 13 (String (codes "x")) ∷ k 13 14
    tokens.ClosingRound ∷ k 14 14 Newline ∷ [])
    ≡ broken_rule (fault (of_dialect dialects.Load) (from_to 0 14))
row19 = refl

-- if x: pass outside a function
row20 : says standard_parts (k 0 2 tokens.If ∷ n 3 4 (codes "x") ∷ k 4 5 tokens.Colon ∷ k 6 10 tokens.Pass ∷ k 10 10 Newline ∷ [])
    ≡ broken_rule (fault (Place places.IfAtTop) (from_to 0 10))
row20 = refl

-- pass
row21 : says no_part (k 0 4 tokens.Pass ∷ k 4 5 Newline ∷ []) ≡ module_of (t.statement (from_to 0 4) t.Pass)
row21 = refl

-- [g(b=1,2) for x in f(a=1,2)]: the element is before the clauses
row22 : says every_part (k 0 1 tokens.OpeningSquare ∷ n 1 2 (codes "g") ∷ k 2 3 tokens.OpeningRound ∷ n 3 4 (codes "b") ∷ k 4 5 tokens.Equal ∷ one 5 6 ∷ k 6 7
    tokens.Comma ∷ one 7 8 ∷ k 8 9 tokens.ClosingRound ∷ k 10 13 tokens.For ∷ n 14 15 (codes "x") ∷ k 16 18 tokens.In
    ∷ n 19 20 (codes "f") ∷ k 20 21 tokens.OpeningRound ∷ n 21 22 (codes "a") ∷ k 22 23 tokens.Equal ∷ one 23 24 ∷ k 24 25 tokens.Comma ∷ one 25 26 ∷ k 26 27
    tokens.ClosingRound ∷ k 27 28 tokens.ClosingSquare ∷ k 28 29 Newline ∷ [])
    ≡ broken_rule (miscalled calls.PositionalAfterNonPositional (from_to 7 8))
row22 = refl
