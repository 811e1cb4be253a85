-- Worked rows: the machine's answers for some lists of tokens.
use Rattle.std.proofs.Common.{◌≡◌, ℕ, List, [], ◌∷◌, ◌++◌, codes, zero, suc, refl, Some, None}
use Rattle.starlark_lexer.specs.Tokens.{Text, Span, from_to, large, Lexeme, lexeme, LexerFault, Terminal}
use Rattle.starlark_lexer.specs.Tokens as tokens
use Rattle.starlark_lexer.specs.Tokens.{Identifier, Int, String, Newline, Indent, Dedent}
use Rattle.starlark_lexer.specs.declared.dialect.DialectTypes.{DialectTypes}
use Rattle.starlark_lexer.specs.declared.dialect.DialectTypes.TheVariants.{Disable, Enable}
use Rattle.starlark_tree.specs.Ast as t
use Rattle.starlark_tree.specs.Ast.{Statement, statement, Expression, expression, no_payload}
use Rattle.starlark_spec.specs.declared.error.GrammarError.TheVariants as rules
use Rattle.starlark_spec.specs.Faults.{Fault, rule_fault, grammar_fault, Types, TypeExpr, InvalidType}
use Rattle.starlark_spec.specs.Items.{Ending, at_end, fails}
use Rattle.starlark_spec.specs.Grammar.Nonterminal.{Module}
use Rattle.starlark_spec.specs.Trees.{module_tree, at}
use Rattle.starlark_spec.specs.Answers.{Answer, module_of, memory, lexer, unexpected_token, unexpected_end, broken_rule}
use Rattle.starlark_spec.specs.Machine.States.{State}
use Rattle.starlark_spec.specs.Machine.Sight.{look, sight}
use Rattle.starlark_spec.specs.Machine.Moves.{Keep, Take, Fail, Finish}
use Rattle.starlark_spec.specs.Machine.Faults.{Ruled, Moves, Refuses, ruled}
use Rattle.starlark_spec.specs.Machine.Steps.{start, after_first}
use Rattle.starlark_spec.specs.Machine.Answers.{stop_of}

abbrev end_after : List Lexeme → ℕ → ℕ
end_after [] end = end
end_after (x ∷ rest) end = x.span.end

abbrev judge : Ending → List Lexeme → ℕ → Ruled Module → (State Module → List Lexeme → ℕ → Answer) → Answer
judge z rest end (Refuses f) on = broken_rule f
judge z rest end (Moves (Keep u)) on = on u rest end
judge z rest end (Moves (Take u)) on = on u (after_first rest) (end_after rest end)
judge z rest end (Moves Fail) on = stop_of (sight z rest) end
judge z rest end (Moves (Finish d)) on = module_of (module_tree d)

-- the machine for this many steps; if they do not suffice the answer is out of memory
abbrev answer : ℕ → DialectTypes → Ending → State Module → List Lexeme → ℕ → Answer
answer zero y z s rest end = memory
answer (suc m) y z s rest end = judge z rest end (ruled y s (look z rest)) (λ u r e. answer m y z u r e)

abbrev says : DialectTypes → Ending → List Lexeme → Answer
says y z ts = answer 600 y z start ts 0

abbrev k : ℕ → ℕ → Terminal → Lexeme
k a b token = lexeme token (from_to a b)

abbrev n : ℕ → ℕ → Text → Lexeme
n a b text = k a b (Identifier text)

abbrev one : ℕ → ℕ → Lexeme
one a b = k a b (Int (large (codes "1")))

abbrev a_fault : Fault → Answer
a_fault f = broken_rule f

abbrev unexpected : ℕ → ℕ → Answer
unexpected a b = unexpected_token (from_to a b)

-- x = 1,
row1 : says Enable at_end (n 0 1 (codes "x") ∷ k 2 3 tokens.Equal ∷ one 4 5 ∷ k 5 6 tokens.Comma ∷ k 6 7 Newline ∷ [])
    ≡ broken_rule (grammar_fault rules.UnparenthesizedTupleTrailingComma (from_to 4 6))
row1 = refl

-- x = 1, 2 )
row2 : says Enable at_end (n 0 1 (codes "x") ∷ k 2 3 tokens.Equal ∷ one 4 5 ∷ k 5 6 tokens.Comma ∷ one 7 8 ∷ k 9 10 tokens.ClosingRound ∷ k 10 11 Newline ∷
    []) ≡ unexpected 9 10
row2 = refl

-- f() = 1
row3 : says Enable at_end (n 0 1 (codes "f") ∷ k 1 2 tokens.OpeningRound ∷ k 2 3 tokens.ClosingRound ∷ k 4 5 tokens.Equal ∷ one 6 7 ∷ k 7 8 Newline ∷ [])
    ≡ broken_rule (grammar_fault rules.InvalidLhs (from_to 0 3))
row3 = refl

-- f() = 1 == 1 == 1
row4 : says Enable at_end (n 0 1 (codes "f") ∷ k 1 2 tokens.OpeningRound ∷ k 2 3 tokens.ClosingRound ∷ k 4 5 tokens.Equal ∷ one 6 7 ∷ k 8 10 tokens.EqualEqual
    ∷ one 11 12 ∷ k 13 15 tokens.EqualEqual ∷ one 16 17 ∷ k 17 18 Newline ∷ []) ≡ unexpected 13 15
row4 = refl

-- [1, 1] += 1
row5 : says Enable at_end (k 0 1 tokens.OpeningSquare ∷ one 1 2 ∷ k 2 3 tokens.Comma ∷ one 4 5 ∷ k 5 6 tokens.ClosingSquare ∷ k 7 9 tokens.PlusEqual ∷ one 10
    11 ∷ k 11 12 Newline ∷ []) ≡ broken_rule (grammar_fault rules.InvalidModifyLhs (from_to 0 6))
row5 = refl

-- x: int += 1
row6 : says Enable at_end (n 0 1 (codes "x") ∷ k 1 2 tokens.Colon ∷ n 3 6 (codes "int") ∷ k 7 9 tokens.PlusEqual ∷ one 10 11 ∷ k 11 12 Newline ∷ [])
    ≡ broken_rule (grammar_fault rules.TypeAnnotationOnAssignOp (from_to 3 6))
row6 = refl

-- x, y: int = 1
row7 : says Enable at_end (n 0 1 (codes "x") ∷ k 1 2 tokens.Comma ∷ n 3 4 (codes "y") ∷ k 4 5 tokens.Colon ∷ n 6 9 (codes "int") ∷ k 10 11 tokens.Equal ∷ one
    12 13 ∷ k 13 14 Newline ∷ []) ≡ broken_rule (grammar_fault rules.TypeAnnotationOnTupleAssign (from_to 6 9))
row7 = refl

-- x: 1 = 1
abbrev typed : List Lexeme
typed = n 0 1 (codes "x") ∷ k 1 2 tokens.Colon ∷ one 3 4 ∷ k 5 6 tokens.Equal ∷ one 7 8 ∷ k 8 9 Newline ∷ []

row8 : says Enable at_end typed ≡ broken_rule (rule_fault (TypeExpr (InvalidType (codes "int"))) (from_to 3 4))
row8 = refl

row9 : says Disable at_end typed ≡ broken_rule (rule_fault Types (from_to 3 4))
row9 = refl

-- load("a", b)
row10 : says Enable at_end (k 0 4 tokens.Load ∷ k 4 5 tokens.OpeningRound ∷ k 5 8 (String (codes "a")) ∷ k 8 9 tokens.Comma ∷ n 10 11
    (codes "b") ∷ k 11 12 tokens.ClosingRound ∷ k 12 13 Newline ∷ []) ≡ broken_rule (grammar_fault rules.LoadNameWithoutEqual (from_to 10 11))
row10 = refl

-- [x for 1 in y]
row11 : says Enable at_end (k 0 1 tokens.OpeningSquare ∷ n 1 2 (codes "x") ∷ k 3 6 tokens.For ∷ one 7 8 ∷ k 9 11 tokens.In ∷ n 12 13
    (codes "y") ∷ k 13 14 tokens.ClosingSquare ∷ k 14 15 Newline ∷ []) ≡ broken_rule (grammar_fault rules.InvalidLhs (from_to 7 8))
row11 = refl

-- [x for x, not in y]
row12 : says Enable at_end (k 0 1 tokens.OpeningSquare ∷ n 1 2 (codes "x") ∷ k 3 6 tokens.For ∷ n 7 8 (codes "x") ∷ k 8 9 tokens.Comma ∷ k 10 13 tokens.Not ∷
    k 14 16 tokens.In ∷ n 17 18 (codes "y") ∷ k 18 19 tokens.ClosingSquare ∷ k 19 20 Newline ∷ []) ≡ unexpected 10 13
row12 = refl

-- [x for x in y if lambda: z]
row13 : says Enable at_end (k 0 1 tokens.OpeningSquare ∷ n 1 2 (codes "x") ∷ k 3 6 tokens.For ∷ n 7 8 (codes "x") ∷ k 9 11 tokens.In ∷ n 12 13
    (codes "y") ∷ k 14 16 tokens.If ∷ k 17 23 tokens.Lambda ∷ k 23 24 tokens.Colon ∷ n 25 26 (codes "z") ∷ k 26 27 tokens.ClosingSquare ∷ k 27 28 Newline ∷
    []) ≡ unexpected 17 23
row13 = refl

-- for 1 in y: pass
row14 : says Enable at_end (k 0 3 tokens.For ∷ one 4 5 ∷ k 6 8 tokens.In ∷ n 9 10 (codes "y") ∷ k 10 11 tokens.Colon ∷ k 12 16 tokens.Pass ∷ k 16 17 Newline ∷
    []) ≡ broken_rule (grammar_fault rules.InvalidLhs (from_to 4 5))
row14 = refl

-- a loop with a block, and perhaps its Dedent
abbrev loop : Lexeme → List Lexeme → List Lexeme
loop x rest = k 0 3 tokens.For ∷ x ∷ k 6 8 tokens.In ∷ n 9 10 (codes "y") ∷ k 10 11 tokens.Colon ∷ k 11 12 Newline ∷ k 12 14 Indent ∷ k 14 18 tokens.Pass ∷ k
    18 19 Newline ∷ rest

-- the rule is tested at the end, with a Dedent or without, but an error of the lexer comes before it
row15 : says Enable at_end (loop (one 4 5) (k 19 19 Dedent ∷ [])) ≡ broken_rule (grammar_fault rules.InvalidLhs (from_to 4 5))
row15 = refl

row16 : says Enable at_end (loop (one 4 5) []) ≡ broken_rule (grammar_fault rules.InvalidLhs (from_to 4 5))
row16 = refl

row17 : (e : LexerFault) → says Enable (fails e) (loop (one 4 5) []) ≡ lexer e
row17 e = refl

row18 : (e : LexerFault) → says Enable (fails e) (loop (one 4 5) (k 19 19 Dedent ∷ [])) ≡ broken_rule (grammar_fault rules.InvalidLhs (from_to 4 5))
row18 e = refl

-- the loop includes its Dedent, or otherwise ends with the last token
abbrev y_name : Expression no_payload
y_name = expression (from_to 9 10) (t.Identifier (at (codes "y") (from_to 9 10)) tt)

abbrev the_loop : ℕ → Statement no_payload
the_loop end = statement (from_to 0 end) (t.For (t.NameTarget (from_to 4 5) (at (codes "x") (from_to 4 5)) tt) y_name (statement (from_to 14 18) t.Pass))

row19 : says Enable at_end (loop (n 4 5 (codes "x")) (k 20 20 Dedent ∷ [])) ≡ module_of (the_loop 20)
row19 = refl

row20 : says Enable at_end (loop (n 4 5 (codes "x")) []) ≡ module_of (the_loop 19)
row20 = refl

-- an unfinished block
row21 : says Enable at_end (k 0 2 tokens.If ∷ n 3 4 (codes "a") ∷ k 4 5 tokens.Colon ∷ k 5 6 Newline ∷ []) ≡ unexpected_end (from_to 6 6)
row21 = refl

-- if a: pass, elif b: pass, else: pass
abbrev name_at : ℕ → ℕ → Text → Expression no_payload
name_at a b text = expression (from_to a b) (t.Identifier (at text (from_to a b)) tt)

row22 : says Enable at_end (k 0 2 tokens.If ∷ n 3 4 (codes "a") ∷ k 4 5 tokens.Colon ∷ k 6 10 tokens.Pass ∷ k 10 11 Newline ∷ k 11 15 tokens.Elif ∷ n 16 17
    (codes "b") ∷ k 17 18 tokens.Colon ∷ k 19 23 tokens.Pass ∷ k 23 24 Newline ∷ k 24 28 tokens.Else ∷ k 28 29 tokens.Colon ∷ k 30 34 tokens.Pass ∷ k 34 35
    Newline ∷ [])
    ≡ module_of (statement (from_to 0 35) (t.IfElse (name_at 3 4 (codes "a")) (statement (from_to 6 10) t.Pass)
    (statement (from_to 11 35) (t.IfElse (name_at 16 17 (codes "b")) (statement (from_to 19 23) t.Pass) (statement (from_to 30 34) t.Pass)))))
row22 = refl

-- def f(a: int = 1, *, b) -> str: return a
row23 : says Enable at_end (k 0 3 tokens.Def ∷ n 4 5 (codes "f") ∷ k 5 6 tokens.OpeningRound ∷ n 6 7 (codes "a") ∷ k 7 8 tokens.Colon ∷ n 9 12
    (codes "int") ∷ k 13 14 tokens.Equal ∷ one 15 16 ∷ k 16 17 tokens.Comma ∷ k 18 19 tokens.Star ∷ k 19 20 tokens.Comma ∷ n 21 22 (codes "b")
    ∷ k 22 23 tokens.ClosingRound ∷ k 24 26 tokens.MinusGreater ∷ n 27 30 (codes "str") ∷ k 30 31 tokens.Colon ∷ k 32 38 tokens.Return ∷ n 39 40
    (codes "a") ∷ k 40 41 Newline ∷ [])
    ≡ module_of (statement (from_to 0 41) (t.Def (at (codes "f") (from_to 4 5)) tt
    (t.parameters_of (t.Normal (from_to 6 16) (at (codes "a") (from_to 6 7)) tt (t.typed (from_to 9 12) (name_at 9 12 (codes "int")) tt)
    (t.present (expression (from_to 15 16) (t.Constant (t.Int (from_to 15 16) (large (codes "1")))))) ∷ t.NoArgs (from_to 18 19) ∷ t.Normal
    (from_to 21 22) (at (codes "b") (from_to 21 22)) tt t.no_type t.absent ∷ []))
    (t.typed (from_to 27 30) (name_at 27 30 (codes "str")) tt) (statement (from_to 32 40) (t.Return (Some (name_at 39 40 (codes "a"))))) tt))
row23 = refl

-- load("a", "b", c = "d",)
row24 : says Enable at_end (k 0 4 tokens.Load ∷ k 4 5 tokens.OpeningRound ∷ k 5 8 (String (codes "a")) ∷ k 8 9 tokens.Comma ∷ k 10 13 (String (codes "b")) ∷ k
    13 14 tokens.Comma ∷ n 15 16 (codes "c") ∷ k 17 18 tokens.Equal ∷ k 19 22 (String (codes "d")) ∷ k 22 23 tokens.Comma ∷ k 23 24 tokens.ClosingRound ∷ k 24
    25 Newline ∷ [])
    ≡ module_of (statement (from_to 0 24) (t.Load (at (codes "a") (from_to 5 8))
    (record { local = at (codes "b") (from_to 10 13); payload = tt; their = at (codes "b") (from_to 10 13); comma = Some (from_to 13 14) }
    ∷ record { local = at (codes "c") (from_to 15 16); payload = tt; their = at (codes "d") (from_to 19 22); comma = Some (from_to 22 23) } ∷ []) tt))
row24 = refl

-- pass; return
row25 : says Enable at_end (k 0 4 tokens.Pass ∷ k 4 5 tokens.Semicolon ∷ k 6 12 tokens.Return ∷ k 12 13 Newline ∷ [])
    ≡ module_of (statement (from_to 0 13) (t.Block (t.statements_of (statement (from_to 0 4) t.Pass ∷ statement (from_to 6 12) (t.Return None) ∷ []))))
row25 = refl

-- lambda x: y: 1
row26 : says Enable at_end (k 0 6 tokens.Lambda ∷ n 7 8 (codes "x") ∷ k 8 9 tokens.Colon ∷ n 10 11 (codes "y") ∷ k 11 12 tokens.Colon ∷ one 13 14 ∷ k 14 15
    Newline ∷ []) ≡ broken_rule (rule_fault (TypeExpr (InvalidType (codes "int"))) (from_to 13 14))
row26 = refl

-- a block in a block, both without their Dedents; then one with one
row27 : says Enable at_end (k 0 2 tokens.If ∷ n 3 4 (codes "a") ∷ k 4 5 tokens.Colon ∷ k 5 6 Newline ∷ k 6 7 Indent ∷ k 7 9 tokens.If ∷ n 10 11
    (codes "b") ∷ k 11 12 tokens.Colon ∷ k 12 13 Newline ∷ k 13 15 Indent ∷ k 15 19 tokens.Pass ∷ k 19 20 Newline ∷ [])
    ≡ module_of (statement (from_to 0 20) (t.IfThen (name_at 3 4 (codes "a"))
    (statement (from_to 7 20) (t.IfThen (name_at 10 11 (codes "b")) (statement (from_to 15 19) t.Pass)))))
row27 = refl

-- f() = 1, : of two nodes that a newline closes the list begins last
row28 : says Enable at_end (n 0 1 (codes "f") ∷ k 1 2 tokens.OpeningRound ∷ k 2 3 tokens.ClosingRound ∷ k 4 5 tokens.Equal ∷ one 6 7 ∷ k 7 8 tokens.Comma ∷ k
    8 9 Newline ∷ []) ≡ broken_rule (grammar_fault rules.UnparenthesizedTupleTrailingComma (from_to 6 8))
row28 = refl

-- two loops without their Dedents: the inner one begins last
row29 : says Enable at_end (loop (one 4 5) [] ++ k 20 23 tokens.For ∷ k 24 27 (String (codes "s")) ∷ k 28 30 tokens.In ∷ n 31 32
    (codes "z") ∷ k 32 33 tokens.Colon ∷ k 33 34 Newline ∷ k 34 37 Indent ∷ k 37 41 tokens.Pass ∷ k 41 42 Newline ∷ [])
    ≡ broken_rule (grammar_fault rules.InvalidLhs (from_to 24 27))
row29 = refl

-- def f(a: 1): pass, and def f() -> 1: pass
row30 : says Enable at_end (k 0 3 tokens.Def ∷ n 4 5 (codes "f") ∷ k 5 6 tokens.OpeningRound ∷ n 6 7 (codes "a") ∷ k 7 8 tokens.Colon ∷ one 9 10 ∷ k 10 11
    tokens.ClosingRound ∷ k 11 12 tokens.Colon ∷ k 13 17 tokens.Pass ∷ k 17 18 Newline ∷ [])
    ≡ broken_rule (rule_fault (TypeExpr (InvalidType (codes "int"))) (from_to 9 10))
row30 = refl

row31 : says Disable at_end (k 0 3 tokens.Def ∷ n 4 5 (codes "f") ∷ k 5 6 tokens.OpeningRound ∷ k 6 7 tokens.ClosingRound ∷ k 8 10 tokens.MinusGreater ∷ one
    11 12 ∷ k 12 13 tokens.Colon ∷ k 14 18 tokens.Pass ∷ k 18 19 Newline ∷ []) ≡ broken_rule (rule_fault Types (from_to 11 12))
row31 = refl

-- x[1, 1] = 1
row32 : says Enable at_end (n 0 1 (codes "x") ∷ k 1 2 tokens.OpeningSquare ∷ one 2 3 ∷ k 3 4 tokens.Comma ∷ one 5 6 ∷ k 6 7 tokens.ClosingSquare ∷ k 8 9
    tokens.Equal ∷ one 10 11 ∷ k 11 12 Newline ∷ []) ≡ broken_rule (grammar_fault rules.InvalidLhs (from_to 0 7))
row32 = refl

-- return 1,
row33 : says Enable at_end (k 0 6 tokens.Return ∷ one 7 8 ∷ k 8 9 tokens.Comma ∷ k 9 10 Newline ∷ [])
    ≡ broken_rule (grammar_fault rules.UnparenthesizedTupleTrailingComma (from_to 7 9))
row33 = refl

-- a dedent without a block
row34 : says Enable at_end (k 0 4 tokens.Pass ∷ k 4 5 Newline ∷ k 5 5 Dedent ∷ []) ≡ unexpected 5 5
row34 = refl

-- a statement after a loop with its Dedent, and a block of two
row35 : says Enable at_end (loop (n 4 5 (codes "x")) (k 20 25 tokens.Break ∷ k 25 26 Newline ∷ k 27 27 Newline ∷ k 28 28 Dedent ∷ k 28 32 tokens.Pass ∷ k 32
    33 Newline ∷ []))
    ≡ module_of (statement (from_to 0 33) (t.Block (t.statements_of
    (statement (from_to 0 28) (t.For (t.NameTarget (from_to 4 5) (at (codes "x") (from_to 4 5)) tt) y_name
    (statement (from_to 14 27) (t.Block (t.statements_of (statement (from_to 14 18) t.Pass ∷ statement (from_to 20 25) t.Break ∷ []))))) ∷ statement
    (from_to 28 32) t.Pass ∷ []))))
row35 = refl
