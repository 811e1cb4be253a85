-- A function value that replaces the operators of expressions.
use Rattle.std.specs.Prelude.{◌≤◌, ◌+◌, ℕ, List as Seq, Result, String}
use Rattle.std.specs.Global.{Global}
use Rattle.std.specs.HashMap.{HashMap}
use Rattle.std.specs.List.{sum_by}
use Rattle.std.specs.declared.alloc.AllocError.{AllocError}
use denote.Ref.{Bor, MutBor}
use Rattle.starlark_lexer.specs.declared.span.Spanned.{Spanned}
use Rattle.starlark_tree.specs.declared.ast.ExprP.{ExprP}
use Rattle.starlark_tree.specs.declared.ast.StmtP.{StmtP}
use Rattle.starlark_tree.specs.Ast as t
use Rattle.starlark_tree.specs.Ast.{no_payload}
use Rattle.starlark_tree.specs.Inside.{inside}
use Rattle.starlark_tree.specs.Views.{expression_of, statement_of}
use Rattle.starlark_passes.specs.Replace.Replacing.{table_of}
use Rattle.starlark_passes.specs.Replace.Parts.{Replaces, a_statement, an_expression}

-- An operation counts twice, since its call has the function's name as one expression more.
abbrev pub weight : t.Expression no_payload → ℕ
weight (t.expression s (t.Op l op r)) = 2
weight (t.expression s other) = 1

abbrev pub weights : Seq (t.Expression no_payload) → ℕ
weights es = sum_by weight es

-- an expression in memory
abbrev pub InMemory : Type 0 → Type 0
InMemory P = Spanned (ExprP P (Unit {0}) (Unit {0}) (Unit {0}) (Unit {0}) (Unit {0}))

-- It may be called at each expression that weighs no more than some expressions, and replaces its operators.
pub record Enters {P A B S : Type 0} (places : Seq (t.Expression no_payload))
    (pre : Global → MutBor (InMemory P) → Bor (HashMap (String A) (String B) S) → Type 0)
    (post : Global → MutBor (InMemory P) → Bor (HashMap (String A) (String B) S) → Result (Unit {0}) AllocError → MutBor (InMemory P) → Type 0) : Type 0 where
  pub may : (alloc : Global) (e : MutBor (InMemory P)) (m : Bor (HashMap (String A) (String B) S)) → weights (inside (expression_of e.now)) ≤ weights places
      → pre alloc e m
  pub replaces : (alloc : Global) (e : MutBor (InMemory P)) (m : Bor (HashMap (String A) (String B) S)) (r : Result (Unit {0}) AllocError)
      (f : MutBor (InMemory P))
      → post alloc e m r f → Replaces (table_of m.now) (an_expression (table_of m.now)) r (expression_of e.now) (expression_of f.now)

-- how many statements are in one
abbrev mutual
  pub statements_in : t.Statement no_payload → ℕ
  statements_in (t.statement s form) = 1 + statements_in_form form

  pub statements_in_form : t.Form no_payload → ℕ
  statements_in_form (t.Block ss) = all_statements_in ss
  statements_in_form (t.IfThen e s) = statements_in s
  statements_in_form (t.IfElse e s other) = statements_in s + statements_in other
  statements_in_form (t.For x e s) = statements_in s
  statements_in_form (t.Def w p ps ty s q) = statements_in s
  statements_in_form other = 0

  pub all_statements_in : t.Statements no_payload → ℕ
  all_statements_in t.no_statements = 0
  all_statements_in (t.statements s ss) = statements_in s + all_statements_in ss

abbrev pub StatementInMemory : Type 0 → Type 0
StatementInMemory P = Spanned (StmtP P (Unit {0}) (Unit {0}) (Unit {0}) (Unit {0}) (Unit {0}))

-- It may be called at each statement that has no more statements in it than a number, and replaces its operators.
pub record EntersStatements {P A B S : Type 0} (most : ℕ)
    (pre : Global → MutBor (StatementInMemory P) → Bor (HashMap (String A) (String B) S) → Type 0)
    (post : Global → MutBor (StatementInMemory P) → Bor (HashMap (String A) (String B) S) → Result (Unit {0}) AllocError → MutBor (StatementInMemory P)
    → Type 0) : Type 0 where
  pub may : (alloc : Global) (s : MutBor (StatementInMemory P)) (m : Bor (HashMap (String A) (String B) S)) → statements_in (statement_of s.now) ≤ most
      → pre alloc s m
  pub replaces : (alloc : Global) (s : MutBor (StatementInMemory P)) (m : Bor (HashMap (String A) (String B) S)) (r : Result (Unit {0}) AllocError)
      (f : MutBor (StatementInMemory P))
      → post alloc s m r f → Replaces (table_of m.now) (a_statement (table_of m.now)) r (statement_of s.now) (statement_of f.now)
