-- A function value that parses statements wherever fewer items are left than a bound.
use Rattle.std.specs.Prelude.{◌<◌, ◌+◌, ℕ, ⊤, Option, Result}
use Rattle.std.specs.Iterator.{Count}
use Rattle.std.specs.declared.alloc.Global.{Global}
use denote.Ref.{MutBor}
use Rattle.starlark_lexer.specs.Lexer.{CodeLexeme}
use Rattle.starlark_parse_held.specs.declared.statement.HeldStmts.{HeldStmts}
use Rattle.starlark_parse_cursor.specs.declared.cursor.Cursor.{Cursor}
use Rattle.starlark_spec.specs.declared.refusal.Refusal.{Refusal}
use Rattle.starlark_parse_cursor.specs.Reading.{at, left_at, Ready}
use Rattle.starlark_parse_cursor.specs.Contract.{MovesOn}
use Rattle.starlark_parse.specs.Stmt.Statements.{ParsesStmt}

-- the predicates of a function that takes a cursor, and statements to which it adds
abbrev pub Pre : Type 0 → Type 1
Pre S = Global → MutBor (Cursor S) → MutBor HeldStmts → Type 0

abbrev pub Post : Type 0 → Type 1
Post S = Global → MutBor (Cursor S) → MutBor HeldStmts → Result ⊤ Refusal → MutBor (Cursor S) → MutBor HeldStmts → Type 0

module _ {S : Type 0} (can : S → Type 0) (left : S → Count) (steps : S → Option CodeLexeme → S → Type 0) where
  -- the contract of a parser of statements, from the cursor and the statements before to those after
  pub record PromisesStatement (old : Cursor S) (before : HeldStmts) (r : Result ⊤ Refusal) (new : Cursor S) (after : HeldStmts) : Type 0 where
    pub moves : MovesOn can left steps old r new
    pub parses : ParsesStmt steps before after (at old) r (at new)

  pub record Nests (bound : ℕ) (pre : Pre S) (post : Post S) : Type 0 where
    pub callable : (alloc : Global) (old : MutBor (Cursor S)) (before : MutBor HeldStmts) → Ready can left steps (at old.now)
        → left_at left (at old.now) < bound
        → pre alloc old before
    pub promises : (alloc : Global) (old new : MutBor (Cursor S)) (before after : MutBor HeldStmts) (r : Result ⊤ Refusal) → post alloc old before r new after
        → PromisesStatement old.now before.now r new.now after.now

  -- it parses wherever fewer items are left than at a cursor
  abbrev pub NestsBelow : Cursor S → Pre S → Post S → Type 0
  NestsBelow c pre post = Nests (left_at left (at c)) pre post

  -- it parses there too
  abbrev pub NestsAt : Cursor S → Pre S → Post S → Type 0
  NestsAt c pre post = Nests (left_at left (at c) + 1) pre post
