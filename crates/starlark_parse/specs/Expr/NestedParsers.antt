-- A function value that parses expressions wherever fewer items are left than a bound.
use Rattle.std.specs.Prelude.{◌+◌, ◌<◌, ◌≤◌, ℕ, ⊤, Option, Result, IfOk}
use Rattle.std.specs.Iterator.{Count}
use Rattle.std.specs.declared.alloc.Global.{Global}
use denote.Ref.{MutBor}
use Rattle.starlark_lexer.specs.Lexer.{CodeLexeme}
use Rattle.starlark_spec.specs.Grammar.Nonterminal.{Test, LeftAssociative}
use Rattle.starlark_spec.specs.Grammar.PrecedenceLevel.{or_precedence, bit_or_precedence}
use Rattle.starlark_parse_held.specs.declared.expression.HeldExpr.{HeldExpr}
use Rattle.starlark_parse_cursor.specs.declared.cursor.Cursor.{Cursor}
use Rattle.starlark_spec.specs.declared.refusal.Refusal.{Refusal}
use Rattle.starlark_parse_cursor.specs.Reading.{At, at, begin_at, left_at, Ready}
use Rattle.starlark_parse_cursor.specs.Contract.{MayMove, MovesOn, Parses}
use Rattle.starlark_parse.specs.Expr.Expressions.{IsTest, IsOr, IsBitOr, Lies}
use Rattle.starlark_parse.specs.Expr.Operating.{ParsesAfterAtom}
use Rattle.starlark_parse.specs.declared.expr.rules.Level.{Level}
use Rattle.starlark_parse.specs.declared.expr.rules.Level.TheVariants as levels

-- the result of reading an expression of a level
abbrev pub ParsesLevel : {S : Type 0} → (S → Option CodeLexeme → S → Type 0) → Level → At S → Result HeldExpr Refusal → At S → Type 0
ParsesLevel steps levels.Test a r b = Parses steps Test IsTest a r b
ParsesLevel steps (levels.After atom) a r b = ParsesAfterAtom steps atom a r b
ParsesLevel steps levels.Or a r b = Parses steps (LeftAssociative or_precedence) IsOr a r b
ParsesLevel steps levels.BitOr a r b = Parses steps (LeftAssociative bit_or_precedence) IsBitOr a r b

-- what was consumed of an expression of a level ended no later than an offset
abbrev pub IsBegun : Level → ℕ → Type 0
IsBegun levels.Test end = ⊤
IsBegun (levels.After atom) end = atom.tree.value.span.end.byte ≤ end
IsBegun levels.Or end = ⊤
IsBegun levels.BitOr end = ⊤

-- where it begins, if the item that comes next begins at an offset
abbrev pub begin_of_level : Level → ℕ → ℕ
begin_of_level levels.Test begin = begin
begin_of_level (levels.After atom) begin = atom.tree.value.span.begin.byte
begin_of_level levels.Or begin = begin
begin_of_level levels.BitOr begin = begin

module _ {S : Type 0} (can : S → Type 0) (left : S → Count) (steps : S → Option CodeLexeme → S → Type 0) where
  -- where the cursor is after it
  abbrev pub MovesLevel : Level → Cursor S → Result HeldExpr Refusal → Cursor S → Type 0
  MovesLevel levels.Test a r b = MovesOn can left steps a r b
  MovesLevel (levels.After atom) a r b = MayMove can left steps a r b
  MovesLevel levels.Or a r b = MovesOn can left steps a r b
  MovesLevel levels.BitOr a r b = MovesOn can left steps a r b

  -- the contract of a parser of expressions
  pub record PromisesLevel (level : Level) (old : Cursor S) (r : Result HeldExpr Refusal) (new : Cursor S) : Type 0 where
    pub moves : MovesLevel level old r new
    pub parses : ParsesLevel steps level (at old) r (at new)
    pub inside : IfOk r (Lies (begin_of_level level (begin_at (at old))) new.end.byte)

  pub record Nests (bound : ℕ) (pre : Global → MutBor (Cursor S) → Level → Type 0)
      (post : Global → MutBor (Cursor S) → Level → Result HeldExpr Refusal → MutBor (Cursor S) → Type 0) : Type 0 where
    pub callable : (alloc : Global) (old : MutBor (Cursor S)) (level : Level)
        → Ready can left steps (at old.now) → left_at left (at old.now) < bound → IsBegun level old.now.end.byte → pre alloc old level
    pub promises : (alloc : Global) (old new : MutBor (Cursor S)) (level : Level) (r : Result HeldExpr Refusal)
        → post alloc old level r new → PromisesLevel level old.now r new.now

  -- it may be called if no more items are left than at a cursor; then: only if fewer are
  abbrev pub NestsInside : At S → (Global → MutBor (Cursor S) → Level → Type 0)
      → (Global → MutBor (Cursor S) → Level → Result HeldExpr Refusal → MutBor (Cursor S) → Type 0) → Type 0
  NestsInside a pre post = Nests (left_at left a + 1) pre post

  abbrev pub NestsBelow : At S → (Global → MutBor (Cursor S) → Level → Type 0)
      → (Global → MutBor (Cursor S) → Level → Result HeldExpr Refusal → MutBor (Cursor S) → Type 0) → Type 0
  NestsBelow a pre post = Nests (left_at left a) pre post
