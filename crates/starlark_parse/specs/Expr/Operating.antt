-- The contracts for consuming operators and `not`s.
use Rattle.std.specs.Prelude.{◌≡◌, ℕ, ◌≤◌, ◌⊎◌, false, true, ⊤, List, [], ◌∷◌, ◌++◌, map, Option, Some, Result, Ok, Err}
use Rattle.std.specs.List.{All}
use Rattle.std.specs.declared.alloc.AllocError.{AllocError}
use Rattle.starlark_lexer.specs.Tokens.{Span, Lexeme, lexeme}
use Rattle.starlark_lexer.specs.Tokens as terminals
use Rattle.starlark_lexer.specs.Lexer.{CodeLexeme}
use Rattle.starlark_tree.specs.declared.ast.operator.BinOp.{BinOp}
use Rattle.starlark_tree.specs.declared.ast.operator.BinOp.TheVariants as operators
use Rattle.starlark_lexer.specs.declared.kind.Kind.TheVariants as kinds
use Rattle.starlark_spec.specs.Grammar.{Nonterminal}
use Rattle.starlark_spec.specs.Grammar.Nonterminal.{Module, Atom, LeftAssociative, Not, Test, Unary}
use Rattle.starlark_spec.specs.Grammar.PrecedenceLevel.{or_precedence}
use Rattle.starlark_lexer.specs.Kinds.{is}
use Rattle.starlark_spec.specs.Machine.States.{Place, not_not_at, test_or_at}
use Rattle.starlark_spec.specs.Machine.States.State.{read}
use Rattle.starlark_spec.specs.Machine.Sight.{look_at}
use Rattle.starlark_spec.specs.Machine.Firsts.{is_leaf}
use Rattle.starlark_parse_build.specs.Operations.{Stack, takes_not, is_vacant, is_comparison, nothing_waits, waits}
use Rattle.starlark_spec.specs.declared.refusal.Refusal.{Refusal}
use Rattle.starlark_spec.specs.Refusals.{refused}
use Rattle.starlark_parse_cursor.specs.Reading.{At, Advances, begin_at, stop_at}
use Rattle.starlark_parse_cursor.specs.Contract.{Goes, Comes, Found, Parses, ParsesFrom}
use Rattle.starlark_parse_held.specs.Held.{expression_of}
use Rattle.starlark_parse_held.specs.declared.expression.HeldExpr.{HeldExpr}
use Rattle.starlark_parse.specs.Expr.Expressions.{IsAtom, IsOr, IsTest}
use Rattle.starlark_parse.specs.Expr.Operators.{IsUnary, binary_operator}

-- the place of the machine after `not`s that were read
abbrev pub after_nots : {b : Nonterminal} → List Span → Place b Not → Place b Not
after_nots [] p = p
after_nots (s ∷ ss) p = after_nots ss (not_not_at s p)

module _ {S : Type 0} (steps : S → Option CodeLexeme → S → Type 0) where
  -- ---- operators

  -- the result of consuming a binary operator: its token, or `not` and `in`
  pub data TakesOperator (o : BinOp) (a b : At S) : Type 0 where
    one_token : {x : Lexeme} → Advances steps a x b → (o ≡ operators.NotIn → ⊥) → TakesOperator o a b
    two_tokens : {s i : Span} {m : At S} → Advances steps a (lexeme terminals.Not s) m → Advances steps m (lexeme terminals.In i) b → o ≡ operators.NotIn
        → TakesOperator o a b

  -- `in` does not come after `not`
  pub record InIsDue (o : BinOp) (a b : At S) : Type 0 where
    pub span : Span
    pub middle : At S
    pub is_not_in : o ≡ operators.NotIn
    pub takes : Advances steps a (lexeme terminals.Not span) middle
    pub no_in : is (look_at middle.sight).kind kinds.In ≡ false
    pub same : b ≡ middle

  abbrev pub Operates : BinOp → At S → Result ⊤ Refusal → At S → Type 0
  Operates o a (Ok u) b = TakesOperator o a b
  Operates o a (Err e) b = InIsDue o a b × (refused e ≡ stop_at b)

  -- The result of consuming the `not`s before an operand: those that wait, and the cursor. None is consumed if one is not allowed.
  pub data TakesNots (w : Stack) (a : At S) (z : Stack) (b : At S) : Type 0 where
    none_may_come : takes_not w ≡ false → z ≡ w → b ≡ a → TakesNots w a z b
    taken : (spans : List Span) → takes_not w ≡ true → z ≡ record w { nots = w.nots ++ map (λ (s : Span). s.begin) spans }
        → All (λ (s : Span). (begin_at a ≤ s.begin) × (s.begin ≤ b.end)) spans
        → is (look_at b.sight).kind kinds.Not ≡ false
        → ((p : Place Module Not) → Goes steps (read Not p) a (read Not (after_nots spans p)) b) → TakesNots w a z b

  -- the same, or memory ran out for one that was consumed
  abbrev pub NotsTaken : Stack → At S → Result ⊤ AllocError → Stack → At S → Type 0
  NotsTaken w a (Ok u) z b = TakesNots w a z b
  NotsTaken w a (Err e) z b = (takes_not w ≡ true) × ((p : Place Module Not) → Comes steps (read Not p) a b)

  -- ---- what was read from a start

  -- Operands, each with an operator after it and perhaps `not`s before it, so that an operand is due; and what waits.
  pub data HasRead (start : At S) : Stack → At S → Type 0 where
    nothing_read : {w : Stack} → w ≡ nothing_waits → HasRead start w start
    operator_read : {w y z : Stack} {a m n b : At S} {begin : ℕ} {c : BinOp} → HasRead start w a → TakesNots w a y m → (o : HeldExpr)
        → Found steps (λ (p : Place Module Unary). read Unary p) begin (IsUnary o) m n → binary_operator (look_at n.sight).kind ≡ Some c
        → is_vacant y.comparison ≡ true ⊎ (is_comparison c ≡ false) → z ≡ waits c n.end (expression_of o) y → TakesOperator c n b → HasRead start z b

  -- the same, and an operand
  pub record OperandRead (start : At S) (w : Stack) (o : HeldExpr) (a : At S) : Type 0 where
    pub waited : Stack
    pub before : At S
    pub due : At S
    pub begin : ℕ
    pub reads : HasRead start waited before
    pub nots : TakesNots waited before w due
    pub operand : Found steps (λ (p : Place Module Unary). read Unary p) begin (IsUnary o) due a

  -- the result of what follows an operand, with what waits for it, for every start
  abbrev pub ParsesOperations : Stack → HeldExpr → At S → Result HeldExpr Refusal → At S → Type 0
  ParsesOperations w o a r b = (start : At S) → OperandRead start w o a → Parses steps (LeftAssociative or_precedence) IsOr start r b

  -- the result of what follows an operand and an operator, if the operand ended at an offset
  abbrev pub ParsesMore : HeldExpr → BinOp → ℕ → At S → Result HeldExpr Refusal → At S → Type 0
  ParsesMore o c end a r b = (start : At S) → HasRead start (waits c end (expression_of o) nothing_waits) a
      → Parses steps (LeftAssociative or_precedence) IsOr start r b

  -- the result of what follows the first operand, wherever that was read from
  abbrev pub ParsesFirst : HeldExpr → At S → Result HeldExpr Refusal → At S → Type 0
  ParsesFirst o a r b = (start : At S) → is (look_at start.sight).kind kinds.Not ≡ false → Parses steps Unary IsUnary start (Ok o) a
      → Parses steps (LeftAssociative or_precedence) IsOr start r b

  -- the same for a whole expression
  abbrev pub ParsesAfterOperand : HeldExpr → At S → Result HeldExpr Refusal → At S → Type 0
  ParsesAfterOperand o a r b = (start : At S) → is (look_at start.sight).kind kinds.Lambda ≡ false → is (look_at start.sight).kind kinds.Not ≡ false
      → Parses steps Unary IsUnary start (Ok o) a → Parses steps Test IsTest start r b

  -- the same after an atom of one token
  abbrev pub ParsesAfterAtom : HeldExpr → At S → Result HeldExpr Refusal → At S → Type 0
  ParsesAfterAtom atom a r b = (start : At S) → is_leaf (look_at start.sight).kind ≡ true → Parses steps Atom IsAtom start (Ok atom) a
      → Parses steps Test IsTest start r b

  -- ---- conditional expressions

  -- the result of what follows a value and `if`, wherever the value was read from
  abbrev pub ParsesIf : HeldExpr → Span → At S → Result HeldExpr Refusal → At S → Type 0
  ParsesIf value sign a r b =
      (start middle : At S) → Parses steps (LeftAssociative or_precedence) IsOr start (Ok value) middle → Advances steps middle (lexeme terminals.If sign) a
      → ParsesFrom steps (λ (p : Place Module Test). read (LeftAssociative or_precedence) (test_or_at p)) (begin_at start) IsTest start r b
