-- The contracts of the functions that read statements.
use Rattle.std.specs.Prelude.{◌≡◌, ◌≤◌, ℕ, Bool, true, false, ⊤, List, [], ◌∷◌, ◌++◌, Option, Some, Result, Ok, Err}
use Rattle.std.specs.Iterator.{Count}
use Rattle.starlark_lexer.specs.Tokens.{Span, from_to, lexeme}
use Rattle.starlark_lexer.specs.Tokens as tokens
use Rattle.starlark_lexer.specs.Lexer.{CodeLexeme}
use Rattle.starlark_tree.specs.Ast.{Word, Expression, Statement, statement, no_payload}
use Rattle.starlark_parse_held.specs.declared.statement.HeldStmt.{HeldStmt}
use Rattle.starlark_parse_held.specs.declared.statement.HeldStmts.{HeldStmts}
use Rattle.starlark_parse_held.specs.declared.parameter.HeldParameter.{HeldParameter}
use Rattle.starlark_parse_held.specs.declared.annotation.HeldType.{HeldType}
use Rattle.starlark_parse_held.specs.Held.{expression_of, statement_of, statements_in, other_of, parameter_of, annotation_of}
use Rattle.starlark_lexer.specs.declared.kind.Kind.{Kind}
use Rattle.starlark_lexer.specs.declared.kind.Kind.TheVariants as kinds
use Rattle.starlark_spec.specs.Grammar.{Derivation, right_side}
use Rattle.starlark_spec.specs.Grammar.Nonterminal.{Module, Stmt, Test, LoopVars, Suite, Block, Newlines, Rest, ReturnType, DefParam, Annotation}
use Rattle.starlark_spec.specs.Trees.{tree, end_of_last, block_begin, block_span, one_or_block, if_form}
use Rattle.starlark_lexer.specs.Kinds.{is}
use Rattle.starlark_spec.specs.Machine.States.{Place, State, stmt_for_at, for_vars_at, if_test_at, if_rest_at, elif_test_at}
use Rattle.starlark_spec.specs.Machine.States.{elif_rest_at, suite_block_at, def_param_annotation_at}
use Rattle.starlark_spec.specs.Machine.States.State.{read, done, block_tail}
use Rattle.starlark_spec.specs.Machine.Sight.{look_at}
use Rattle.starlark_spec.specs.declared.refusal.Refusal.{Refusal}
use Rattle.starlark_parse_cursor.specs.declared.cursor.Cursor.{Cursor}
use Rattle.starlark_spec.specs.Refusals.{refused}
use Rattle.starlark_parse_cursor.specs.Reading.{At, at, begin_at, left_at, stop_at, Advances, Ready}
use Rattle.starlark_parse_cursor.specs.Contract.{Goes, Gives, Parses}
use Rattle.starlark_parse.specs.declared.stmt.compound.Branch.{Branch}

abbrev pub IsStmt : HeldStmt → Derivation Stmt → Type 0
IsStmt s d = statement_of s ≡ tree d

-- the statement that was read was added
abbrev pub AddsStmt : HeldStmts → HeldStmts → Derivation Stmt → Type 0
AddsStmt old new d = statements_in new ≡ statements_in old ++ tree d ∷ []

abbrev pub IsSuite : HeldStmt → Derivation Suite → Type 0
IsSuite s d = statement_of s ≡ tree d

abbrev pub IsRest : Option HeldStmt → Derivation Rest → Type 0
IsRest s d = other_of s ≡ tree d

abbrev pub IsReturn : Option HeldType → Derivation ReturnType → Type 0
IsReturn v d = annotation_of v ≡ tree d

abbrev pub IsParam : HeldParameter → Derivation DefParam → Type 0
IsParam x d = parameter_of x ≡ tree d

-- where a block ends
abbrev pub ends_block : Kind → Bool
ends_block kinds.Dedent = true
ends_block kinds.End = true
ends_block _ = false

-- after `if` the condition is due
abbrev pub if_test_due : Span → Place Module Stmt → State Module
if_test_due i p = read Test (if_test_at i p)

-- after `for` the variables are due
abbrev pub for_vars_due : Span → Place Module Stmt → State Module
for_vars_due f p = read LoopVars (for_vars_at f (stmt_for_at p))

-- after the name of a parameter its type is due, which may be absent
abbrev pub type_due : Word → Place Module DefParam → State Module
type_due name p = read Annotation (def_param_annotation_at name.text name.span p)

-- what an `if` or an `elif` is read for, and where its condition is due
pub data Head : Type 0 where
  of_if : Span → Place Module Stmt → Head
  of_elif : Span → Place Module Rest → Head

-- after the keyword its condition is due
abbrev pub condition_due : Head → State Module
condition_due (of_if i p) = read Test (if_test_at i p)
condition_due (of_elif i p) = read Test (elif_test_at i p)

-- and after its suite the rest
abbrev pub rest_due : Head → Derivation Test → Span → Derivation Suite → State Module
rest_due (of_if i p) d c s = read Rest (if_rest_at i d c s p)
rest_due (of_elif i p) d c s = read Rest (elif_rest_at i d c s p)

-- where a cursor is after what cannot fail, and may consume no token
pub record Skips {S : Type 0} (can : S → Type 0) (left : S → Count) (steps : S → Option CodeLexeme → S → Type 0) (a b : Cursor S) : Type 0 where
  pub same_reference : b.lexemes.ghost_name ≡ a.lexemes.ghost_name
  pub ready : Ready can left steps (at b)
  pub fewer : left_at left (at b) ≤ left_at left (at a)
  pub later : a.end.byte ≤ b.end.byte

-- what is seen of a branch: where it begins, its condition and its statements
abbrev pub Seen : Type 0
Seen = ℕ × Expression no_payload × Statement no_payload

abbrev pub branch_seen : Branch → Seen
branch_seen b = (b.begin.byte, expression_of b.condition, statement_of b.body)

-- The statement of the branches: each in the `else` of the one before it, and the last part in that of the last one. All end at the same offset.
abbrev pub folded : List Seen → Option (Statement no_payload) → ℕ → Option (Statement no_payload)
folded [] last end = last
folded (b ∷ bs) last end = Some (statement (from_to b.0 end) (if_form b.1 b.2 (folded bs last end)))

module _ {S : Type 0} (steps : S → Option CodeLexeme → S → Type 0) where
  -- the result of reading a statement, which is added
  abbrev pub ParsesStmt : HeldStmts → HeldStmts → At S → Result ⊤ Refusal → At S → Type 0
  ParsesStmt old new a r b = Parses steps Stmt (λ v d. AddsStmt old new d) a r b

  -- lines without a token
  pub record ReadsNewlines (a b : At S) : Type 0 where
    pub derivation : Derivation Newlines
    pub end_is : b.end ≡ end_of_last (right_side derivation) a.end
    pub goes : (p : Place Module Newlines) → Goes steps (read Newlines p) a (done derivation p) b

  -- a block, whose statement is that of its lines
  pub record FoundBlock (s : HeldStmt) (a b : At S) : Type 0 where
    pub derivation : Derivation Block
    pub means : statement_of s ≡ one_or_block (block_span derivation) (tree derivation)
    pub end_is : (before : ℕ) → b.end ≡ end_of_last (right_side derivation) before
    pub goes : (p : Place Module Block) → Goes steps (read Block p) a (done derivation p) b

  abbrev pub ParsesBlock : At S → Result HeldStmt Refusal → At S → Type 0
  ParsesBlock a r b = Gives steps (λ (p : Place Module Block). read Block p) (λ s. FoundBlock s a) a r b

  -- a block was begun with statements, and may continue
  pub record Begun (a b : At S) (begin : ℕ) (ss : List (Statement no_payload)) : Type 0 where
    pub derivation : Derivation Block
    pub means : tree derivation ≡ ss
    pub begin_is : block_begin derivation ≡ begin
    pub end_is : (before : ℕ) → b.end ≡ end_of_last (right_side derivation) before
    pub goes : (p : Place Module Block) → Goes steps (read Block p) a (block_tail derivation p) b

  -- what opens a block: the end of a line, lines without a token, and an indent
  pub record Opened (a b : At S) : Type 0 where
    pub newline : Span
    pub lines : Derivation Newlines
    pub indent : Span
    pub begin_is : newline.begin ≡ begin_at a
    pub goes : (p : Place Module Suite) → Goes steps (read Suite p) a (read Block (suite_block_at newline lines indent p)) b

  abbrev pub ParsesOpening : At S → Result ⊤ Refusal → At S → Type 0
  ParsesOpening a r b = Gives steps (λ (p : Place Module Suite). read Suite p) (λ v. Opened a) a r b

  -- what closes a block: a dedent, or nothing if the tokens end
  pub data Closed (a b : At S) : Type 0 where
    by_dedent : {x : Span} → Advances steps a (lexeme tokens.Dedent x) b → Closed a b
    by_end : is (look_at a.sight).kind kinds.End ≡ true → b ≡ a → Closed a b

  abbrev pub Closes : At S → Result ⊤ Refusal → At S → Type 0
  Closes a (Ok v) b = Closed a b
  Closes a (Err e) b = (is (look_at a.sight).kind kinds.End ≡ false) × (is (look_at a.sight).kind kinds.Dedent ≡ false) × (refused e ≡ stop_at b) × (b ≡ a)

  -- the condition and the suite of an `if` or an `elif`
  pub record FoundBranch (v : Branch) (a b : At S) : Type 0 where
    pub condition : Derivation Test
    pub colon : Span
    pub body : Derivation Suite
    pub condition_is : expression_of v.condition ≡ tree condition
    pub body_is : statement_of v.body ≡ tree body
    pub end_is : (before : ℕ) → b.end ≡ end_of_last (right_side body) before
    pub goes : (h : Head) → Goes steps (condition_due h) a (rest_due h condition colon body) b

  abbrev pub ParsesBranch : At S → Result Branch Refusal → At S → Type 0
  ParsesBranch a r b = Gives steps condition_due (λ v. FoundBranch v a) a r b
