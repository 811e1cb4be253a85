-- The contracts of the parser's functions for lines.
use Rattle.std.specs.Prelude.{◌≡◌, ℕ, Bool, true, false, ⊤, List, [], ◌∷◌, ◌++◌, Option, Some, None, Result, Ok, Err}
use Rattle.starlark_lexer.specs.Tokens.{Lexeme, Span, from_to, lexeme}
use Rattle.starlark_lexer.specs.Tokens as terminals
use Rattle.starlark_lexer.specs.Lexer.{CodeLexeme}
use Rattle.starlark_lexer.specs.declared.dialect.DialectTypes.{DialectTypes}
use Rattle.starlark_tree.specs.Ast.{no_payload, Expression, LoadArg, Statement, Word, Assign, NameTarget, expression_span, no_type, statement, typed}
use Rattle.starlark_tree.specs.declared.ast.operator.AssignOp.{AssignOp}
use Rattle.starlark_tree.specs.declared.ast.operator.AssignOp.TheVariants as operators
use Rattle.starlark_lexer.specs.declared.kind.Kind.{Kind}
use Rattle.starlark_lexer.specs.declared.kind.Kind.TheVariants as kinds
use Rattle.starlark_spec.specs.Grammar.{AssignSign, Derivation, yield_of}
use Rattle.starlark_spec.specs.Grammar.Nonterminal.{Module, Test, Atom, TestList, Note, Annotation, Symbols, Sym, Small, Smalls, Simple}
use Rattle.starlark_spec.specs.Grammar.Derivation.{list_plain, list_comma, comma_list_one, comma_list_more}
use Rattle.starlark_spec.specs.Trees.{tree, begin_of, assign_operator}
use Rattle.starlark_lexer.specs.Kinds.{kind_of}
use Rattle.starlark_spec.specs.Machine.Sight.{look_at}
use Rattle.starlark_spec.specs.Machine.Firsts.{assign_at, is_leaf}
use Rattle.starlark_spec.specs.Machine.Faults.{list_fault, note_fault, sym_fault, small_fault}
use Rattle.starlark_spec.specs.Machine.States.{Place, State, Place.simple_smalls_at, Place.small_list_at}
use Rattle.starlark_spec.specs.Machine.States.State.{read, done}
use Rattle.starlark_parse_held.specs.declared.annotation.HeldType.{HeldType}
use Rattle.starlark_parse_held.specs.declared.expression.HeldExpr.{HeldExpr}
use Rattle.starlark_parse_held.specs.declared.load.HeldSymbol.{HeldSymbol}
use Rattle.starlark_parse_held.specs.declared.load.HeldSymbols.{HeldSymbols}
use Rattle.starlark_parse_held.specs.declared.statement.HeldStmt.{HeldStmt}
use Rattle.starlark_parse_held.specs.declared.statement.HeldStmts.{HeldStmts}
use Rattle.starlark_parse_held.specs.Held.{expression_of, type_of, annotation_of, symbol_of, load_args_in, statement_of, statements_in}
use Rattle.starlark_spec.specs.declared.refusal.Refusal.{Refusal}
use Rattle.starlark_spec.specs.Refusals.{refused}
use Rattle.starlark_parse_cursor.specs.Reading.{At, Advances, begin_at, stop_at}
use Rattle.starlark_parse_cursor.specs.Contract.{Found, Goes, Gives, Parses, ParsesFrom}
use Rattle.starlark_parse.specs.Expr.Expressions.{IsAtom, IsTest}
use Rattle.starlark_parse.specs.declared.stmt.test_list.TestList.{TestList as CodeTestList}

-- whether a list without delimiters is more than one expression
abbrev pub has_several : Derivation TestList → Bool
has_several (list_plain (comma_list_one u d)) = false
has_several (list_plain (comma_list_more u d c e)) = true
has_several (list_comma d c) = true

-- the operator of an augmented assignment, if a kind is one
abbrev pub augmented : Kind → Option AssignOp
augmented kinds.PlusEqual = Some operators.Add
augmented kinds.MinusEqual = Some operators.Subtract
augmented kinds.StarEqual = Some operators.Multiply
augmented kinds.SlashEqual = Some operators.Divide
augmented kinds.SlashSlashEqual = Some operators.FloorDivide
augmented kinds.PercentEqual = Some operators.Percent
augmented kinds.AmpersandEqual = Some operators.BitAnd
augmented kinds.PipeEqual = Some operators.BitOr
augmented kinds.CaretEqual = Some operators.BitXor
augmented kinds.LessLessEqual = Some operators.LeftShift
augmented kinds.GreaterGreaterEqual = Some operators.RightShift
augmented _ = None

-- what continues an assignment after its left side: a type, or the operator
abbrev pub assigns : Kind → Bool
assigns kinds.Colon = true
assigns kinds.Equal = true
assigns kinds.PlusEqual = true
assigns kinds.MinusEqual = true
assigns kinds.StarEqual = true
assigns kinds.SlashEqual = true
assigns kinds.SlashSlashEqual = true
assigns kinds.PercentEqual = true
assigns kinds.AmpersandEqual = true
assigns kinds.PipeEqual = true
assigns kinds.CaretEqual = true
assigns kinds.LessLessEqual = true
assigns kinds.GreaterGreaterEqual = true
assigns _ = false

-- a list that a small statement begins with is due
abbrev pub small_list_due : Place Module Small → State Module
small_list_due p = read TestList (small_list_at p)

-- ---- what the code's values mean

abbrev pub IsTestList : CodeTestList → Derivation TestList → Type 0
IsTestList v d = (expression_of v.expression ≡ tree d) × (list_fault d ≡ None) × (v.several ≡ has_several d)

-- a type, as a dialect treats types
abbrev pub IsNote : DialectTypes → HeldType → Derivation Note → Type 0
IsNote types v d = (type_of v ≡ typed (expression_span (tree d)) (tree d) tt) × (note_fault types d ≡ None)

abbrev pub IsAnnotation : Option HeldType → Derivation Annotation → Type 0
IsAnnotation v d = annotation_of v ≡ tree d

abbrev pub IsSymbol : HeldSymbol → Derivation Sym → Type 0
IsSymbol v d = (symbol_of v ≡ tree d) × (sym_fault d ≡ None)

abbrev pub IsSimple : HeldStmt → Derivation Simple → Type 0
IsSimple v d = statement_of v ≡ tree d

-- the small statement that was read was added, and breaks no rule
abbrev pub AddsSmall : HeldStmts → HeldStmts → Derivation Small → Type 0
AddsSmall old new d = (statements_in new ≡ statements_in old ++ tree d ∷ []) × (small_fault d ≡ None)

-- the assignment of a value to a name, up to a byte offset
abbrev pub assigned_to : Word → ℕ → Expression no_payload → Statement no_payload
assigned_to name end value = statement (from_to name.span.begin end) (Assign (NameTarget name.span name tt) no_type value)

-- the last of some statements was removed from them, and is alone
abbrev pub TakesLast : HeldStmts → HeldStmts → HeldStmts → Type 0
TakesLast old new taken = (before : List (Statement no_payload)) (last : Statement no_payload) → statements_in old ≡ before ++ last ∷ []
    → (statements_in new ≡ before) × (statements_in taken ≡ last ∷ [])

module _ {S : Type 0} (steps : S → Option CodeLexeme → S → Type 0) where
  -- the symbols of a load, with the commas before and after them
  pub record FoundSymbols (symbols : List (LoadArg no_payload)) (a b : At S) : Type 0 where
    pub derivation : Derivation Symbols
    pub means : symbols ≡ tree derivation
    pub goes : (p : Place Module Symbols) → Goes steps (read Symbols p) a (done derivation p) b

  abbrev pub ParsesSymbols : At S → Result HeldSymbols Refusal → At S → Type 0
  ParsesSymbols a r b = Gives steps (λ (p : Place Module Symbols). read Symbols p) (λ v. FoundSymbols (load_args_in v) a) a r b

  -- the result of reading a small statement, which is added, and of reading the rest of one
  abbrev pub ParsesSmall : HeldStmts → HeldStmts → At S → Result ⊤ Refusal → At S → Type 0
  ParsesSmall old new a r b = Parses steps Small (λ v d. AddsSmall old new d) a r b

  abbrev pub ParsesSmallFrom : (Place Module Small → State Module) → ℕ → HeldStmts → HeldStmts → At S → Result ⊤ Refusal → At S → Type 0
  ParsesSmallFrom from begin old new a r b = ParsesFrom steps from begin (λ v d. AddsSmall old new d) a r b

  -- the result of reading the rest of a list without delimiters, wherever its first expression was read from, which began at `begin`
  abbrev pub ParsesListEnd : HeldExpr → ℕ → At S → Result CodeTestList Refusal → At S → Type 0
  ParsesListEnd first begin a r b = (start : At S) → begin ≡ begin_at start → Found steps (λ (p : Place Module Test). read Test p) (begin_at start)
      (IsTest first) start a
      → Parses steps TestList IsTestList start r b

  -- the same, if an atom of one token was read alone
  abbrev pub ParsesListAfterAtom : HeldExpr → ℕ → At S → Result CodeTestList Refusal → At S → Type 0
  ParsesListAfterAtom atom begin a r b = (start : At S) → begin ≡ begin_at start → is_leaf (look_at start.sight).kind ≡ true
      → Parses steps Atom IsAtom start (Ok atom) a
      → Parses steps TestList IsTestList start r b

  -- the result of reading what follows a list that a small statement begins with, wherever that was read from, which began at `begin`
  abbrev pub ParsesStatementEnd : CodeTestList → ℕ → HeldStmts → HeldStmts → At S → Result ⊤ Refusal → At S → Type 0
  ParsesStatementEnd list begin old new a r b = (start : At S) → begin ≡ begin_at start → Parses steps TestList IsTestList start (Ok list) a
      → ParsesSmallFrom small_list_due (begin_at start) old new start r b

  -- the result of reading the value that is assigned to a name, wherever the name and `=` were read from
  abbrev pub ParsesAssigned : Word → HeldStmts → HeldStmts → At S → Result ⊤ Refusal → At S → Type 0
  ParsesAssigned name old new a r b = (start middle : At S) (sign : Span) → Advances steps start (lexeme (terminals.Identifier name.text) name.span) middle
      → Advances steps middle (lexeme terminals.Equal sign) a → ParsesSmallFrom small_list_due (begin_at start) old new start r b

  -- the result of reading what follows the left side of an assignment, whatever list that is
  abbrev pub ParsesAssignment : HeldExpr → ℕ → HeldStmts → HeldStmts → At S → Result ⊤ Refusal → At S → Type 0
  ParsesAssignment left begin old new a r b =
      (d : Derivation TestList) → (expression_of left ≡ tree d) → (list_fault d ≡ None) → ((rest : List Lexeme) → begin_of (yield_of d rest) ≡ begin)
      → ParsesSmallFrom (λ (p : Place Module Small). done d (small_list_at p)) begin old new a r b

  -- small statements were read, with `;` between them
  pub record SmallsRead (a b : At S) (ss : List (Statement no_payload)) : Type 0 where
    pub derivation : Derivation Smalls
    pub means : ss ≡ tree derivation
    pub begin_is : (rest : List Lexeme) → begin_of (yield_of derivation rest) ≡ begin_at a
    pub goes : (p : Place Module Simple) → Goes steps (read Simple p) a (done derivation (simple_smalls_at p)) b

  -- the result of reading a line, whose statement is added to those before it
  abbrev pub ParsesLineAfter : List (Statement no_payload) → HeldStmts → At S → Result ⊤ Refusal → At S → Type 0
  ParsesLineAfter before new a r b = Parses steps Simple (λ v d. statements_in new ≡ before ++ tree d ∷ []) a r b

  abbrev pub ParsesLine : HeldStmts → HeldStmts → At S → Result ⊤ Refusal → At S → Type 0
  ParsesLine old new a r b = ParsesLineAfter (statements_in old) new a r b

  -- the result of reading a line to its end, wherever its first small statement was read from, which is the last of those that are there
  abbrev pub ParsesLineEnd : ℕ → HeldStmts → HeldStmts → At S → Result ⊤ Refusal → At S → Type 0
  ParsesLineEnd begin old new a r b =
      (before : List (Statement no_payload)) (first : Statement no_payload) (start : At S) → statements_in old ≡ before ++ first ∷ []
      → begin ≡ begin_at start → SmallsRead start a (first ∷ []) → ParsesLineAfter before new start r b

  -- the result of consuming the operator of an assignment
  abbrev pub TakesAssignOperator : At S → Result (Option AssignOp) Refusal → At S → Type 0
  TakesAssignOperator a (Ok operator) b =
      (x : Lexeme) × (sign : AssignSign) × Advances steps a x b × (assign_at (kind_of x.token) ≡ Some sign) × (operator ≡ assign_operator sign)
  TakesAssignOperator a (Err e) b = (assign_at (look_at a.sight).kind ≡ None) × (refused e ≡ stop_at b) × (b ≡ a)
