-- The source of statements, line by line.
use Rattle.std.specs.Prelude.{ℕ, ◌+◌, ◌*◌, List as Seq, [], ◌∷◌, ◌++◌, Bool, true, if◌then◌else◌, Option, Some, None, flat_map, ◌≡◌, Result, Ok, Err}
use Rattle.std.specs.Str.{bytes_eq}
use Rattle.starlark_lexer.specs.Tokens.{Text, Span, span_of, Terminal, String, Semicolon, Colon, Newline, Indent, Dedent}
use Rattle.starlark_lexer.specs.Tokens as tokens
use Rattle.starlark_tree.specs.Ast as t
use Rattle.starlark_tree.specs.Ast.{Payloads, Word, statement}
use Rattle.starlark_tree.specs.declared.ast.operator.AssignOp.{AssignOp}
use Rattle.starlark_tree.specs.declared.ast.operator.AssignOp.TheVariants as assign
use Rattle.starlark_source.specs.declared.error.SourceError.{SourceError}
use Rattle.starlark_source.specs.declared.error.SourceError.TheVariants as errors
use Rattle.starlark_source.specs.Pieces.{Pieces, Piece, token, blank, unsayable, said, separated, comma, listed, in_round, between}
use Rattle.starlark_source.specs.Literals.{name}
use Rattle.starlark_source.specs.Source.{colon, test, test_list, target_source, maybe_type_source, parameter_sources}

abbrev pub assign_operator : AssignOp → Pieces
assign_operator assign.Add = between tokens.PlusEqual
assign_operator assign.Subtract = between tokens.MinusEqual
assign_operator assign.Multiply = between tokens.StarEqual
assign_operator assign.Divide = between tokens.SlashEqual
assign_operator assign.FloorDivide = between tokens.SlashSlashEqual
assign_operator assign.Percent = between tokens.PercentEqual
assign_operator assign.BitAnd = between tokens.AmpersandEqual
assign_operator assign.BitOr = between tokens.PipeEqual
assign_operator assign.BitXor = between tokens.CaretEqual
assign_operator assign.LeftShift = between tokens.LessLessEqual
assign_operator assign.RightShift = between tokens.GreaterGreaterEqual

-- a tuple of targets has no type
abbrev pub target_type : {P : Payloads} → t.Target P → t.MaybeType P → Pieces
target_type x t.no_type = []
target_type (t.TupleTarget s xs) (t.typed r e p) = unsayable r ∷ []
target_type x (t.typed r e p) = colon ++ test e

-- a tuple of targets cannot have an augmented assignment
abbrev pub modified : {P : Payloads} → t.Target P → Pieces
modified (t.TupleTarget s xs) = unsayable s ∷ []
modified x = target_source true x

-- a name that is loaded: one string if both names are the same
abbrev pub load_arg : {P : Payloads} → t.LoadArg P → Pieces
load_arg a =
    if bytes_eq a.local.text a.their.text then token (String a.their.text) ∷ []
    else name a.local ++ (between tokens.Equal ++ token (String a.their.text) ∷ [])

abbrev pub load_args : {P : Payloads} → Seq (t.LoadArg P) → Pieces
load_args args = flat_map (λ a. comma ++ load_arg a) args

-- no text denotes a load without names
abbrev pub load : {P : Payloads} → Span → Word → Seq (t.LoadArg P) → Pieces
load s file [] = unsayable s ∷ []
load s file (a ∷ args) = token tokens.Load ∷ in_round (token (String file.text) ∷ load_args (a ∷ args))

-- a statement within a line; one that has blocks, or consists of several, has lines of its own
abbrev pub small : {P : Payloads} → Span → t.Form P → Pieces
small s t.Break = token tokens.Break ∷ []
small s t.Continue = token tokens.Continue ∷ []
small s t.Pass = token tokens.Pass ∷ []
small s (t.Return None) = token tokens.Return ∷ []
small s (t.Return (Some e)) = token tokens.Return ∷ blank 1 ∷ test_list e
small s (t.Evaluate e) = test e
small s (t.Assign x ty e) = target_source true x ++ (target_type x ty ++ (between tokens.Equal ++ test_list e))
small s (t.AssignModify x operator e) = modified x ++ (assign_operator operator ++ test_list e)
small s (t.Load file args p) = load s file args
small s _ = unsayable s ∷ []

abbrev pub small_source : {P : Payloads} → t.Statement P → Pieces
small_source (statement s form) = small s form

abbrev pub small_sources : {P : Payloads} → t.Statements P → Seq Pieces
small_sources t.no_statements = []
small_sources (t.statements s ss) = small_source s ∷ small_sources ss

abbrev pub semicolon : Pieces
semicolon = token Semicolon ∷ blank 1 ∷ []

-- small statements in one line; fewer than two are not a line
abbrev pub small_line : {P : Payloads} → Span → t.Statements P → Pieces
small_line s (t.statements a (t.statements b ss)) = separated semicolon (small_source a ∷ small_source b ∷ small_sources ss)
small_line s _ = unsayable s ∷ []

-- four spaces for each block around a line
abbrev pub margin : ℕ → Pieces
margin depth = blank (4 * depth) ∷ []

abbrev pub line : ℕ → Pieces → Pieces
line depth ps = margin depth ++ (ps ++ token Newline ∷ [])

-- a keyword that begins a block, and the condition
abbrev pub tested : {P : Payloads} → Terminal → t.Expression P → Pieces
tested word e = token word ∷ blank 1 ∷ test e

-- the variables of a loop, and what it iterates over
abbrev pub looped : {P : Payloads} → t.Target P → t.Expression P → Pieces
looped x e = token tokens.For ∷ blank 1 ∷ (target_source true x ++ (between tokens.In ++ test e))

-- a definition's name, parameters and return type
abbrev pub defined : {P : Payloads} → Word → t.Parameters P → t.MaybeType P → Pieces
defined w ps ty = token tokens.Def ∷ blank 1 ∷ (name w ++ (in_round (listed (parameter_sources ps)) ++ maybe_type_source (between tokens.MinusGreater) ty))

-- two statements or more
abbrev pub several_lines : Span → Pieces → Seq Pieces → Pieces
several_lines s first [] = unsayable s ∷ []
several_lines s first (second ∷ rest) = first ++ flat_map (λ more. more) (second ∷ rest)

-- where a statement is: as a line of a block, as the block after a colon, or after the block of an `if`
pub data Place : Type 0 where
  as_line as_block as_rest : Place

-- an `if` after the block of another is an `elif`
abbrev pub if_word : Place → Terminal
if_word as_rest = tokens.Elif
if_word _ = tokens.If

-- a colon and the lines of the block after it
abbrev pub suite : Pieces → Pieces
suite block = token Colon ∷ token Newline ∷ token Indent ∷ (block ++ token Dedent ∷ [])

-- the lines at a depth; after the block of an `if` they are the block of an `else`
abbrev pub at_place : Place → ℕ → (ℕ → Pieces) → Pieces
at_place as_line depth lines_at = lines_at depth
at_place as_block depth lines_at = lines_at depth
at_place as_rest depth lines_at = margin depth ++ (token tokens.Else ∷ suite (lines_at (depth + 1)))

-- several statements: small ones in a line, or the lines of a block
abbrev pub several : Place → ℕ → Pieces → (ℕ → Pieces) → Pieces
several as_line depth in_line block_at = line depth in_line
several as_block depth in_line block_at = block_at depth
several as_rest depth in_line block_at = margin depth ++ (token tokens.Else ∷ suite (block_at (depth + 1)))

abbrev mutual
  -- the lines of a statement inside this many blocks
  pub lines : {P : Payloads} → Place → ℕ → t.Statement P → Pieces
  lines place depth (statement s form) = form_lines place depth s form

  pub form_lines : {P : Payloads} → Place → ℕ → Span → t.Form P → Pieces
  form_lines place depth s (t.Block ss) = several place depth (small_line s ss) (λ d. block d s ss)
  form_lines place depth s (t.IfThen e body) = margin depth ++ (tested (if_word place) e ++ suite (lines as_block (depth + 1) body))
  form_lines place depth s (t.IfElse e body other) =
      (margin depth ++ (tested (if_word place) e ++ suite (lines as_block (depth + 1) body))) ++ lines as_rest depth other
  form_lines place depth s (t.For x e body) = at_place place depth (λ d. margin d ++ (looped x e ++ suite (lines as_block (d + 1) body)))
  form_lines place depth s (t.Def w p ps ty body q) = at_place place depth (λ d. margin d ++ (defined w ps ty ++ suite (lines as_block (d + 1) body)))
  form_lines place depth s form = at_place place depth (λ d. line d (small s form))

  -- the lines of a block: `pass` if it is empty; a single statement is not a block
  pub block : {P : Payloads} → ℕ → Span → t.Statements P → Pieces
  block depth s t.no_statements = line depth (token tokens.Pass ∷ [])
  block depth s (t.statements a ss) = several_lines s (lines as_line depth a) (all_lines depth ss)

  pub all_lines : {P : Payloads} → ℕ → t.Statements P → Seq Pieces
  all_lines depth t.no_statements = []
  all_lines depth (t.statements s ss) = lines as_line depth s ∷ all_lines depth ss

-- the lines of a module; an empty one has none
abbrev pub module_form : {P : Payloads} → Span → t.Form P → Pieces
module_form s (t.Block t.no_statements) = []
module_form s form = form_lines as_block 0 s form

abbrev pub module_source : {P : Payloads} → t.Statement P → Pieces
module_source (statement s form) = module_form s form

-- the source of a module's statement, or the first part in the order of the text that no text denotes
abbrev pub source_of : {P : Payloads} → t.Statement P → Result Text Span
source_of s = said (module_source s)

-- an error names the first part that no text denotes, or is out of memory
abbrev pub FaultIs : Result Text Span → SourceError → Type 0
FaultIs source (errors.NotSource s) = source ≡ Err (span_of s)
FaultIs source errors.Memory = Unit {0}
