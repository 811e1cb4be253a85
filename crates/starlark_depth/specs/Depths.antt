-- How deep tokens nest.
use Rattle.std.specs.Prelude.{ℕ, ◌+◌, ◌&&◌, Bool, true, false, not, nat_lt, if◌then◌else◌, max, List, [], ◌∷◌, Option, Some, None}
use Rattle.starlark_lexer.specs.Kinds.{kind_of}
use Rattle.starlark_lexer.specs.Tokens.{Terminal}
use Rattle.starlark_lexer.specs.declared.kind.Kind.{Kind}
use Rattle.starlark_lexer.specs.declared.kind.Kind.TheVariants as kinds
use Rattle.starlark_depth.specs.declared.effect.Effect.{Effect}
use Rattle.starlark_depth.specs.declared.effect.Effect.TheVariants.{Unchanged, Deepen, Open, Lambda, For, In, Colon, Close, Separate, Newline, Indent, Dedent}
use Rattle.starlark_depth.specs.declared.effect.Effect.TheVariants.{Elif, Else, Comment}
use Rattle.starlark_depth.specs.declared.levels.LevelKind.{LevelKind}
use Rattle.starlark_depth.specs.declared.levels.LevelKind.TheVariants.{Ordinary, Parameters, Variables}
use Rattle.starlark_depth.specs.declared.levels.Level.{Level}
use Rattle.starlark_depth.specs.declared.nesting.StatementDepth.{StatementDepth}

-- what a token of a kind does
abbrev pub effect_of : Kind → Effect
effect_of kinds.And = Deepen
effect_of kinds.Or = Deepen
effect_of kinds.Not = Deepen
effect_of kinds.In = In
effect_of kinds.If = Deepen
effect_of kinds.For = For
effect_of kinds.Def = Deepen
effect_of kinds.EqualEqual = Deepen
effect_of kinds.BangEqual = Deepen
effect_of kinds.LessThan = Deepen
effect_of kinds.GreaterThan = Deepen
effect_of kinds.LessEqual = Deepen
effect_of kinds.GreaterEqual = Deepen
effect_of kinds.Pipe = Deepen
effect_of kinds.Caret = Deepen
effect_of kinds.Ampersand = Deepen
effect_of kinds.LessLess = Deepen
effect_of kinds.GreaterGreater = Deepen
effect_of kinds.Plus = Deepen
effect_of kinds.Minus = Deepen
effect_of kinds.Star = Deepen
effect_of kinds.Slash = Deepen
effect_of kinds.SlashSlash = Deepen
effect_of kinds.Percent = Deepen
effect_of kinds.Tilde = Deepen
effect_of kinds.Dot = Deepen
effect_of kinds.OpeningRound = Open
effect_of kinds.OpeningSquare = Open
effect_of kinds.OpeningCurly = Open
effect_of kinds.FStringStart = Open
effect_of kinds.Lambda = Lambda
effect_of kinds.Colon = Colon
effect_of kinds.ClosingRound = Close
effect_of kinds.ClosingSquare = Close
effect_of kinds.ClosingCurly = Close
effect_of kinds.FStringEnd = Close
effect_of kinds.Comma = Separate
effect_of kinds.Semicolon = Separate
effect_of kinds.FStringExprEnd = Separate
effect_of kinds.Newline = Newline
effect_of kinds.Indent = Indent
effect_of kinds.Dedent = Dedent
effect_of kinds.Elif = Elif
effect_of kinds.Else = Else
effect_of kinds.Comment = Comment
effect_of kinds.Identifier = Unchanged
effect_of kinds.Int = Unchanged
effect_of kinds.Float = Unchanged
effect_of kinds.String = Unchanged
effect_of kinds.Bytes = Unchanged
effect_of kinds.FStringText = Unchanged
effect_of kinds.FStringExprStart = Unchanged
effect_of kinds.FStringBang = Unchanged
effect_of kinds.Break = Unchanged
effect_of kinds.Continue = Unchanged
effect_of kinds.Load = Unchanged
effect_of kinds.Pass = Unchanged
effect_of kinds.Return = Unchanged
effect_of kinds.Ellipsis = Unchanged
effect_of kinds.MinusGreater = Unchanged
effect_of kinds.StarStar = Unchanged
effect_of kinds.Equal = Unchanged
effect_of kinds.PlusEqual = Unchanged
effect_of kinds.MinusEqual = Unchanged
effect_of kinds.StarEqual = Unchanged
effect_of kinds.SlashEqual = Unchanged
effect_of kinds.SlashSlashEqual = Unchanged
effect_of kinds.PercentEqual = Unchanged
effect_of kinds.AmpersandEqual = Unchanged
effect_of kinds.PipeEqual = Unchanged
effect_of kinds.CaretEqual = Unchanged
effect_of kinds.LessLessEqual = Unchanged
effect_of kinds.GreaterGreaterEqual = Unchanged
effect_of kinds.Fault = Unchanged
effect_of kinds.End = Unchanged

abbrev pub effect : Terminal → Effect
effect t = effect_of (kind_of t)

-- ---- the levels of a line

-- a level at a depth before its first token
abbrev pub level : LevelKind → ℕ → Level
level kind depth = record { kind = kind; depth = depth; deepest = depth }

-- the levels of a line that are open
pub record Line : Type 0 where
  pub innermost : Level
  pub outer : List Level

-- what follows in the innermost level is one deeper, and so is what was closed in it
abbrev pub deepened : Line → Line
deepened l = record l { innermost = record l.innermost { depth = l.innermost.depth + 1; deepest = l.innermost.deepest + 1 } }

abbrev pub opened : LevelKind → Line → Line
opened kind l = record { innermost = level kind l.innermost.depth; outer = l.innermost ∷ l.outer }

-- a level in which another was closed
abbrev pub with_closed : Level → Level → Level
with_closed outer inner = record outer { deepest = max outer.deepest inner.deepest }

abbrev pub close_in : Level → List Level → Line
close_in inner [] = record { innermost = inner; outer = [] }
close_in inner (l ∷ ls) = record { innermost = with_closed l inner; outer = ls }

-- the innermost level is closed, unless it is the only one
abbrev pub closed : Line → Line
closed l = close_in l.innermost l.outer

-- `in` closes variables
abbrev pub variables_closed : LevelKind → Line → Line
variables_closed Variables l = closed l
variables_closed _ l = l

-- `:` closes parameters
abbrev pub parameters_closed : LevelKind → Line → Line
parameters_closed Parameters l = closed l
parameters_closed _ l = l

-- what a token does to the levels of its line
abbrev pub in_line : Effect → Line → Line
in_line Deepen l = deepened l
in_line Else l = deepened l
in_line Open l = opened Ordinary (deepened l)
in_line Lambda l = opened Parameters (deepened l)
in_line For l = opened Variables (deepened l)
in_line In l = deepened (variables_closed l.innermost.kind l)
in_line Colon l = parameters_closed l.innermost.kind l
in_line Close l = closed l
in_line Separate l = opened l.innermost.kind (closed l)
in_line _ l = l

-- a line at a depth before its first token, and a part of it, which commas and semicolons end
abbrev pub line_at : ℕ → Line
line_at depth = record { innermost = level Ordinary depth; outer = level Ordinary depth ∷ [] }

-- ---- statements

-- a statement of a block at a depth
abbrev pub statement_at : ℕ → StatementDepth
statement_at depth = record { block = depth; own = depth }

-- the statement of a line that starts with such a token, after that of the line before it: another of its block, or the same
abbrev pub statement_of_line : Effect → StatementDepth → StatementDepth
statement_of_line Elif s = record s { own = s.own + 1 }
statement_of_line Else s = s
statement_of_line _ s = statement_at s.block

-- The levels of a line that are open, its statement, the statements around it, the innermost first, and whether the next token starts
-- a line.
pub record State : Type 0 where
  pub line : Line
  pub statement : StatementDepth
  pub around : List StatementDepth
  pub line_starts : Bool

-- a line of a statement before its first token
abbrev pub line_of : StatementDepth → List StatementDepth → Bool → State
line_of s around starts = record { line = line_at s.own; statement = s; around = around; line_starts = starts }

-- whether no line starts with such a token: the next one may
abbrev pub starts_no_line : Effect → Bool
starts_no_line Newline = true
starts_no_line Indent = true
starts_no_line Dedent = true
starts_no_line Comment = true
starts_no_line _ = false

abbrev pub at_line_start : Effect → State → State
at_line_start e s = if s.line_starts && not (starts_no_line e) then line_of (statement_of_line e s.statement) s.around false else s

-- a block ends: the next line may continue the statement around it
abbrev pub dedented : StatementDepth → List StatementDepth → State
dedented s [] = line_of s [] true
dedented s (t ∷ ts) = line_of t ts true

-- what a token does wherever it is
abbrev pub applied : Effect → State → State
applied Newline s = line_of s.statement s.around true
applied Indent s = line_of (statement_at (s.statement.own + 2)) (s.statement ∷ s.around) true
applied Dedent s = dedented s.statement s.around
applied e s = record s { line = in_line e s.line }

-- the state after a token
abbrev pub step : Effect → State → State
step e s = applied e (at_line_start e s)

-- ---- how deep a state is

-- the depth of the next token of a level, or of what was closed in it
abbrev pub reach : Level → ℕ
reach l = max l.depth l.deepest

abbrev pub deepest_level : List Level → ℕ
deepest_level [] = 0
deepest_level (l ∷ ls) = max (reach l) (deepest_level ls)

abbrev pub line_depth : Line → ℕ
line_depth l = deepest_level (l.innermost ∷ l.outer)

abbrev pub state_depth : State → ℕ
state_depth s = max s.statement.own (line_depth s.line)

-- a state, unless something in it is deeper than n
abbrev pub within : ℕ → State → Option State
within n s = if nat_lt n (state_depth s) then None else Some s

-- the state after a token, unless that makes something deeper than n
abbrev pub after_token : ℕ → State → Terminal → Option State
after_token n s t = within n (step (effect t) s)

-- before any token: a line of a statement of the module
abbrev pub start : State
start = line_of (statement_at 0) [] true
