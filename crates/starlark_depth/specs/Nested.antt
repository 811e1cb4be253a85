-- What code counts of what is open.
use Rattle.std.specs.Prelude.{◌≡◌, ℕ, ◌≤◌, ◌<◌, reverse, if◌then◌else◌, false, List, [], ◌∷◌, All, Result, Ok, Err}
use Rattle.std.specs.Bool.{⊤}
use Rattle.starlark_lexer.specs.declared.kind.Kind.{Kind}
use Rattle.starlark_depth.specs.Depths.{Line, State, line_at, line_depth, starts_no_line, state_depth, step, effect_of}
use Rattle.starlark_depth.specs.declared.levels.Levels.{Levels}
use Rattle.starlark_depth.specs.declared.levels.Refused.{Refused}
use Rattle.starlark_depth.specs.declared.levels.Refused.TheVariants.{TooDeep, OutOfMemory}
use Rattle.starlark_depth.specs.declared.nesting.Nesting.{Nesting}
use Rattle.starlark_depth.specs.declared.nesting.StatementDepth.{StatementDepth}

abbrev pub line_in : Levels → Line
line_in l = record { innermost = l.innermost; outer = reverse l.outer.items }

-- A call leaves these levels, and refuses if one of them is deeper than n. Out of memory says nothing.
abbrev pub IsLineOutcome : ℕ → Line → {A : Type 0} → Result A Refused → Levels → Type 0
IsLineOutcome n goal (Ok x) levels = line_in levels ≡ goal
IsLineOutcome n goal (Err TooDeep) levels = n < line_depth goal
IsLineOutcome n goal (Err OutOfMemory) levels = ⊤

-- If the next token starts a line, the levels of the line before mean nothing.
abbrev pub nested_in : Nesting → State
nested_in n = record {
  line = if n.line_starts then line_at n.statement.own else line_in n.levels;
  statement = n.statement;
  around = reverse n.around.items;
  line_starts = n.line_starts;
}

-- the state after some tokens
abbrev pub steps : List Kind → State → State
steps [] s = s
steps (k ∷ ks) s = steps ks (step (effect_of k) s)

-- the state after tokens that are not counted
abbrev pub counted : Nesting → List Kind → State
counted n ks = steps ks (nested_in n)

-- A call leaves this state, and refuses if something in it is deeper than n. Out of memory says nothing.
abbrev pub IsOutcome : ℕ → State → {A : Type 0} → Result A Refused → State → Type 0
IsOutcome n goal (Ok x) s = s ≡ goal
IsOutcome n goal (Err TooDeep) s = n < state_depth goal
IsOutcome n goal (Err OutOfMemory) s = ⊤

-- a token that is not a comment, and neither starts nor ends a line
abbrev pub IsPlain : Kind → Type 0
IsPlain k = starts_no_line (effect_of k) ≡ false

-- a statement that is no deeper than n
abbrev pub IsStatement : ℕ → StatementDepth → Type 0
IsStatement n s = (s.block ≤ s.own) × (s.own ≤ n)

-- nothing is deeper than n
abbrev pub IsNested : ℕ → Nesting → Type 0
IsNested n s = (s.statement.block ≤ s.statement.own) × (state_depth (nested_in s) ≤ n) × All (IsStatement n) s.around.items
