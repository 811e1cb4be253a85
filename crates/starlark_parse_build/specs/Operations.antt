-- The operations that wait for their right operand.
use Rattle.std.specs.Prelude.{ℕ, ◌≤◌, Bool, true, false, not, ◌&&◌, List, [], ◌∷◌, ◌++◌, map, Option, Some, None, IfSome}
use Rattle.std.specs.List.{All}
use Rattle.std.specs.Global.{Global}
use Rattle.std.specs.declared.boxed.Box.{Box}
use Rattle.starlark_lexer.specs.Tokens.{from_to}
use Rattle.starlark_lexer.specs.declared.span.Pos.{Pos}
use Rattle.starlark_tree.specs.Ast.{Expression, expression, expression_span, no_payload}
use Rattle.starlark_tree.specs.Ast as t
use Rattle.starlark_tree.specs.declared.ast.operator.BinOp.{BinOp}
use Rattle.starlark_tree.specs.declared.ast.operator.BinOp.TheVariants as operators
use Rattle.starlark_parse_build.specs.declared.operations.Levels.{Levels}
use Rattle.starlark_parse_build.specs.declared.operations.Operations.{Operations}
use Rattle.starlark_parse_build.specs.declared.operations.Waiting.{Waiting}
use Rattle.starlark_spec.specs.Trees.{operation}
use Rattle.starlark_parse_held.specs.Held.{expression_of}

-- how tightly operators bind, from loose to tight
pub data Level : Type 0 where
  or_level and_level comparison_level bit_or_level bit_xor_level bit_and_level shift_level add_level multiply_level : Level

abbrev pub level_of : BinOp → Level
level_of operators.Or = or_level
level_of operators.And = and_level
level_of operators.BitOr = bit_or_level
level_of operators.BitXor = bit_xor_level
level_of operators.BitAnd = bit_and_level
level_of operators.LeftShift = shift_level
level_of operators.RightShift = shift_level
level_of operators.Add = add_level
level_of operators.Subtract = add_level
level_of operators.Multiply = multiply_level
level_of operators.Divide = multiply_level
level_of operators.FloorDivide = multiply_level
level_of operators.Percent = multiply_level
level_of _ = comparison_level

abbrev pub is_comparison : BinOp → Bool
is_comparison operators.Equal = true
is_comparison operators.NotEqual = true
is_comparison operators.Less = true
is_comparison operators.Greater = true
is_comparison operators.LessOrEqual = true
is_comparison operators.GreaterOrEqual = true
is_comparison operators.In = true
is_comparison operators.NotIn = true
is_comparison _ = false

-- a left operand and its operator
pub record Half : Type 0 where
  pub left : Expression no_payload
  pub operator : BinOp

abbrev pub half : Expression no_payload → BinOp → Half
half left operator = record { left = left; operator = operator }

-- what waits: at most one operation of each level, and where the `not`s between `and` and a comparison begin
pub record Stack : Type 0 where
  pub or : Option Half
  pub and : Option Half
  pub nots : List ℕ
  pub comparison : Option Half
  pub bit_or : Option Half
  pub bit_xor : Option Half
  pub bit_and : Option Half
  pub shift : Option Half
  pub add : Option Half
  pub multiply : Option Half

abbrev pub half_of : Waiting → Half
half_of w = half (expression_of w.left) w.operator

abbrev pub halves : Option Waiting → Option Half
halves None = None
halves (Some w) = Some (half_of w)

-- the byte offsets of positions
abbrev pub bytes : List Pos → List ℕ
bytes ps = map (λ (p : Pos). p.byte) ps

abbrev pub levels_of : Levels → Stack
levels_of o = record {
  or = halves o.or;
  and = halves o.and;
  nots = bytes o.nots.items;
  comparison = halves o.comparison;
  bit_or = halves o.bit_or;
  bit_xor = halves o.bit_xor;
  bit_and = halves o.bit_and;
  shift = halves o.shift;
  add = halves o.add;
  multiply = halves o.multiply;
}

-- nothing waits
abbrev pub nothing_waits : Stack
nothing_waits = record {
  or = None;
  and = None;
  nots = [];
  comparison = None;
  bit_or = None;
  bit_xor = None;
  bit_and = None;
  shift = None;
  add = None;
  multiply = None;
}

abbrev pub stack_held : Option (Box Levels Global) → Stack
stack_held None = nothing_waits
stack_held (Some b) = levels_of b.value

abbrev pub stack_of : Operations → Stack
stack_of o = stack_held o.levels

-- a `not` that begins at this offset waits too
abbrev pub with_not : ℕ → Stack → Stack
with_not begin s = record s { nots = s.nots ++ begin ∷ [] }

-- with its right operand
abbrev pub joined : Option Half → Expression no_payload → Expression no_payload
joined None e = e
joined (Some h) e = operation h.left h.operator e

-- after a `not` that begins at an offset, up to an end
abbrev pub not_from : ℕ → ℕ → Expression no_payload → Expression no_payload
not_from begin end e = expression (from_to begin end) (t.Not e)

-- after `not`s that begin at offsets, up to an end; the last is the innermost
abbrev pub negated : List ℕ → ℕ → Expression no_payload → Expression no_payload
negated [] end e = e
negated (begin ∷ begins) end e = not_from begin end (negated begins end e)

-- what is built of an operand and of all that waits down to a level
abbrev pub products : Stack → Expression no_payload → Expression no_payload
products s e = joined s.multiply e

abbrev pub sums : Stack → Expression no_payload → Expression no_payload
sums s e = joined s.add (products s e)

abbrev pub shifts : Stack → Expression no_payload → Expression no_payload
shifts s e = joined s.shift (sums s e)

abbrev pub bit_ands : Stack → Expression no_payload → Expression no_payload
bit_ands s e = joined s.bit_and (shifts s e)

abbrev pub bit_xors : Stack → Expression no_payload → Expression no_payload
bit_xors s e = joined s.bit_xor (bit_ands s e)

abbrev pub bit_ors : Stack → Expression no_payload → Expression no_payload
bit_ors s e = joined s.bit_or (bit_xors s e)

abbrev pub comparisons : Stack → Expression no_payload → Expression no_payload
comparisons s e = joined s.comparison (bit_ors s e)

abbrev pub negations : Stack → ℕ → Expression no_payload → Expression no_payload
negations s end e = negated s.nots end (comparisons s e)

abbrev pub conjunctions : Stack → ℕ → Expression no_payload → Expression no_payload
conjunctions s end e = joined s.and (negations s end e)

abbrev pub disjunctions : Stack → ℕ → Expression no_payload → Expression no_payload
disjunctions s end e = joined s.or (conjunctions s end e)

abbrev pub without_products : Stack → Stack
without_products s = record s { multiply = None }

abbrev pub without_sums : Stack → Stack
without_sums s = record (without_products s) { add = None }

abbrev pub without_shifts : Stack → Stack
without_shifts s = record (without_sums s) { shift = None }

abbrev pub without_bit_ands : Stack → Stack
without_bit_ands s = record (without_shifts s) { bit_and = None }

abbrev pub without_bit_xors : Stack → Stack
without_bit_xors s = record (without_bit_ands s) { bit_xor = None }

abbrev pub without_bit_ors : Stack → Stack
without_bit_ors s = record (without_bit_xors s) { bit_or = None }

abbrev pub without_comparisons : Stack → Stack
without_comparisons s = record (without_bit_ors s) { comparison = None }

abbrev pub without_negations : Stack → Stack
without_negations s = record (without_comparisons s) { nots = [] }

abbrev pub without_conjunctions : Stack → Stack
without_conjunctions s = record (without_negations s) { and = None }

-- What waits once an operator comes after an operand: what binds as tightly, or more, is built, and is its left operand.
abbrev pub waits_at : Level → BinOp → ℕ → Expression no_payload → Stack → Stack
waits_at multiply_level o end e s = record s { multiply = Some (half (products s e) o) }
waits_at add_level o end e s = record (without_products s) { add = Some (half (sums s e) o) }
waits_at shift_level o end e s = record (without_sums s) { shift = Some (half (shifts s e) o) }
waits_at bit_and_level o end e s = record (without_shifts s) { bit_and = Some (half (bit_ands s e) o) }
waits_at bit_xor_level o end e s = record (without_bit_ands s) { bit_xor = Some (half (bit_xors s e) o) }
waits_at bit_or_level o end e s = record (without_bit_xors s) { bit_or = Some (half (bit_ors s e) o) }
waits_at comparison_level o end e s = record (without_bit_ors s) { comparison = Some (half (comparisons s e) o) }
waits_at and_level o end e s = record (without_negations s) { and = Some (half (conjunctions s end e) o) }
waits_at or_level o end e s = record (without_conjunctions s) { or = Some (half (disjunctions s end e) o) }

abbrev pub waits : BinOp → ℕ → Expression no_payload → Stack → Stack
waits o end e s = waits_at (level_of o) o end e s

-- whether nothing waits at a level
abbrev pub is_vacant : {A : Type 0} → Option A → Bool
is_vacant None = true
is_vacant (Some x) = false

-- whether a `not` may come before an operand: nothing waits at the level of comparisons or tighter
abbrev pub takes_not : Stack → Bool
takes_not s = is_vacant s.multiply && is_vacant s.add && is_vacant s.shift && is_vacant s.bit_and && is_vacant s.bit_xor && is_vacant s.bit_or && is_vacant
    s.comparison

-- whether a comparison waits
abbrev pub compares : Stack → Bool
compares s = not (is_vacant s.comparison)

-- a waiting operand begins at such an offset
abbrev pub Begins : (ℕ → Type 0) → Option Half → Type 0
Begins P h = IfSome h (λ h. P (expression_span h.left).begin)

-- all that waits begins at such offsets
pub record Each (P : ℕ → Type 0) (s : Stack) : Type 0 where
  pub or : Begins P s.or
  pub and : Begins P s.and
  pub nots : All P s.nots
  pub comparison : Begins P s.comparison
  pub bit_or : Begins P s.bit_or
  pub bit_xor : Begins P s.bit_xor
  pub bit_and : Begins P s.bit_and
  pub shift : Begins P s.shift
  pub add : Begins P s.add
  pub multiply : Begins P s.multiply

-- all that waits begins no later than an offset, and no earlier than an offset
abbrev pub Before : ℕ → Stack → Type 0
Before n s = Each (λ begin. begin ≤ n) s

abbrev pub After : ℕ → Stack → Type 0
After n s = Each (λ begin. n ≤ begin) s
