-- Where what waits begins, and what is built of it.
use Rattle.std.proofs.Common.{ℕ, List, [], ◌∷◌, ◌++◌, map, Option, Some, None}
use Rattle.std.specs.List.{All}
use Rattle.std.proofs.lemmas.List.Elements.{All-nil, All-head, All-append, All-map, All-weaker}
use Rattle.starlark_lexer.specs.Tokens.{Span}
use Rattle.starlark_tree.specs.Ast.{Expression, expression_span, no_payload}
use Rattle.starlark_tree.specs.declared.ast.operator.BinOp.{BinOp}
use Rattle.starlark_parse_build.specs.Operations.{Level, level_of, Half, Stack, joined, negated, products, sums, shifts, bit_ands, bit_xors, bit_ors}
use Rattle.starlark_parse_build.specs.Operations.{comparisons, negations, conjunctions, disjunctions, waits_at, waits, nothing_waits, Begins, Each}
use Rattle.starlark_parse_build.specs.Operations.Level.{or_level, and_level, comparison_level, bit_or_level, bit_xor_level, bit_and_level, shift_level}
use Rattle.starlark_parse_build.specs.Operations.Level.{add_level, multiply_level}

abbrev begin_of : Expression no_payload → ℕ
begin_of e = (expression_span e).begin

-- ---- what holds for each offset at which something that waits begins, holds for the start of what is built, and of what waits then

joined_begins : (P : ℕ → Type 0) (h : Option Half) (e : Expression no_payload) → Begins P h → P (begin_of e) → P (begin_of (joined h e))
joined_begins P None e w b = b
joined_begins P (Some h) e w b = w

negated_begins : (P : ℕ → Type 0) (begins : List ℕ) (end : ℕ) (e : Expression no_payload) → All P begins → P (begin_of e) → P (begin_of (negated begins end e))
negated_begins P [] end e w b = b
negated_begins P (x ∷ xs) end e w b = All-head P x xs w

module _ (P : ℕ → Type 0) (s : Stack) (end : ℕ) (e : Expression no_payload) (w : Each P s) (b : P (begin_of e)) where
  products_begin : P (begin_of (products s e))
  products_begin = joined_begins P s.multiply e w.multiply b

  sums_begin : P (begin_of (sums s e))
  sums_begin = joined_begins P s.add (products s e) w.add products_begin

  shifts_begin : P (begin_of (shifts s e))
  shifts_begin = joined_begins P s.shift (sums s e) w.shift sums_begin

  bit_ands_begin : P (begin_of (bit_ands s e))
  bit_ands_begin = joined_begins P s.bit_and (shifts s e) w.bit_and shifts_begin

  bit_xors_begin : P (begin_of (bit_xors s e))
  bit_xors_begin = joined_begins P s.bit_xor (bit_ands s e) w.bit_xor bit_ands_begin

  bit_ors_begin : P (begin_of (bit_ors s e))
  bit_ors_begin = joined_begins P s.bit_or (bit_xors s e) w.bit_or bit_xors_begin

  comparisons_begin : P (begin_of (comparisons s e))
  comparisons_begin = joined_begins P s.comparison (bit_ors s e) w.comparison bit_ors_begin

  negations_begin : P (begin_of (negations s end e))
  negations_begin = negated_begins P s.nots end (comparisons s e) w.nots comparisons_begin

  conjunctions_begin : P (begin_of (conjunctions s end e))
  conjunctions_begin = joined_begins P s.and (negations s end e) w.and negations_begin

  disjunctions_begin : P (begin_of (disjunctions s end e))
  disjunctions_begin = joined_begins P s.or (conjunctions s end e) w.or conjunctions_begin

  waits_at_begin : (l : Level) (o : BinOp) → Each P (waits_at l o end e s)
  waits_at_begin or_level o = record {
    or = disjunctions_begin;
    and = tt;
    nots = All-nil P;
    comparison = tt;
    bit_or = tt;
    bit_xor = tt;
    bit_and = tt;
    shift = tt;
    add = tt;
    multiply = tt;
  }
  waits_at_begin and_level o = record {
    or = w.or;
    and = conjunctions_begin;
    nots = All-nil P;
    comparison = tt;
    bit_or = tt;
    bit_xor = tt;
    bit_and = tt;
    shift = tt;
    add = tt;
    multiply = tt;
  }
  waits_at_begin comparison_level o = record {
    or = w.or;
    and = w.and;
    nots = w.nots;
    comparison = comparisons_begin;
    bit_or = tt;
    bit_xor = tt;
    bit_and = tt;
    shift = tt;
    add = tt;
    multiply = tt;
  }
  waits_at_begin bit_or_level o = record {
    or = w.or;
    and = w.and;
    nots = w.nots;
    comparison = w.comparison;
    bit_or = bit_ors_begin;
    bit_xor = tt;
    bit_and = tt;
    shift = tt;
    add = tt;
    multiply = tt;
  }
  waits_at_begin bit_xor_level o = record {
    or = w.or;
    and = w.and;
    nots = w.nots;
    comparison = w.comparison;
    bit_or = w.bit_or;
    bit_xor = bit_xors_begin;
    bit_and = tt;
    shift = tt;
    add = tt;
    multiply = tt;
  }
  waits_at_begin bit_and_level o = record {
    or = w.or;
    and = w.and;
    nots = w.nots;
    comparison = w.comparison;
    bit_or = w.bit_or;
    bit_xor = w.bit_xor;
    bit_and = bit_ands_begin;
    shift = tt;
    add = tt;
    multiply = tt;
  }
  waits_at_begin shift_level o = record {
    or = w.or;
    and = w.and;
    nots = w.nots;
    comparison = w.comparison;
    bit_or = w.bit_or;
    bit_xor = w.bit_xor;
    bit_and = w.bit_and;
    shift = shifts_begin;
    add = tt;
    multiply = tt;
  }
  waits_at_begin add_level o = record {
    or = w.or;
    and = w.and;
    nots = w.nots;
    comparison = w.comparison;
    bit_or = w.bit_or;
    bit_xor = w.bit_xor;
    bit_and = w.bit_and;
    shift = w.shift;
    add = sums_begin;
    multiply = tt;
  }
  waits_at_begin multiply_level o = record {
    or = w.or;
    and = w.and;
    nots = w.nots;
    comparison = w.comparison;
    bit_or = w.bit_or;
    bit_xor = w.bit_xor;
    bit_and = w.bit_and;
    shift = w.shift;
    add = w.add;
    multiply = products_begin;
  }

begins_weaker : (P Q : ℕ → Type 0) → ((b : ℕ) → P b → Q b) → (h : Option Half) → Begins P h → Begins Q h
begins_weaker P Q f None w = tt
begins_weaker P Q f (Some h) w = f _ w

module _ (P : ℕ → Type 0) where
  pub each_nothing : Each P nothing_waits
  each_nothing = record {
    or = tt;
    and = tt;
    nots = All-nil P;
    comparison = tt;
    bit_or = tt;
    bit_xor = tt;
    bit_and = tt;
    shift = tt;
    add = tt;
    multiply = tt;
  }

  pub each_weaker : (Q : ℕ → Type 0) → ((b : ℕ) → P b → Q b) → (s : Stack) → Each P s → Each Q s
  each_weaker Q f s w = record {
    or = begins_weaker P Q f s.or w.or;
    and = begins_weaker P Q f s.and w.and;
    nots = All-weaker P Q f s.nots w.nots;
    comparison = begins_weaker P Q f s.comparison w.comparison;
    bit_or = begins_weaker P Q f s.bit_or w.bit_or;
    bit_xor = begins_weaker P Q f s.bit_xor w.bit_xor;
    bit_and = begins_weaker P Q f s.bit_and w.bit_and;
    shift = begins_weaker P Q f s.shift w.shift;
    add = begins_weaker P Q f s.add w.add;
    multiply = begins_weaker P Q f s.multiply w.multiply;
  }

  -- more `not`s
  pub each_nots : (s : Stack) (spans : List Span) → Each P s → All (λ (x : Span). P x.begin) spans
      → Each P (record s { nots = s.nots ++ map (λ (x : Span). x.begin) spans })
  each_nots s spans w b = record {
    or = w.or;
    and = w.and;
    nots = All-append P s.nots (map (λ (x : Span). x.begin) spans) w.nots (All-map P (λ (x : Span). x.begin) spans b);
    comparison = w.comparison;
    bit_or = w.bit_or;
    bit_xor = w.bit_xor;
    bit_and = w.bit_and;
    shift = w.shift;
    add = w.add;
    multiply = w.multiply;
  }

  pub each_waits : (s : Stack) (o : BinOp) (end : ℕ) (e : Expression no_payload) → Each P s → P (expression_span e).begin → Each P (waits o end e s)
  each_waits s o end e w b = waits_at_begin P s end e w b (level_of o) o

  pub each_built : (s : Stack) (end : ℕ) (e : Expression no_payload) → Each P s → P (expression_span e).begin → P (expression_span (disjunctions s end e)).begin
  each_built s end e w b = disjunctions_begin P s end e w b
