-- The operator stack as derivations: places of the machine, and how it goes up through them.
use Rattle.std.proofs.Common.{◌≡◌, ℕ, ◌<◌, Bool, true, false, ◌&&◌, if◌then◌else◌, List, [], ◌∷◌, map, Option, Some, None, refl, sym, ap, ◌∙◌, subst, arith}
use Rattle.std.proofs.Common.{◌⊎◌, inl, inr}
use Rattle.starlark_lexer.specs.Tokens.{Span, from_to, Lexeme}
use Rattle.starlark_lexer.specs.Lexer.{CodeLexeme}
use Rattle.starlark_lexer.specs.declared.dialect.DialectTypes.{DialectTypes}
use Rattle.starlark_tree.specs.Ast.{Expression, no_payload, expression}
use Rattle.starlark_tree.specs.Ast as t
use Rattle.starlark_tree.specs.declared.ast.operator.BinOp.{BinOp}
use Rattle.starlark_tree.specs.declared.ast.operator.BinOp.TheVariants as operators
use Rattle.starlark_parse_build.specs.Operations.{Half, half, Stack, Level, level_of, joined, negated, products, sums, shifts, bit_ands, bit_xors, bit_ors}
use Rattle.starlark_parse_build.specs.Operations.{comparisons, negations, conjunctions, disjunctions, takes_not, is_vacant, is_comparison}
use Rattle.starlark_parse_build.specs.Operations.Level.{or_level, and_level, comparison_level, bit_or_level, bit_xor_level, bit_and_level, shift_level}
use Rattle.starlark_parse_build.specs.Operations.Level.{add_level, multiply_level}
use Rattle.starlark_lexer.specs.declared.kind.Kind.{Kind}
use Rattle.starlark_lexer.specs.declared.kind.Kind.TheVariants as kinds
use Rattle.starlark_spec.specs.Grammar.{Nonterminal, PrecedenceLevel, OperandOf, Operator, Comparison, CompSign, Derivation, right_side}
use Rattle.starlark_spec.specs.Grammar.PrecedenceLevel.{or_precedence, and_precedence, bit_or_precedence, xor_precedence, bit_and_precedence}
use Rattle.starlark_spec.specs.Grammar.PrecedenceLevel.{shift_precedence, add_precedence, multiply_precedence}
use Rattle.starlark_spec.specs.Grammar.OperandOf.{of_or, of_and, of_bit_or, of_xor, of_bit_and, of_shift, of_add, of_multiply}
use Rattle.starlark_spec.specs.Grammar.Operator.{or_sign, and_sign, pipe, caret, ampersand, less_less, greater_greater, plus, minus, star, slash, slash_slash}
use Rattle.starlark_spec.specs.Grammar.Operator.{percent}
use Rattle.starlark_spec.specs.Grammar.Comparison.{equal, not_equal, less, greater, less_or_equal, greater_or_equal, membership}
use Rattle.starlark_spec.specs.Grammar.Nonterminal.{Module, Not, Comp, Unary, LeftAssociative}
use Rattle.starlark_spec.specs.Grammar.Derivation.{left_one, left_more, not_not, not_comp, comp_one, comp_two}
use Rattle.starlark_spec.specs.Trees.{tree, end_of_last, operand_tree, operator_of, comparison_of, compared_by}
use Rattle.starlark_lexer.specs.Kinds.{is, kind_of}
use Rattle.starlark_spec.specs.Machine.States.{Place, State, Place.left_first_at, Place.left_right_at, Place.not_not_at, Place.not_comp_at}
use Rattle.starlark_spec.specs.Machine.States.{Place.comp_first_at, Place.comp_right_at}
use Rattle.starlark_spec.specs.Machine.States.State.{read, done, left_tail}
use Rattle.starlark_spec.specs.Machine.Faults.{node_fault, in_time, judged}
use Rattle.starlark_spec.specs.Machine.Faults.Ruled.{Moves}
use Rattle.starlark_spec.specs.Machine.Sight.{Look, look_at}
use Rattle.starlark_spec.specs.Machine.Firsts.{operator_at, comparison_at, compares}
use Rattle.starlark_spec.specs.Machine.Moves.{move, operand, is_operand, after_left, after_bit_or}
use Rattle.starlark_parse_cursor.specs.Reading.{At, Advances}
use Rattle.starlark_parse_cursor.specs.Contract.{Goes, Goes.stays, Goes.keeps, Goes.takes}
use Rattle.starlark_parse.specs.Expr.Operating.{after_nots}
use Rattle.starlark_lexer.proofs.KindTests.{is_false}
use Rattle.starlark_parse_cursor.proofs.Paths.{after}
use Rattle.starlark_parse.specs.Expr.Operators.{binary_operator}
use Rattle.starlark_spec.proofs.Constructors.{not_true}

-- a left operand and its operator, or nothing
pub data Slot (k : PrecedenceLevel) : Type 0 where
  vacant : Slot k
  held : Derivation (LeftAssociative k) → Operator k → Span → Slot k

pub data CompSlot : Type 0 where
  no_comp : CompSlot
  held_comp : Derivation (LeftAssociative bit_or_precedence) → CompSign → CompSlot

pub record Held : Type 0 where
  pub or : Slot or_precedence
  pub and : Slot and_precedence
  pub nots : List Span
  pub comp : CompSlot
  pub bit_or : Slot bit_or_precedence
  pub xor : Slot xor_precedence
  pub bit_and : Slot bit_and_precedence
  pub shift : Slot shift_precedence
  pub add : Slot add_precedence
  pub multiply : Slot multiply_precedence

abbrev pub nothing_held : Held
nothing_held = record {
  or = vacant;
  and = vacant;
  nots = [];
  comp = no_comp;
  bit_or = vacant;
  xor = vacant;
  bit_and = vacant;
  shift = vacant;
  add = vacant;
  multiply = vacant;
}

-- ---- what it means

abbrev pub half_in : {k : PrecedenceLevel} → Slot k → Option Half
half_in vacant = None
half_in (held d o s) = Some (half (tree d) (operator_of o))

abbrev pub half_comp : CompSlot → Option Half
half_comp no_comp = None
half_comp (held_comp d o) = Some (half (tree d) (compared_by o))

abbrev pub stack_in : Held → Stack
stack_in h = record {
  or = half_in h.or;
  and = half_in h.and;
  nots = map (λ (s : Span). s.begin) h.nots;
  comparison = half_comp h.comp;
  bit_or = half_in h.bit_or;
  bit_xor = half_in h.xor;
  bit_and = half_in h.bit_and;
  shift = half_in h.shift;
  add = half_in h.add;
  multiply = half_in h.multiply;
}

-- ---- derivations that are built of an operand and what is held

abbrev pub join : {k : PrecedenceLevel} {n : Nonterminal} → Slot k → OperandOf k n → Derivation n → Derivation (LeftAssociative k)
join vacant u e = left_one u e
join (held d o s) u e = left_more u d o s e

abbrev pub join_comp : CompSlot → Derivation (LeftAssociative bit_or_precedence) → Derivation Comp
join_comp no_comp e = comp_one e
join_comp (held_comp d o) e = comp_two d o e

abbrev pub negate : List Span → Derivation Not → Derivation Not
negate [] d = d
negate (s ∷ ss) d = not_not s (negate ss d)

abbrev pub product : Held → Derivation Unary → Derivation (LeftAssociative multiply_precedence)
product h e = join h.multiply of_multiply e

abbrev pub sum : Held → Derivation Unary → Derivation (LeftAssociative add_precedence)
sum h e = join h.add of_add (product h e)

abbrev pub shifted : Held → Derivation Unary → Derivation (LeftAssociative shift_precedence)
shifted h e = join h.shift of_shift (sum h e)

abbrev pub bit_anded : Held → Derivation Unary → Derivation (LeftAssociative bit_and_precedence)
bit_anded h e = join h.bit_and of_bit_and (shifted h e)

abbrev pub xored : Held → Derivation Unary → Derivation (LeftAssociative xor_precedence)
xored h e = join h.xor of_xor (bit_anded h e)

abbrev pub bit_ored : Held → Derivation Unary → Derivation (LeftAssociative bit_or_precedence)
bit_ored h e = join h.bit_or of_bit_or (xored h e)

abbrev pub compared : Held → Derivation Unary → Derivation Comp
compared h e = join_comp h.comp (bit_ored h e)

abbrev pub negation : Held → Derivation Unary → Derivation Not
negation h e = negate h.nots (not_comp (compared h e))

abbrev pub conjunction : Held → Derivation Unary → Derivation (LeftAssociative and_precedence)
conjunction h e = join h.and of_and (negation h e)

abbrev pub disjunction : Held → Derivation Unary → Derivation (LeftAssociative or_precedence)
disjunction h e = join h.or of_or (conjunction h e)

-- ---- places

abbrev pub place_in : {b : Nonterminal} {k : PrecedenceLevel} {n : Nonterminal} → Slot k → OperandOf k n → Place b (LeftAssociative k) → Place b n
place_in vacant u p = left_first_at u p
place_in (held d o s) u p = left_right_at u d o s p

abbrev pub place_comp : {b : Nonterminal} → CompSlot → Place b Comp → Place b (LeftAssociative bit_or_precedence)
place_comp no_comp p = comp_first_at p
place_comp (held_comp d o) p = comp_right_at d o p

module _ {b : Nonterminal} where
  abbrev pub and_at : Held → Place b (LeftAssociative or_precedence) → Place b (LeftAssociative and_precedence)
  and_at h p = place_in h.or of_or p

  abbrev pub not_at : Held → Place b (LeftAssociative or_precedence) → Place b Not
  not_at h p = place_in h.and of_and (and_at h p)

  abbrev pub comp_at : Held → Place b (LeftAssociative or_precedence) → Place b Comp
  comp_at h p = not_comp_at (after_nots h.nots (not_at h p))

  abbrev pub bit_or_at : Held → Place b (LeftAssociative or_precedence) → Place b (LeftAssociative bit_or_precedence)
  bit_or_at h p = place_comp h.comp (comp_at h p)

  -- from BitOr down
  abbrev pub xor_at : Held → Place b (LeftAssociative bit_or_precedence) → Place b (LeftAssociative xor_precedence)
  xor_at h q = place_in h.bit_or of_bit_or q

  abbrev pub bit_and_at : Held → Place b (LeftAssociative bit_or_precedence) → Place b (LeftAssociative bit_and_precedence)
  bit_and_at h q = place_in h.xor of_xor (xor_at h q)

  abbrev pub shift_at : Held → Place b (LeftAssociative bit_or_precedence) → Place b (LeftAssociative shift_precedence)
  shift_at h q = place_in h.bit_and of_bit_and (bit_and_at h q)

  abbrev pub add_at : Held → Place b (LeftAssociative bit_or_precedence) → Place b (LeftAssociative add_precedence)
  add_at h q = place_in h.shift of_shift (shift_at h q)

  abbrev pub multiply_at : Held → Place b (LeftAssociative bit_or_precedence) → Place b (LeftAssociative multiply_precedence)
  multiply_at h q = place_in h.add of_add (add_at h q)

  abbrev pub inner_at : Held → Place b (LeftAssociative bit_or_precedence) → Place b Unary
  inner_at h q = place_in h.multiply of_multiply (multiply_at h q)

  abbrev pub unary_at : Held → Place b (LeftAssociative or_precedence) → Place b Unary
  unary_at h p = inner_at h (bit_or_at h p)

-- nothing is held at the level of comparisons or tighter
abbrev pub is_open : Held → Bool
is_open h = takes_not (stack_in h)

-- where the machine is when an operand is due
abbrev pub operand_due : Held → Place Module (LeftAssociative or_precedence) → State Module
operand_due h p = if is_open h then read Not (after_nots h.nots (not_at h p)) else read Unary (unary_at h p)

-- ---- which operators come

abbrev pub number : Level → ℕ
number or_level = 1
number and_level = 2
number comparison_level = 3
number bit_or_level = 4
number bit_xor_level = 5
number bit_and_level = 6
number shift_level = 7
number add_level = 8
number multiply_level = 9

abbrev precedence_number : PrecedenceLevel → ℕ
precedence_number or_precedence = 1
precedence_number and_precedence = 2
precedence_number bit_or_precedence = 4
precedence_number xor_precedence = 5
precedence_number bit_and_precedence = 6
precedence_number shift_precedence = 7
precedence_number add_precedence = 8
precedence_number multiply_precedence = 9

abbrev pub bound : Option BinOp → ℕ
bound None = 0
bound (Some o) = number (level_of o)

-- how tightly what comes binds; 0 if no operator comes
abbrev pub binding : Kind → ℕ
binding l = bound (binary_operator l)

not_kind : (l t : Kind) → (binding l ≡ binding t → ⊥) → is l t ≡ false
not_kind l t h = is_false l t (λ e. h (ap binding e))

-- what binds less tightly is not an operator of the level
no_operator : (k : PrecedenceLevel) (l : Kind) → binding l < precedence_number k → operator_at k l ≡ None
no_operator or_precedence l h = rw (not_kind l kinds.Or (λ e. omega (arith, e, h))) refl
no_operator and_precedence l h = rw (not_kind l kinds.And (λ e. omega (arith, e, h))) refl
no_operator bit_or_precedence l h = rw (not_kind l kinds.Pipe (λ e. omega (arith, e, h))) refl
no_operator xor_precedence l h = rw (not_kind l kinds.Caret (λ e. omega (arith, e, h))) refl
no_operator bit_and_precedence l h = rw (not_kind l kinds.Ampersand (λ e. omega (arith, e, h))) refl
no_operator shift_precedence l h = rw (not_kind l kinds.LessLess (λ e. omega (arith, e, h)), not_kind l kinds.GreaterGreater (λ e. omega (arith, e, h))) refl
no_operator add_precedence l h = rw (not_kind l kinds.Plus (λ e. omega (arith, e, h)), not_kind l kinds.Minus (λ e. omega (arith, e, h))) refl
no_operator multiply_precedence l h = rw (
  not_kind l kinds.Star (λ e. omega (arith, e, h)),
  not_kind l kinds.Slash (λ e. omega (arith, e, h)),
  not_kind l kinds.SlashSlash (λ e. omega (arith, e, h)),
  not_kind l kinds.Percent (λ e. omega (arith, e, h)),
) refl

no_comparison : (l : Kind) → binding l < 3 → (comparison_at l ≡ None) × (is l kinds.Not ≡ false) × (compares l ≡ false)
no_comparison kinds.EqualEqual h = absurd (omega (arith, h))
no_comparison kinds.BangEqual h = absurd (omega (arith, h))
no_comparison kinds.LessThan h = absurd (omega (arith, h))
no_comparison kinds.GreaterThan h = absurd (omega (arith, h))
no_comparison kinds.LessEqual h = absurd (omega (arith, h))
no_comparison kinds.GreaterEqual h = absurd (omega (arith, h))
no_comparison kinds.In h = absurd (omega (arith, h))
no_comparison kinds.Not h = absurd (omega (arith, h))
no_comparison l h = (refl, refl, refl)

pub comparison_comes : (l : Kind) → binding l ≡ 3 → compares l ≡ true
comparison_comes kinds.EqualEqual h = refl
comparison_comes kinds.BangEqual h = refl
comparison_comes kinds.LessThan h = refl
comparison_comes kinds.GreaterThan h = refl
comparison_comes kinds.LessEqual h = refl
comparison_comes kinds.GreaterEqual h = refl
comparison_comes kinds.In h = refl
comparison_comes kinds.Not h = refl
comparison_comes l h = absurd (omega (arith, h))

-- the operator of a level that a kind is
pub record Signs (k : PrecedenceLevel) (l : Kind) (o : BinOp) : Type 0 where
  pub sign : Operator k
  pub comes : operator_at k l ≡ Some sign
  pub says : operator_of sign ≡ o

pub some_is : {A : Type 0} {x y : A} → Some x ≡ Some y → x ≡ y
some_is h = cc

pub or_signs : (l : Kind) (o : BinOp) → binary_operator l ≡ Some o → binding l ≡ 1 → Signs or_precedence l o
or_signs kinds.Or o h g = record { sign = or_sign; comes = refl; says = some_is h }
or_signs l o h g = absurd (omega (arith, g))

pub and_signs : (l : Kind) (o : BinOp) → binary_operator l ≡ Some o → binding l ≡ 2 → Signs and_precedence l o
and_signs kinds.And o h g = record { sign = and_sign; comes = refl; says = some_is h }
and_signs l o h g = absurd (omega (arith, g))

pub bit_or_signs : (l : Kind) (o : BinOp) → binary_operator l ≡ Some o → binding l ≡ 4 → Signs bit_or_precedence l o
bit_or_signs kinds.Pipe o h g = record { sign = pipe; comes = refl; says = some_is h }
bit_or_signs l o h g = absurd (omega (arith, g))

pub xor_signs : (l : Kind) (o : BinOp) → binary_operator l ≡ Some o → binding l ≡ 5 → Signs xor_precedence l o
xor_signs kinds.Caret o h g = record { sign = caret; comes = refl; says = some_is h }
xor_signs l o h g = absurd (omega (arith, g))

pub bit_and_signs : (l : Kind) (o : BinOp) → binary_operator l ≡ Some o → binding l ≡ 6 → Signs bit_and_precedence l o
bit_and_signs kinds.Ampersand o h g = record { sign = ampersand; comes = refl; says = some_is h }
bit_and_signs l o h g = absurd (omega (arith, g))

pub shift_signs : (l : Kind) (o : BinOp) → binary_operator l ≡ Some o → binding l ≡ 7 → Signs shift_precedence l o
shift_signs kinds.LessLess o h g = record { sign = less_less; comes = refl; says = some_is h }
shift_signs kinds.GreaterGreater o h g = record { sign = greater_greater; comes = refl; says = some_is h }
shift_signs l o h g = absurd (omega (arith, g))

pub add_signs : (l : Kind) (o : BinOp) → binary_operator l ≡ Some o → binding l ≡ 8 → Signs add_precedence l o
add_signs kinds.Plus o h g = record { sign = plus; comes = refl; says = some_is h }
add_signs kinds.Minus o h g = record { sign = minus; comes = refl; says = some_is h }
add_signs l o h g = absurd (omega (arith, g))

pub multiply_signs : (l : Kind) (o : BinOp) → binary_operator l ≡ Some o → binding l ≡ 9 → Signs multiply_precedence l o
multiply_signs kinds.Star o h g = record { sign = star; comes = refl; says = some_is h }
multiply_signs kinds.Slash o h g = record { sign = slash; comes = refl; says = some_is h }
multiply_signs kinds.SlashSlash o h g = record { sign = slash_slash; comes = refl; says = some_is h }
multiply_signs kinds.Percent o h g = record { sign = percent; comes = refl; says = some_is h }
multiply_signs l o h g = absurd (omega (arith, g))

-- the comparison of one token that a kind is
pub record Compares (l : Kind) (o : BinOp) : Type 0 where
  pub sign : Comparison
  pub comes : comparison_at l ≡ Some sign
  pub says : comparison_of sign ≡ o

pub comparison_signs : (l : Kind) (o : BinOp) → binary_operator l ≡ Some o → binding l ≡ 3 → (o ≡ operators.NotIn → ⊥) → Compares l o
comparison_signs kinds.EqualEqual o h g n = record { sign = equal; comes = refl; says = some_is h }
comparison_signs kinds.BangEqual o h g n = record { sign = not_equal; comes = refl; says = some_is h }
comparison_signs kinds.LessThan o h g n = record { sign = less; comes = refl; says = some_is h }
comparison_signs kinds.GreaterThan o h g n = record { sign = greater; comes = refl; says = some_is h }
comparison_signs kinds.LessEqual o h g n = record { sign = less_or_equal; comes = refl; says = some_is h }
comparison_signs kinds.GreaterEqual o h g n = record { sign = greater_or_equal; comes = refl; says = some_is h }
comparison_signs kinds.In o h g n = record { sign = membership; comes = refl; says = some_is h }
comparison_signs kinds.Not o h g n = absurd (n (sym (some_is h)))
comparison_signs l o h g n = absurd (omega (arith, g))

both_true : (a b : Bool) → (a && b) ≡ true → (a ≡ true) × (b ≡ true)
both_true true true h = (refl, refl)
both_true true false h = cc
both_true false b h = cc

slot_vacant : {k : PrecedenceLevel} (s : Slot k) → is_vacant (half_in s) ≡ true → s ≡ vacant
slot_vacant vacant h = refl
slot_vacant (held d o s) h = cc

pub comp_vacant : (s : CompSlot) → is_vacant (half_comp s) ≡ true → s ≡ no_comp
comp_vacant no_comp h = refl
comp_vacant (held_comp d o) h = cc

-- no rule is about operands
no_rule : {k : PrecedenceLevel} {n : Nonterminal} → OperandOf k n → (y : DialectTypes) (d : Derivation n) (l : Look) → node_fault y n d l ≡ None
no_rule of_or y d l = refl
no_rule of_and y d l = refl
no_rule of_bit_or y d l = refl
no_rule of_xor y d l = refl
no_rule of_bit_and y d l = refl
no_rule of_shift y d l = refl
no_rule of_add y d l = refl
no_rule of_multiply y d l = refl

module _ {S : Type 0} {steps : S → Option CodeLexeme → S → Type 0} where
  -- an operand is joined with what is held of a level
  joins : {k : PrecedenceLevel} {n : Nonterminal} {a : At S} (slot : Slot k) (u : OperandOf k n) (e : Derivation n) (p : Place Module (LeftAssociative k))
      → Goes steps (done e (place_in slot u p)) a (left_tail (join slot u e) p) a
  joins {a = a} vacant u e p = keeps (ap (λ o. judged (in_time (look_at a.sight).no_memory o) (move (done e (left_first_at u p)) (look_at a.sight)))
      (no_rule u a.types e (look_at a.sight))) stays
  joins {a = a} (held d o s) u e p = keeps (ap (λ x. judged (in_time (look_at a.sight).no_memory x)
      (move (done e (left_right_at u d o s p)) (look_at a.sight))) (no_rule u a.types e (look_at a.sight))) stays

  -- no operator of the level comes
  leaves : {k : PrecedenceLevel} {a : At S} (d : Derivation (LeftAssociative k)) (p : Place Module (LeftAssociative k)) → operator_at k (look_at a.sight).kind
      ≡ None → Goes steps (left_tail d p) a (done d p) a
  leaves {a = a} d p h = keeps (ap (λ o. Moves (after_left d p (look_at a.sight).first.span o)) h) stays

  rises : {j k : PrecedenceLevel} {a : At S} (slot : Slot k) (u : OperandOf k (LeftAssociative j)) (d : Derivation (LeftAssociative j))
      (p : Place Module (LeftAssociative k)) → operator_at j (look_at a.sight).kind ≡ None → Goes steps (left_tail d (place_in slot u p)) a
      (left_tail (join slot u d) p) a
  rises slot u d p h = after (leaves d (place_in slot u p) h) (joins slot u d p)

  -- no comparison comes
  past_comp : {a : At S} (slot : CompSlot) (d : Derivation (LeftAssociative bit_or_precedence)) (p : Place Module Comp) → binding (look_at a.sight).kind < 3
      → Goes steps (done d (place_comp slot p)) a (done (join_comp slot d) p) a
  past_comp {a = a} no_comp d p h = let n = no_comparison (look_at a.sight).kind h in
      keeps (ap (λ o. Moves (after_bit_or d p (look_at a.sight) o)) n.0 ∙ rw n.1 refl) stays
  past_comp {a = a} (held_comp c o) d p h = let n = no_comparison (look_at a.sight).kind h in keeps (rw n.2 refl) stays

  -- after the `not`s that were read, they are built, the last first
  negates : {a : At S} (ss : List Span) (d : Derivation Not) (p : Place Module Not) → Goes steps (done d (after_nots ss p)) a (done (negate ss d) p) a
  negates [] d p = stays
  negates (s ∷ ss) d p = after (negates ss d (not_not_at s p)) (keeps refl stays)

  module _ {a : At S} (h : Held) (e : Derivation Unary) (q : Place Module (LeftAssociative bit_or_precedence)) where
    pub to_products : Goes steps (done e (inner_at h q)) a (left_tail (product h e) (multiply_at h q)) a
    to_products = joins h.multiply of_multiply e (multiply_at h q)

    pub to_sums : binding (look_at a.sight).kind < 9 → Goes steps (done e (inner_at h q)) a (left_tail (sum h e) (add_at h q)) a
    to_sums n = after to_products (rises h.add of_add (product h e) (add_at h q) (no_operator multiply_precedence (look_at a.sight).kind n))

    pub to_shifts : binding (look_at a.sight).kind < 8 → Goes steps (done e (inner_at h q)) a (left_tail (shifted h e) (shift_at h q)) a
    to_shifts n = after (to_sums (omega (arith, n))) (rises h.shift of_shift (sum h e) (shift_at h q) (no_operator add_precedence (look_at a.sight).kind n))

    pub to_bit_ands : binding (look_at a.sight).kind < 7 → Goes steps (done e (inner_at h q)) a (left_tail (bit_anded h e) (bit_and_at h q)) a
    to_bit_ands n = after (to_shifts (omega (arith, n))) (rises h.bit_and of_bit_and (shifted h e) (bit_and_at h q)
        (no_operator shift_precedence (look_at a.sight).kind n))

    pub to_xors : binding (look_at a.sight).kind < 6 → Goes steps (done e (inner_at h q)) a (left_tail (xored h e) (xor_at h q)) a
    to_xors n = after (to_bit_ands (omega (arith, n)))
        (rises h.xor of_xor (bit_anded h e) (xor_at h q) (no_operator bit_and_precedence (look_at a.sight).kind n))

    pub to_bit_ors : binding (look_at a.sight).kind < 5 → Goes steps (done e (inner_at h q)) a (left_tail (bit_ored h e) q) a
    to_bit_ors n = after (to_xors (omega (arith, n))) (rises h.bit_or of_bit_or (xored h e) q (no_operator xor_precedence (look_at a.sight).kind n))

    -- no operator comes that binds more tightly than comparisons
    pub to_bit_or : binding (look_at a.sight).kind < 4 → Goes steps (done e (inner_at h q)) a (done (bit_ored h e) q) a
    to_bit_or n = after (to_bit_ors (omega (arith, n))) (leaves (bit_ored h e) q (no_operator bit_or_precedence (look_at a.sight).kind n))

  module _ {a : At S} (h : Held) (e : Derivation Unary) (p : Place Module (LeftAssociative or_precedence)) where
    -- a comparison's operand is read
    pub to_comparison : binding (look_at a.sight).kind < 4 → Goes steps (done e (unary_at h p)) a (done (bit_ored h e) (bit_or_at h p)) a
    to_comparison n = to_bit_or h e (bit_or_at h p) n

    pub to_conjunctions : binding (look_at a.sight).kind < 3 → Goes steps (done e (unary_at h p)) a (left_tail (conjunction h e) (and_at h p)) a
    to_conjunctions n =
        after (to_comparison (omega (arith, n)))
        (after (past_comp h.comp (bit_ored h e) (comp_at h p) n)
        (keeps refl (after (negates h.nots (not_comp (compared h e)) (not_at h p)) (joins h.and of_and (negation h e) (and_at h p)))))

    pub to_disjunctions : binding (look_at a.sight).kind < 2 → Goes steps (done e (unary_at h p)) a (left_tail (disjunction h e) p) a
    to_disjunctions n = after (to_conjunctions (omega (arith, n))) (rises h.or of_or (conjunction h e) p (no_operator and_precedence (look_at a.sight).kind n))

    -- no operator comes
    pub to_end : binding (look_at a.sight).kind < 1 → Goes steps (done e (unary_at h p)) a (done (disjunction h e) p) a
    to_end n = after (to_disjunctions (omega (arith, n))) (leaves (disjunction h e) p (no_operator or_precedence (look_at a.sight).kind n))

  -- ---- an operator is consumed

  pub takes_sign : {k : PrecedenceLevel} {a b : At S} {x : Lexeme} (d : Derivation (LeftAssociative k)) (p : Place Module (LeftAssociative k))
      (o : Operator k) → Advances steps a x b → operator_at k (kind_of x.token) ≡ Some o
      → Goes steps (left_tail d p) a (read (operand k) (left_right_at (is_operand k) d o x.span p)) b
  takes_sign {x = x} d p o v h = takes v (ap (λ y. Moves (after_left d p x.span y)) h) stays

  -- from an operator to the next operand
  pub from_nothing : {a : At S} (p : Place Module (LeftAssociative or_precedence)) → Goes steps (read (LeftAssociative or_precedence) p) a
      (operand_due nothing_held p) a
  from_nothing p = keeps refl (keeps refl stays)

  pub inner_from_nothing : {a : At S} (q : Place Module (LeftAssociative bit_or_precedence)) → Goes steps (read (LeftAssociative bit_or_precedence) q) a
      (read Unary (inner_at nothing_held q)) a
  inner_from_nothing q = keeps refl (keeps refl (keeps refl (keeps refl (keeps refl (keeps refl stays)))))

  descends : {k : PrecedenceLevel} {a : At S} (s : Slot k) (p : Place Module (LeftAssociative k)) → s ≡ vacant
      → Goes steps (read (LeftAssociative k) p) a (read (operand k) (place_in s (is_operand k) p)) a
  descends {k = k} {a = a} s p h = subst (λ x. Goes steps (read (LeftAssociative k) p) a (read (operand k) (place_in x (is_operand k) p)) a) (sym h)
      (keeps refl stays)

  descends_comp : {a : At S} (s : CompSlot) (p : Place Module Comp) → s ≡ no_comp
      → Goes steps (read Comp p) a (read (LeftAssociative bit_or_precedence) (place_comp s p)) a
  descends_comp {a = a} s p h = subst (λ x. Goes steps (read Comp p) a (read (LeftAssociative bit_or_precedence) (place_comp x p)) a) (sym h) (keeps refl stays)

  -- after the `not`s an operand is due
  pub from_nots : {a : At S} (h : Held) (p : Place Module (LeftAssociative or_precedence)) → is_open h ≡ true → is (look_at a.sight).kind kinds.Not ≡ false
      → Goes steps (read Not (after_nots h.nots (not_at h p))) a (read Unary (unary_at h p)) a
  from_nots h p vacancy n =
      let c = both_true _ _ vacancy in let b_or = both_true _ _ c.0 in let b_xor = both_true _ _ b_or.0 in
      let b_and = both_true _ _ b_xor.0 in let sh = both_true _ _ b_and.0 in let ad = both_true _ _ sh.0 in
      keeps (rw n refl)
      (after (descends_comp h.comp (comp_at h p) (comp_vacant h.comp c.1))
      (after (descends h.bit_or (bit_or_at h p) (slot_vacant h.bit_or b_or.1))
      (after (descends h.xor (xor_at h (bit_or_at h p)) (slot_vacant h.xor b_xor.1))
      (after (descends h.bit_and (bit_and_at h (bit_or_at h p)) (slot_vacant h.bit_and b_and.1))
      (after (descends h.shift (shift_at h (bit_or_at h p)) (slot_vacant h.shift sh.1))
      (after (descends h.add (add_at h (bit_or_at h p)) (slot_vacant h.add ad.1))
      (descends h.multiply (multiply_at h (bit_or_at h p)) (slot_vacant h.multiply ad.0))))))))

-- ---- what is built means

pub half_is : {d e : Expression no_payload} {o q : BinOp} → d ≡ e → o ≡ q → half d o ≡ half e q
half_is {e = e} {o = o} f g = ap (λ x. half x o) f ∙ ap (half e) g

join_means : {k : PrecedenceLevel} {n : Nonterminal} (slot : Slot k) (u : OperandOf k n) (d : Derivation n) → tree (join slot u d) ≡ joined (half_in slot)
    (operand_tree u (tree d))
join_means vacant u d = refl
join_means (held c o s) u d = refl

comp_means : (slot : CompSlot) (d : Derivation (LeftAssociative bit_or_precedence)) → tree (join_comp slot d) ≡ joined (half_comp slot) (tree d)
comp_means no_comp d = refl
comp_means (held_comp c o) d = refl

-- where the last token of what is built ends
abbrev pub EndsAt : {n : Nonterminal} → Derivation n → ℕ → Type 0
EndsAt d end = (before : ℕ) → end_of_last (right_side d) before ≡ end

join_ends : {k : PrecedenceLevel} {n : Nonterminal} {end : ℕ} (slot : Slot k) (u : OperandOf k n) (d : Derivation n) → EndsAt d end → EndsAt (join slot u d) end
join_ends vacant u d h before = h before
join_ends (held c o s) u d h before = h _

comp_ends : {end : ℕ} (slot : CompSlot) (d : Derivation (LeftAssociative bit_or_precedence)) → EndsAt d end → EndsAt (join_comp slot d) end
comp_ends no_comp d h before = h before
comp_ends (held_comp c o) d h before = h _

negate_ends : {end : ℕ} (ss : List Span) (d : Derivation Not) → EndsAt d end → EndsAt (negate ss d) end
negate_ends [] d h before = h before
negate_ends (s ∷ ss) d h before = negate_ends ss d h _

negate_means : {end : ℕ} (ss : List Span) (d : Derivation Not) → EndsAt d end → tree (negate ss d) ≡ negated (map (λ (s : Span). s.begin) ss) end (tree d)
negate_means [] d h = refl
negate_means {end = end} (s ∷ ss) d h =
    ap (λ x. expression (from_to s.begin x) (t.Not (tree (negate ss d)))) (negate_ends ss d h s.end)
    ∙ ap (λ x. expression (from_to s.begin end) (t.Not x)) (negate_means ss d h)

module _ (h : Held) (e : Derivation Unary) where
  pub products_mean : tree (product h e) ≡ products (stack_in h) (tree e)
  products_mean = join_means h.multiply of_multiply e

  pub sums_mean : tree (sum h e) ≡ sums (stack_in h) (tree e)
  sums_mean = join_means h.add of_add (product h e) ∙ ap (joined (half_in h.add)) products_mean

  pub shifts_mean : tree (shifted h e) ≡ shifts (stack_in h) (tree e)
  shifts_mean = join_means h.shift of_shift (sum h e) ∙ ap (joined (half_in h.shift)) sums_mean

  pub bit_ands_mean : tree (bit_anded h e) ≡ bit_ands (stack_in h) (tree e)
  bit_ands_mean = join_means h.bit_and of_bit_and (shifted h e) ∙ ap (joined (half_in h.bit_and)) shifts_mean

  pub xors_mean : tree (xored h e) ≡ bit_xors (stack_in h) (tree e)
  xors_mean = join_means h.xor of_xor (bit_anded h e) ∙ ap (joined (half_in h.xor)) bit_ands_mean

  pub bit_ors_mean : tree (bit_ored h e) ≡ bit_ors (stack_in h) (tree e)
  bit_ors_mean = join_means h.bit_or of_bit_or (xored h e) ∙ ap (joined (half_in h.bit_or)) xors_mean

  comparisons_mean : tree (compared h e) ≡ comparisons (stack_in h) (tree e)
  comparisons_mean = comp_means h.comp (bit_ored h e) ∙ ap (joined (half_comp h.comp)) bit_ors_mean

  module _ {end : ℕ} (last : EndsAt e end) where
    pub bit_ored_ends : EndsAt (bit_ored h e) end
    bit_ored_ends = join_ends h.bit_or of_bit_or (xored h e)
        (join_ends h.xor of_xor (bit_anded h e) (join_ends h.bit_and of_bit_and (shifted h e)
        (join_ends h.shift of_shift (sum h e) (join_ends h.add of_add (product h e) (join_ends h.multiply of_multiply e last)))))

    compared_ends : EndsAt (not_comp (compared h e)) end
    compared_ends = comp_ends h.comp (bit_ored h e) bit_ored_ends

    negations_mean : tree (negation h e) ≡ negations (stack_in h) end (tree e)
    negations_mean = negate_means h.nots (not_comp (compared h e)) compared_ends ∙ ap (negated (map (λ (s : Span). s.begin) h.nots) end) comparisons_mean

    pub conjunctions_mean : tree (conjunction h e) ≡ conjunctions (stack_in h) end (tree e)
    conjunctions_mean = join_means h.and of_and (negation h e) ∙ ap (joined (half_in h.and)) negations_mean

    pub disjunctions_mean : tree (disjunction h e) ≡ disjunctions (stack_in h) end (tree e)
    disjunctions_mean = join_means h.or of_or (conjunction h e) ∙ ap (joined (half_in h.or)) conjunctions_mean

    pub disjunction_ends : EndsAt (disjunction h e) end
    disjunction_ends = join_ends h.or of_or (conjunction h e)
        (join_ends h.and of_and (negation h e) (negate_ends h.nots (not_comp (compared h e)) compared_ends))

pub nothing_compares : (h : Held) (e : Expression no_payload) → h.comp ≡ no_comp → joined (half_comp h.comp) e ≡ e
nothing_compares h e f = ap (λ s. joined (half_comp s) e) f

pub compared_level : (o : BinOp) → is_comparison o ≡ true → level_of o ≡ comparison_level
compared_level operators.Equal k = refl
compared_level operators.NotEqual k = refl
compared_level operators.Less k = refl
compared_level operators.Greater k = refl
compared_level operators.LessOrEqual k = refl
compared_level operators.GreaterOrEqual k = refl
compared_level operators.In k = refl
compared_level operators.NotIn k = refl
compared_level o k = not_true k

is_compared : (o : BinOp) → level_of o ≡ comparison_level → is_comparison o ≡ true
is_compared operators.Equal q = refl
is_compared operators.NotEqual q = refl
is_compared operators.Less q = refl
is_compared operators.Greater q = refl
is_compared operators.LessOrEqual q = refl
is_compared operators.GreaterOrEqual q = refl
is_compared operators.In q = refl
is_compared operators.NotIn q = refl
is_compared o q = cc

pub no_comparison_waits : {A : Type 0} (o : BinOp) → A ⊎ (is_comparison o ≡ false) → level_of o ≡ comparison_level → A
no_comparison_waits o (inl f) q = f
no_comparison_waits o (inr n) q = let w : true ≡ false = sym (is_compared o q) ∙ n in cc
