-- The height of what is built of parts.
use Rattle.std.proofs.Common.{ℕ, ◌+◌, ◌-◌, ◌≤◌, ◌<◌, List as Seq, [], ◌∷◌, ◌++◌, Option, Some, None, Result, Ok, Err, arith}
use Rattle.std.specs.Bool.{⊤}
use Rattle.starlark_lexer.specs.Tokens.{Span}
use Rattle.starlark_tree.specs.Ast as t
use Rattle.starlark_tree.specs.Ast.{Word, no_payload, Expression, expression, Statement, statement, expressions_of, statements_of, arguments_of}
use Rattle.starlark_tree.specs.Ast.{parameters_of, pairs_of}
use Rattle.starlark_tree.specs.Ast.{Expressions, no_expressions, expressions, Target, Targets, no_targets, targets}
use Rattle.starlark_tree.specs.declared.ast.operator.AssignOp.{AssignOp}
use Rattle.starlark_spec.specs.Assignments.{assigned}
use Rattle.starlark_spec.specs.Faults.{Fault}
use Rattle.starlark_spec.specs.Grammar.{RightSide}
use Rattle.starlark_spec.specs.Nested.{Each}
use Rattle.starlark_spec.specs.Targets.{map_ok, both, target, parts}
use Rattle.starlark_spec.specs.Trees.{Subscript, one_index, two_indices, bounds, Pair, Comprehended, one_or_tuple, one_or_block, if_form, subscripted}
use Rattle.starlark_spec.specs.Trees.{signed, target_of, target_or_none}
use Rattle.starlark_spec.specs.Grammar.{UnarySign}
use Rattle.starlark_spec.specs.Grammar.UnarySign.{plus_sign, minus_sign, tilde_sign}
use Rattle.starlark_depth.specs.Heights.{ExpressionWithin, ExpressionsWithin, MaybeWithin, MaybeTypeWithin, PairsWithin, ArgumentsWithin, ArgumentWithin}
use Rattle.starlark_depth.specs.Heights.{ParametersWithin, ParameterWithin, ForWithin, ClausesWithin, ClauseWithin, TargetWithin, TargetsWithin}
use Rattle.starlark_depth.specs.Heights.{StatementWithin, FormWithin, StatementsWithin}
use Rattle.starlark_depth.proofs.Inline.{Fits, Inline, Deep, node, flat, map_deep, map}
use Rattle.starlark_depth.proofs.Listing.{Listed, map_listed, looser}

abbrev pub SubscriptWithin : ℕ → Subscript → Type 0
SubscriptWithin h (one_index i) = ExpressionWithin h i
SubscriptWithin h (two_indices i j) = ExpressionWithin h i × ExpressionWithin h j
SubscriptWithin h (bounds start stop step) = MaybeWithin h start × MaybeWithin h stop × MaybeWithin h step

abbrev pub PairWithin : ℕ → Pair → Type 0
PairWithin h p = ExpressionWithin h p.0 × ExpressionWithin h p.1

abbrev pub ComprehendedWithin : ℕ → Comprehended → Type 0
ComprehendedWithin h c = ForWithin h c.0 × Each (ClauseWithin h) c.1

abbrev pub RestWithin : ℕ → Option (Statement no_payload) → Type 0
RestWithin h None = ⊤
RestWithin h (Some x) = StatementWithin h x

pub one_more : {A : Type 0} (Holds : A → Type 0) (xs : Seq A) (y : A) → Each Holds xs → Holds y → Each Holds (xs ++ y ∷ [])
one_more Holds [] y h g = (g, tt)
one_more Holds (x ∷ xs) y h g = (h.0, one_more Holds xs y h.1 g)

pub expressions_within : (n : ℕ) (es : Seq (Expression no_payload)) → Each (ExpressionWithin n) es → ExpressionsWithin n (expressions_of es)
expressions_within n [] h = tt
expressions_within n (e ∷ es) h = (h.0, expressions_within n es h.1)

pub arguments_within : (n : ℕ) (es : Seq (t.Argument no_payload)) → Each (ArgumentWithin n) es → ArgumentsWithin n (arguments_of es)
arguments_within n [] h = tt
arguments_within n (e ∷ es) h = (h.0, arguments_within n es h.1)

pub parameters_within : (n : ℕ) (es : Seq (t.Parameter no_payload)) → Each (ParameterWithin n) es → ParametersWithin n (parameters_of es)
parameters_within n [] h = tt
parameters_within n (e ∷ es) h = (h.0, parameters_within n es h.1)

pub pairs_within : (n : ℕ) (es : Seq Pair) → Each (PairWithin n) es → PairsWithin n (pairs_of es)
pairs_within n [] h = tt
pairs_within n (e ∷ es) h = (h.0.0, h.0.1, pairs_within n es h.1)

pub clauses_within : (n : ℕ) (cs : Seq (t.Clause no_payload)) → Each (ClauseWithin n) cs → ClausesWithin n (t.clauses_of cs)
clauses_within n [] h = tt
clauses_within n (c ∷ cs) h = (h.0, clauses_within n cs h.1)

pub statements_within : (n : ℕ) (ss : Seq (Statement no_payload)) → Each (StatementWithin n) ss → StatementsWithin n (statements_of ss)
statements_within n [] h = tt
statements_within n (x ∷ xs) h = (h.0, statements_within n xs h.1)

pub block_or_one : (own : Span) (n : ℕ) (ss : Seq (Statement no_payload)) → Each (StatementWithin n) ss → 0 < n → Each (StatementWithin (n - 1)) ss
    → StatementWithin n (one_or_block own ss)
block_or_one own n [] h some less = (some, tt)
block_or_one own n (x ∷ []) h some less = h.0
block_or_one own n (x ∷ (y ∷ ys)) h some less = (some, statements_within (n - 1) (x ∷ (y ∷ ys)) less)

pub assigned_within : (n : ℕ) (type : t.MaybeType no_payload) (o : Option AssignOp) (e : Expression no_payload) (x : t.Target no_payload)
    → MaybeTypeWithin n type → ExpressionWithin n e → TargetWithin n x → FormWithin n (assigned type o e x)
assigned_within n type None e x a b c = (c, a, b)
assigned_within n type (Some o) e x a b c = (c, b)

pub if_within : (n : ℕ) (c : Expression no_payload) (b : Statement no_payload) (r : Option (Statement no_payload)) → ExpressionWithin n c → StatementWithin n b
    → RestWithin n r → FormWithin n (if_form c b r)
if_within n c b None x y z = (x, y)
if_within n c b (Some o) x y z = (x, y, z)

-- ---- targets

abbrev TargetOrFault : ℕ → Result (Target no_payload) Fault → Type 0
TargetOrFault n (Ok x) = TargetWithin n x
TargetOrFault n (Err f) = 0 < n

abbrev TargetsOrFault : ℕ → Result (Targets no_payload) Fault → Type 0
TargetsOrFault n (Ok xs) = TargetsWithin n xs
TargetsOrFault n (Err f) = ⊤

tuple_target : (n : ℕ) (own : Span) (r : Result (Targets no_payload) Fault) → 0 < n → TargetsOrFault (n - 1) r → TargetOrFault n (map_ok (t.TupleTarget own) r)
tuple_target n own (Ok xs) a b = (a, b)
tuple_target n own (Err f) a b = a

both_targets : (n : ℕ) (x : Result (Target no_payload) Fault) (xs : Result (Targets no_payload) Fault) → TargetOrFault n x → TargetsOrFault n xs
    → TargetsOrFault n (both targets x xs)
both_targets n (Ok x) (Ok xs) a b = (a, b)
both_targets n (Ok x) (Err f) a b = tt
both_targets n (Err f) xs a b = tt

mutual
  target_or_fault : (n : ℕ) (e : Expression no_payload) → ExpressionWithin n e → TargetOrFault n (target e)
  target_or_fault n (expression own (t.Tuple es)) h = tuple_target n own (parts es) h.0 (targets_or_fault (n - 1) es h.1)
  target_or_fault n (expression own (t.List es)) h = tuple_target n own (parts es) h.0 (targets_or_fault (n - 1) es h.1)
  target_or_fault n (expression own (t.Dot e w)) h = (h.0, h.1)
  target_or_fault n (expression own (t.Index e i)) h = (h.0, h.1.0, h.1.1)
  target_or_fault n (expression own (t.Identifier w p)) h = h.0
  target_or_fault n (expression own other) h = h.0

  targets_or_fault : (n : ℕ) (es : Expressions no_payload) → ExpressionsWithin n es → TargetsOrFault n (parts es)
  targets_or_fault n no_expressions h = tt
  targets_or_fault n (expressions e es) h = both_targets n (target e) (parts es) (target_or_fault n e h.0) (targets_or_fault n es h.1)

chosen : (n : ℕ) (r : Result (Target no_payload) Fault) → TargetOrFault n r → TargetWithin n (target_or_none r)
chosen n (Ok x) h = h
chosen n (Err f) h = (h, tt)

pub target_within : (n : ℕ) (e : Expression no_payload) → ExpressionWithin n e → TargetWithin n (target_of e)
target_within n e h = chosen n (target e) (target_or_fault n e h)

-- ---- nodes

-- if one more is left
pub taller : {c d : ℕ} {F : Fits} {a : RightSide} {A : ℕ → Type 0} → 0 < c → c + 1 ≤ d → Listed c F a A → Listed d F a (λ h. (0 < h) × A (h - 1))
taller {c = c} {d = d} some n i = record {
  of = λ k p q m r x o f l g.
      let j = i.of k p q m r x o f l g in
      record {
        at = j.at;
        top = j.top;
        out = j.out;
        is = j.is;
        later = j.later;
        order = j.order;
        keeps = j.keeps;
        low = λ y h a b e.
            (omega (arith, some, n, e, a, j.later, j.order), j.low y (h - 1) a b (omega (arith, some, n, e, a, j.later, j.order)));
      };
}

pub tuple_or_one : {F : Fits} {a : RightSide} (own : Span) (es : Seq (Expression no_payload)) → Listed 1 F a (λ h. Each (ExpressionWithin h) es)
    → Listed 2 F a (λ h. ExpressionWithin h (one_or_tuple own es))
tuple_or_one own [] v = map_listed (λ h g. (g.0, tt)) (taller (omega arith) (omega arith) v)
tuple_or_one own (e ∷ []) v = map_listed (λ h g. g.0) (looser (omega arith) v)
tuple_or_one own (e ∷ (f ∷ es)) v = map_listed (λ h g. (g.0, expressions_within (h - 1) (e ∷ (f ∷ es)) g.1)) (taller (omega arith) (omega arith) v)

pub tuple_or_one_deep : {F : Fits} {a : RightSide} (own : Span) (es : Seq (Expression no_payload)) → Deep F a (λ h. Each (ExpressionWithin h) es)
    → Inline F a (λ h. ExpressionWithin h (one_or_tuple own es))
tuple_or_one_deep own [] v = node (t.Tuple (expressions_of [])) (map_deep (λ h g. tt) v)
tuple_or_one_deep own (e ∷ []) v = map (λ h g. g.0) (flat v)
tuple_or_one_deep own (e ∷ (f ∷ es)) v = node (t.Tuple (expressions_of (e ∷ (f ∷ es)))) (map_deep (λ h g. expressions_within h (e ∷ (f ∷ es)) g) v)

pub subscripted_node : {F : Fits} {a : RightSide} (own : Span) (e : Expression no_payload) (x : Subscript)
    → Deep F a (λ h. ExpressionWithin h e × SubscriptWithin h x) → Inline F a (λ h. ExpressionWithin h (subscripted own e x))
subscripted_node own e (one_index i) v = node (t.Index e i) v
subscripted_node own e (two_indices i j) v = node (t.Index2 e i j) (map_deep (λ h g. (g.0, g.1.0, g.1.1)) v)
subscripted_node own e (bounds start stop step) v = node (t.Slice e start stop step) (map_deep (λ h g. (g.0, g.1.0, g.1.1, g.1.2)) v)

pub signed_node : {F : Fits} {a : RightSide} (u : UnarySign) (own : Span) (e : Expression no_payload) → Deep F a (λ h. ExpressionWithin h e)
    → Inline F a (λ h. ExpressionWithin h (signed u own e))
signed_node plus_sign own e v = node (t.Plus e) v
signed_node minus_sign own e v = node (t.Minus e) v
signed_node tilde_sign own e v = node (t.BitNot e) v
