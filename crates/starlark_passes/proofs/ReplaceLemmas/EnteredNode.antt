-- A node is replaced, and then what is below it.
use Rattle.std.proofs.Common.{◌≡◌, ℕ, zero, suc, ◌-◌, ◌+◌, ◌<◌, Option, Some, None, List, [], ◌∷◌, ◌++◌, Result, Ok, Err, IsErr, refl, sym, ap, ◌∙◌, subst}
use Rattle.std.proofs.Common.{arith, true, false}
use Rattle.std.specs.Prelude.{cond, is_some}
use Rattle.starlark_lexer.specs.Tokens.{Span, Text}
use Rattle.starlark_tree.specs.Ast as t
use Rattle.starlark_tree.specs.Ast.{no_payload, expression_span}
use Rattle.starlark_tree.specs.Inside.{below, inside}
use Rattle.starlark_tree.specs.declared.ast.operator.BinOp.{BinOp}
use Rattle.starlark_passes.specs.Replace.Entering.{weight, weights}
use Rattle.starlark_passes.specs.Replace.Parts.{Reaches, Replaces, an_expression, below_replaced, below_shape}
use Rattle.starlark_passes.specs.Replace.Replacing.{Table, call_of, call_or_op, is_named, named, one_if_some, operand, operator_name, replaced, shape_replaced}
use Rattle.starlark_passes.specs.Replace.Calls.{node_replaced, shape_of}
use Rattle.starlark_passes.proofs.ReplaceLemmas.Entered.{weights-append}
use Rattle.starlark_passes.proofs.ReplaceLemmas.Laws.{named-append, named-cons, none-expression}
use Rattle.starlark_passes.proofs.ReplaceLemmas.Steps.{failing}

span_kept : (table : Table) (k : ℕ) (e : t.Expression no_payload) → expression_span (replaced table k e) ≡ expression_span e
span_kept table k (t.expression s shape) = refl

less_none : (k : ℕ) → k - 0 ≡ k
less_none k = omega arith

less_one : (k : ℕ) → suc k - 1 ≡ k
less_one k = omega arith

module _ {E : Type 0} (table : Table) (r : Result (Unit {0}) E) where
  further : (n : ℕ) (es fs : List (t.Expression no_payload)) (k : ℕ) → named table fs ≡ n + named table es → Reaches table es r k → Reaches table fs r (n + k)
  further n es fs k e h = by_result r h
    where
      by_result : (q : Result (Unit {0}) E) → Reaches table es q k → Reaches table fs q (n + k)
      by_result (Ok u) p = omega (arith, e, p)
      by_result (Err u) p = omega (arith, e, p)

  -- any node except an operation
  plain : (s : Span) (x y : t.Shape no_payload) → is_named table (t.expression s x) ≡ false → ((k : ℕ) → below_replaced table k x ≡ shape_replaced table k s x)
      → Replaces table (below_shape table) r x y → Replaces table (an_expression table) r (t.expression s x) (t.expression s y)
  plain s x y unnamed same h =
      let count : named table (t.expression s x ∷ below x) ≡ 0 + named table (below x) =
      named-cons table (t.expression s x) (below x) ∙ ap (λ b. cond b 1 0 + named table (below x)) unnamed in
      record {
        count = 0 + h.count;
        reaches = further 0 (below x) (t.expression s x ∷ below x) h.count count h.reaches;
        stands = ap (t.expression s) (h.stands ∙ same h.count) ∙ ap (λ n. replaced table n (t.expression s x)) (sym (none_more h.count));
      }
    where
      none_more : (k : ℕ) → 0 + k ≡ k
      none_more k = omega arith

  kept : (s : Span) (l : t.Expression no_payload) (op : BinOp) (right : t.Expression no_payload) (y : t.Shape no_payload) → table (operator_name op) ≡ None
      → Replaces table (below_shape table) r (t.Op l op right) y → Replaces table (an_expression table) r (t.expression s (t.Op l op right)) (t.expression s y)
  kept s l op right y e h =
      let count : named table (t.expression s (t.Op l op right) ∷ (inside l ++ inside right)) ≡ 0 + named table (inside l ++ inside right) =
      named-cons table (t.expression s (t.Op l op right)) (inside l ++ inside right) ∙ ap (λ o. cond (is_some o) 1 0 + named table (inside l ++ inside right))
      e in
      let same : (k : ℕ) → t.Op (replaced table k l) op (replaced table (k - named table (inside l)) right) ≡ shape_replaced table (0 + k) s (t.Op l op right) =
      λ k. (λ i. t.Op (replaced table (none_less k i) l) op (replaced table (none_less k i - named table (inside l)) right))
      ∙ ap (λ o. call_or_op o (0 + k) s (replaced table ((0 + k) - one_if_some o) l) op
      (replaced table ((0 + k) - one_if_some o - named table (inside l)) right)) (sym e) in
      record {
        count = 0 + h.count;
        reaches = further 0 (inside l ++ inside right) (t.expression s (t.Op l op right) ∷ (inside l ++ inside right)) h.count count h.reaches;
        stands = ap (t.expression s) (h.stands ∙ same h.count);
      }
    where
      none_less : (k : ℕ) → k ≡ (0 + k) - 0
      none_less k = omega arith

  called : (s : Span) (l : t.Expression no_payload) (op : BinOp) (right : t.Expression no_payload) (y : t.Shape no_payload) (f : Text)
      → table (operator_name op) ≡ Some f
      → Replaces table (below_shape table) r (call_of f s l right) y → Replaces table (an_expression table) r (t.expression s (t.Op l op right))
      (t.expression s y)
  called s l op right y f e h =
      let both = named-append table (inside l) (inside right) in
      let two = named-append table (inside l) (inside right ++ []) in
      let one = named-append table (inside right) [] in
      let name = named-cons table (t.expression s (t.Identifier (record { text = f; span = s }) tt)) (inside l ++ (inside right ++ [])) in
      let count : named table (t.expression s (t.Op l op right) ∷ (inside l ++ inside right))
      ≡ 1 + named table (t.expression s (t.Identifier (record { text = f; span = s }) tt) ∷ (inside l ++ (inside right ++ []))) =
      named-cons table (t.expression s (t.Op l op right)) (inside l ++ inside right) ∙ ap (λ o. cond (is_some o) 1 0 + named table (inside l ++ inside right))
      e ∙ omega (arith, both, two, one, name) in
      let same : (k : ℕ) → below_replaced table k (call_of f s l right) ≡ shape_replaced table (1 + k) s (t.Op l op right) =
      λ k. (λ i. t.Call (t.expression s (t.Identifier (record { text = f; span = s }) tt))
      (t.arguments (t.Positional (sym (span_kept table (first_less k i) l) i) (replaced table (first_less k i) l))
      (t.arguments (t.Positional (sym (span_kept table (first_less k i - named table (inside l)) right) i)
      (replaced table (first_less k i - named table (inside l)) right)) t.no_arguments)))
      ∙ ap (λ n. call_or_op (Some f) n s (replaced table (n - 1) l) op (replaced table (n - 1 - named table (inside l)) right)) (one_more k)
      ∙ ap (λ o. call_or_op o (1 + k) s (replaced table ((1 + k) - one_if_some o) l) op
      (replaced table ((1 + k) - one_if_some o - named table (inside l)) right)) (sym e) in
      record {
        count = 1 + h.count;
        reaches =
            further 1 (t.expression s (t.Identifier (record { text = f; span = s }) tt) ∷ (inside l ++ (inside right ++ [])))
            (t.expression s (t.Op l op right) ∷ (inside l ++ inside right)) h.count count
            h.reaches;
        stands = ap (t.expression s) (h.stands ∙ same h.count);
      }
    where
      first_less : (k : ℕ) → k - 0 ≡ suc k - 1
      first_less k = omega arith

      one_more : (k : ℕ) → suc k ≡ 1 + k
      one_more k = omega arith

  operation : (s : Span) (l : t.Expression no_payload) (op : BinOp) (right : t.Expression no_payload) (y : t.Shape no_payload) (o : Option Text)
      → table (operator_name op) ≡ o
      → Replaces table (below_shape table) r (call_or_op o 1 s l op right) y → Replaces table (an_expression table) r (t.expression s (t.Op l op right))
      (t.expression s y)
  operation s l op right y None e h = kept s l op right y e h
  operation s l op right y (Some f) e h = called s l op right y f e h

  node : (s : Span) (x y : t.Shape no_payload) → Replaces table (below_shape table) r (shape_of (node_replaced table (t.expression s x))) y
      → Replaces table (an_expression table) r (t.expression s x) (t.expression s y)
  node s (t.Op l op right) y h = operation s l op right y (table (operator_name op)) refl h
  node s x y h = plain s x y refl (λ k. refl) h

  -- the node's replacement, and what is replaced below that
  pub entered : (e : t.Expression no_payload) (s : Span) (x y : t.Shape no_payload) → t.expression s x ≡ node_replaced table e
      → Replaces table (below_shape table) r x y
      → Replaces table (an_expression table) r e (t.expression s y)
  entered (t.expression z w) s x y e h =
      subst (λ u. Replaces table (an_expression table) r (t.expression z w) (t.expression u y)) (sym (ap expression_span e ∙ same_span z w))
      (node z w y (subst (λ u. Replaces table (below_shape table) r u y) (ap shape_of e) h))
    where
      same_span : (s : Span) (x : t.Shape no_payload) → expression_span (node_replaced table (t.expression s x)) ≡ s
      same_span s (t.Op l op right) = refl
      same_span s x = refl

module _ (table : Table) where
  falls_op : (s : Span) (l : t.Expression no_payload) (op : BinOp) (right : t.Expression no_payload) (o : Option Text)
      → weights (below (call_or_op o 1 s l op right)) < weights (t.expression s (t.Op l op right) ∷ (inside l ++ inside right))
  falls_op s l op right None = let e = weights-append (t.expression s (t.Op l op right) ∷ []) (inside l ++ inside right) in omega (arith, e)
  falls_op s l op right (Some f) =
      let e = weights-append (t.expression s (t.Op l op right) ∷ []) (inside l ++ inside right) in
      let both = weights-append (inside l) (inside right) in
      let name = weights-append (t.expression s (t.Identifier (record { text = f; span = s }) tt) ∷ []) (inside l ++ (inside right ++ [])) in
      let two = weights-append (inside l) (inside right ++ []) in
      let one = weights-append (inside right) [] in
      omega (arith, e, both, name, two, one)

  falls_plain : (e : t.Expression no_payload) (es : List (t.Expression no_payload)) → weight e ≡ 1 → weights es < weights (e ∷ es)
  falls_plain e es one = let h = weights-append (e ∷ []) es in omega (arith, h, one)

  -- what is below the node's replacement weighs less than the expression
  pub falls_below : (e : t.Expression no_payload) → weights (below (shape_of (node_replaced table e))) < weights (inside e)
  falls_below (t.expression s (t.Op l op right)) = falls_op s l op right (table (operator_name op))
  falls_below (t.expression s x) = falls_plain (t.expression s x) (below x) refl

-- the allocation of the call failed, and the operation is unchanged
pub refused : {E : Type 0} (table : Table) (e f : t.Expression no_payload) (r : Result (Unit {0}) E) → IsErr r → is_named table e ≡ true → f ≡ e
    → Replaces table (an_expression table) r e f
refused table (t.expression s x) f r failed named_here same =
    let count = named-cons table (t.expression s x) (below x) ∙ ap (λ b. cond b 1 0 + named table (below x)) named_here in
    record {
      count = 0;
      reaches = failing table (t.expression s x ∷ below x) 0 r failed (omega (arith, count));
      stands = same ∙ sym (none-expression table 0 refl (t.expression s x));
    }
