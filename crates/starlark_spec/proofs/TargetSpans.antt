-- The target that an expression is lies where the expression does.
use Rattle.std.proofs.Common.{Result, Ok, Err, arith}
use Rattle.starlark_lexer.specs.Tokens.{Span}
use Rattle.starlark_tree.specs.Ast as t
use Rattle.starlark_tree.specs.Ast.{no_payload, Expression, expression, Expressions, no_expressions, expressions, Target, Targets, no_targets, targets}
use Rattle.starlark_spec.specs.Faults.{Fault}
use Rattle.starlark_spec.specs.Targets.{map_ok, both, target, parts}
use Rattle.starlark_spec.specs.Trees.{target_of, target_or_none}
use Rattle.starlark_spec.specs.Nested.{IsInside, ExpressionIn, ExpressionsIn, TargetIn, TargetsIn}

pub inside_inside : {outer middle inner : Span} → IsInside outer middle → IsInside middle inner → IsInside outer inner
inside_inside a b = record { begins = omega (arith, a.begins, b.begins); runs = b.runs; ends = omega (arith, a.ends, b.ends) }

abbrev TargetOrFaultIn : Span → Result (Target no_payload) Fault → Type 0
TargetOrFaultIn s (Ok x) = TargetIn s x
TargetOrFaultIn s (Err f) = IsInside s f.span

abbrev TargetsOrFaultIn : Span → Result (Targets no_payload) Fault → Type 0
TargetsOrFaultIn s (Ok xs) = TargetsIn s xs
TargetsOrFaultIn s (Err f) = IsInside s f.span

tuple_in : (s own : Span) (r : Result (Targets no_payload) Fault) → IsInside s own → TargetsOrFaultIn own r → TargetOrFaultIn s (map_ok (t.TupleTarget own) r)
tuple_in s own (Ok xs) a b = (a, b)
tuple_in s own (Err f) a b = inside_inside a b

both_in : (s : Span) (x : Result (Target no_payload) Fault) (xs : Result (Targets no_payload) Fault) → TargetOrFaultIn s x → TargetsOrFaultIn s xs
    → TargetsOrFaultIn s (both targets x xs)
both_in s (Ok x) (Ok xs) a b = (a, b)
both_in s (Ok x) (Err f) a b = b
both_in s (Err f) xs a b = a

mutual
  target_or_fault_in : (s : Span) (e : Expression no_payload) → ExpressionIn s e → TargetOrFaultIn s (target e)
  target_or_fault_in s (expression own (t.Tuple es)) h = tuple_in s own (parts es) h.0 (parts_in own es h.1)
  target_or_fault_in s (expression own (t.List es)) h = tuple_in s own (parts es) h.0 (parts_in own es h.1)
  target_or_fault_in s (expression own (t.Dot e w)) h = (h.0, h.1.0, h.1.1)
  target_or_fault_in s (expression own (t.Index e i)) h = (h.0, h.1.0, h.1.1)
  target_or_fault_in s (expression own (t.Identifier w p)) h = (h.0, h.1)
  target_or_fault_in s (expression own other) h = h.0

  parts_in : (s : Span) (es : Expressions no_payload) → ExpressionsIn s es → TargetsOrFaultIn s (parts es)
  parts_in s no_expressions h = tt
  parts_in s (expressions e es) h = both_in s (target e) (parts es) (target_or_fault_in s e h.0) (parts_in s es h.1)

chosen : (s : Span) (r : Result (Target no_payload) Fault) → TargetOrFaultIn s r → TargetIn s (target_or_none r)
chosen s (Ok x) h = h
chosen s (Err f) h = (h, tt)

pub target_in : (s : Span) (e : Expression no_payload) → ExpressionIn s e → TargetIn s (target_of e)
target_in s e h = chosen s (target e) (target_or_fault_in s e h)
