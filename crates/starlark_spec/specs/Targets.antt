-- Which expressions are targets (Starlark specification, "Assignments").
use Rattle.std.specs.Prelude.{Result, Ok, Err}
use Rattle.starlark_tree.specs.Ast as t
use Rattle.starlark_tree.specs.Ast.{no_payload, Expression, expression, Expressions, no_expressions, expressions, Target, Targets, no_targets, targets}
use Rattle.starlark_spec.specs.Faults.{Fault, grammar_fault}
use Rattle.starlark_spec.specs.declared.error.GrammarError.TheVariants.{InvalidLhs}

abbrev pub map_ok : {A B E : Type 0} → (A → B) → Result A E → Result B E
map_ok f (Ok x) = Ok (f x)
map_ok f (Err e) = Err e

-- the result of a value, or the fault
abbrev pub and_then : {A B E : Type 0} → Result A E → (A → Result B E) → Result B E
and_then (Ok x) next = next x
and_then (Err e) next = Err e

-- both, or the first fault
abbrev pub both : {A B C E : Type 0} → (A → B → C) → Result A E → Result B E → Result C E
both f (Ok x) second = map_ok (f x) second
both f (Err e) second = Err e

-- Tuples and lists become tuples, element by element. An expression that is not a target is the fault, the first one from the left.
abbrev mutual
  pub target : Expression no_payload → Result (Target no_payload) Fault
  target (expression s (t.Tuple es)) = map_ok (t.TupleTarget s) (parts es)
  target (expression s (t.List es)) = map_ok (t.TupleTarget s) (parts es)
  target (expression s (t.Dot e w)) = Ok (t.DotTarget s e w)
  target (expression s (t.Index a i)) = Ok (t.IndexTarget s a i)
  target (expression s (t.Identifier w p)) = Ok (t.NameTarget s w tt)
  target (expression s other) = Err (grammar_fault InvalidLhs s)

  pub parts : Expressions no_payload → Result (Targets no_payload) Fault
  parts no_expressions = Ok no_targets
  parts (expressions e es) = both targets (target e) (parts es)
