-- What a target contains is what its expression contains.
use Rattle.std.proofs.Common.{◌≡◌, List, ◌++◌, refl, Bool, true, false, if◌then◌else◌, Option, Some, None, Result, Ok, Err}
use Rattle.std.specs.Bool.{⊤}
use Rattle.starlark_lexer.specs.Tokens.{Span}
use Rattle.starlark_lexer.specs.declared.dialect.Dialect.{Dialect}
use Rattle.starlark_tree.specs.Ast as t
use Rattle.starlark_tree.specs.Ast.{no_payload, Expression, expression, Expressions, no_expressions, expressions, Shape, Target, Targets, MaybeType}
use Rattle.starlark_tree.specs.declared.ast.operator.AssignOp.{AssignOp}
use Rattle.starlark_spec.specs.Faults.{Fault, grammar_fault}
use Rattle.starlark_spec.specs.declared.error.GrammarError.TheVariants as rule
use Rattle.starlark_spec.specs.Targets.{map_ok, and_then, both, target, parts}
use Rattle.starlark_spec.specs.Assignments.{assigned, assigned_target, is_sequence, refuse_annotation}
use Rattle.starlark_spec.specs.Trees.{target_of, target_or_none}
use Rattle.starlark_validate.specs.KeptTreeFaults.{in_expression, in_expressions, in_target, in_targets, in_type, in_form}
use Rattle.starlark_validate.proofs.DerivationTargets.{IsFine}

pub pair : {A : Type 0} {a b c d : List A} → a ≡ c → b ≡ d → a ++ b ≡ c ++ d
pair e f = rw (e, f) refl

module _ (b : Dialect) where
  abbrev agrees : Result (Target no_payload) Fault → List Fault → Type 0
  agrees (Ok x) faults = faults ≡ in_target b x
  agrees (Err f) faults = ⊤

  abbrev agree : Result (Targets no_payload) Fault → List Fault → Type 0
  agree (Ok xs) faults = faults ≡ in_targets b xs
  agree (Err f) faults = ⊤

  as_tuple : (s : Span) (r : Result (Targets no_payload) Fault) (faults : List Fault) → agree r faults → agrees (map_ok (t.TupleTarget s) r) faults
  as_tuple s (Ok xs) faults h = h
  as_tuple s (Err f) faults h = tt

  and_more : (r : Result (Target no_payload) Fault) (q : Result (Targets no_payload) Fault) (first others : List Fault) → agrees r first
      → agree q others → agree (both t.targets r q) (first ++ others)
  and_more (Ok x) (Ok xs) first others g h = pair g h
  and_more (Ok x) (Err f) first others g h = tt
  and_more (Err f) q first others g h = tt

  mutual
    targeted : (e : Expression no_payload) → agrees (target e) (in_expression b e)
    targeted (expression s (t.Tuple es)) = as_tuple s (parts es) (in_expressions b es) (all_targeted es)
    targeted (expression s (t.List es)) = as_tuple s (parts es) (in_expressions b es) (all_targeted es)
    targeted (expression s (t.Dot e w)) = refl
    targeted (expression s (t.Index a i)) = refl
    targeted (expression s (t.Identifier w p)) = refl
    targeted (expression s other) = tt

    all_targeted : (es : Expressions no_payload) → agree (parts es) (in_expressions b es)
    all_targeted no_expressions = refl
    all_targeted (expressions e es) = and_more (target e) (parts es) (in_expression b e) (in_expressions b es) (targeted e) (all_targeted es)

  fine_so : (r : Result (Target no_payload) Fault) (faults : List Fault) → agrees r faults → IsFine r → faults ≡ in_target b (target_or_none r)
  fine_so (Ok x) faults h g = h
  fine_so (Err f) faults h g = absurd g

  pub as_target : (e : Expression no_payload) → IsFine (target e) → in_expression b e ≡ in_target b (target_of e)
  as_target e g = fine_so (target e) (in_expression b e) (targeted e) g

  assigns : (r : Result (Target no_payload) Fault) (faults : List Fault) (type : MaybeType no_payload) (op : Option AssignOp)
      (value : Expression no_payload) → agrees r faults
      → IsFine (and_then r (λ x. refuse_annotation x type op)) → faults ++ (in_type b type ++ in_expression b value)
      ≡ in_form b (assigned type op value (target_or_none r))
  assigns (Ok x) faults type None value h g = pair h refl
  assigns (Ok x) faults t.no_type (Some op) value h g = pair h refl
  assigns (Ok x) faults (t.typed s e p) (Some op) value h g = absurd g
  assigns (Err f) faults type op value h g = absurd g

  unless_sequence : (several : Bool) (s : Span) (shape : Shape no_payload) (type : MaybeType no_payload) (op : AssignOp) (value : Expression no_payload)
      → IsFine (and_then (if several then Err (grammar_fault rule.InvalidModifyLhs s) else Ok (expression s shape))
      (λ e. and_then (target e) (λ x. refuse_annotation x type (Some op))))
      → in_expression b (expression s shape) ++ (in_type b type ++ in_expression b value)
      ≡ in_form b (assigned type (Some op) value (target_of (expression s shape)))
  unless_sequence true s shape type op value g = absurd g
  unless_sequence false s shape type op value g =
      assigns (target (expression s shape)) (in_expression b (expression s shape)) type (Some op) value (targeted (expression s shape)) g

  pub as_assigned : (left : Expression no_payload) (type : MaybeType no_payload) (op : Option AssignOp) (value : Expression no_payload)
      → IsFine (assigned_target left type op)
      → in_expression b left ++ (in_type b type ++ in_expression b value) ≡ in_form b (assigned type op value (target_of left))
  as_assigned (expression s shape) type None value g =
      assigns (target (expression s shape)) (in_expression b (expression s shape)) type None value (targeted (expression s shape)) g
  as_assigned (expression s shape) type (Some op) value g = unless_sequence (is_sequence shape) s shape type op value g
