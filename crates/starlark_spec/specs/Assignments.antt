-- Assignments, and statements one after another (Starlark specification, "Assignments", "Augmented assignments").
use Rattle.std.specs.Prelude.{ℕ, List as Seq, [], ◌∷◌, Bool, true, false, if◌then◌else◌, Option, Some, None, Result, Ok, Err}
use Rattle.starlark_lexer.specs.Tokens.{from_to}
use Rattle.starlark_tree.specs.Ast as t
use Rattle.starlark_tree.specs.Ast.{Payloads, no_payload, Expression, expression, Shape, MaybeType, Target, Form, Statement, statement}
use Rattle.starlark_tree.specs.declared.ast.operator.AssignOp.{AssignOp}
use Rattle.starlark_spec.specs.Faults.{Fault, grammar_fault}
use Rattle.starlark_spec.specs.Targets.{map_ok, and_then, target}
use Rattle.starlark_spec.specs.declared.error.GrammarError.TheVariants as rule

-- the only statement, or all of them from one byte offset to another
abbrev pub statements : {P : Payloads} → Seq (Statement P) → ℕ → ℕ → Statement P
statements (s ∷ []) begin end = s
statements ss begin end = statement (from_to begin end) (t.Block (t.statements_of ss))

abbrev pub is_sequence : {P : Payloads} → Shape P → Bool
is_sequence (t.Tuple es) = true
is_sequence (t.List es) = true
is_sequence _ = false

-- a list or tuple is not modified in place
abbrev pub refuse_sequence : Expression no_payload → Option AssignOp → Result (Expression no_payload) Fault
refuse_sequence (expression s shape) None = Ok (expression s shape)
refuse_sequence (expression s shape) (Some op) = if is_sequence shape then Err (grammar_fault rule.InvalidModifyLhs s) else Ok (expression s shape)

-- only a single target has a type, and only if there is no operator
abbrev pub refuse_annotation : Target no_payload → MaybeType no_payload → Option AssignOp → Result (Target no_payload) Fault
refuse_annotation x t.no_type op = Ok x
refuse_annotation x (t.typed s e p) (Some op) = Err (grammar_fault rule.TypeAnnotationOnAssignOp s)
refuse_annotation (t.TupleTarget r xs) (t.typed s e p) None = Err (grammar_fault rule.TypeAnnotationOnTupleAssign s)
refuse_annotation x (t.typed s e p) None = Ok x

-- the target, or the first fault: a list or tuple before an augmented operator, then an expression that is not a target, then the type
abbrev pub assigned_target : Expression no_payload → MaybeType no_payload → Option AssignOp → Result (Target no_payload) Fault
assigned_target left type op = and_then (refuse_sequence left op) (λ e. and_then (target e) (λ x. refuse_annotation x type op))

abbrev pub assigned : MaybeType no_payload → Option AssignOp → Expression no_payload → Target no_payload → Form no_payload
assigned type None value x = t.Assign x type value
assigned type (Some op) value x = t.AssignModify x op value

abbrev pub assignment : Expression no_payload → MaybeType no_payload → Option AssignOp → Expression no_payload → Result (Form no_payload) Fault
assignment left type op value = map_ok (assigned type op value) (assigned_target left type op)
