-- The faults of assignments.
use Rattle.std.proofs.Common.{◌≡◌, true, false, if◌then◌else◌, Option, Some, None, is_some, Result, Ok, Err, refl, sym, ap, ◌∙◌}
use Rattle.starlark_lexer.specs.Tokens.{Span}
use Rattle.starlark_tree.specs.Ast as t
use Rattle.starlark_tree.specs.Ast.{no_payload, Expression, expression, MaybeType, Shape, Target}
use Rattle.starlark_tree.specs.declared.ast.operator.AssignOp.{AssignOp}
use Rattle.starlark_spec.specs.Assignments.{is_sequence, refuse_sequence, refuse_annotation, assigned, assigned_target}
use Rattle.starlark_spec.specs.Faults.{Fault, grammar_fault}
use Rattle.starlark_spec.specs.Targets.{and_then, target}
use Rattle.starlark_spec.specs.Machine.Faults.{fault_of}
use Rattle.starlark_spec.specs.Trees.{target_of}
use Rattle.starlark_spec.specs.declared.error.GrammarError.TheVariants.{InvalidModifyLhs}
use Rattle.starlark_parse_build.specs.Check.Checks.{Names}
use Rattle.starlark_spec.specs.declared.refusal.Refusal.{Refusal}
use Rattle.starlark_parse_build.proofs.CheckLemmas.FaultLemmas.{names_same}
use Rattle.starlark_parse_build.proofs.CheckLemmas.TargetLemmas.{target_is}

-- the fault of the first step is that of all
pub names_then : {A B : Type 0} (r : Result A Fault) (next : A → Result B Fault) (error : Refusal) → Names (fault_of r) error
    → Names (fault_of (and_then r next)) error
names_then r next error names = names_same (fault_of r) (fault_of (and_then r next)) error (λ f is. kept r f is) names
  where
    kept : (r : Result _ Fault) (f : Fault) → fault_of r ≡ Some f → fault_of (and_then r next) ≡ Some f
    kept (Ok x) f is = absurd (cc)
    kept (Err g) f is = is

pub several_refused : (s : Span) (shape : Shape no_payload) (op : Option AssignOp) → is_some op ≡ true → is_sequence shape ≡ true
    → Some (grammar_fault InvalidModifyLhs s) ≡ fault_of (refuse_sequence (expression s shape) op)
several_refused s shape None some is = absurd (cc)
several_refused s shape (Some op) some is = sym (ap (λ b. fault_of (if b then Err (grammar_fault InvalidModifyLhs s) else Ok (expression s shape))) is)

pub several_kept : (left : Expression no_payload) (op : Option AssignOp) → fault_of (refuse_sequence left op) ≡ None → refuse_sequence left op ≡ Ok left
several_kept (expression s shape) None fine = refl
several_kept (expression s shape) (Some op) fine = kept (is_sequence shape) fine
  where
    kept : (b : _) → fault_of (if b then Err (grammar_fault InvalidModifyLhs s) else Ok (expression s shape)) ≡ None
        → (if b then Err (grammar_fault InvalidModifyLhs s) else Ok (expression s shape)) ≡ Ok (expression s shape)
    kept true fine = absurd (cc)
    kept false fine = refl

typed_kept : (x : Target no_payload) (type : MaybeType no_payload) (op : Option AssignOp) (y : Target no_payload) → refuse_annotation x type op ≡ Ok y → y ≡ x
typed_kept x t.no_type op y is = cc
typed_kept x (t.typed s e p) (Some op) y is = absurd (cc)
typed_kept (t.TupleTarget r xs) (t.typed s e p) None y is = absurd (cc)
typed_kept (t.IndexTarget r a i) (t.typed s e p) None y is = cc
typed_kept (t.DotTarget r e w) (t.typed s f p) None y is = cc
typed_kept (t.NameTarget r w q) (t.typed s e p) None y is = cc

pub typed_same : (x : Target no_payload) (type : MaybeType no_payload) (op : Option AssignOp) → fault_of (refuse_annotation x type op) ≡ None
    → refuse_annotation x type op ≡ Ok x
typed_same x t.no_type op fine = refl
typed_same x (t.typed s e p) (Some op) fine = absurd (cc)
typed_same (t.TupleTarget r xs) (t.typed s e p) None fine = absurd (cc)
typed_same (t.IndexTarget r a i) (t.typed s e p) None fine = refl
typed_same (t.DotTarget r e w) (t.typed s f p) None fine = refl
typed_same (t.NameTarget r w q) (t.typed s e p) None fine = refl

module _ (left : Expression no_payload) (type : MaybeType no_payload) (op : Option AssignOp) (fine : fault_of (refuse_sequence left op) ≡ None) where
  after_left : assigned_target left type op ≡ and_then (target left) (λ x. refuse_annotation x type op)
  after_left = ap (λ r. and_then r (λ e. and_then (target e) (λ x. refuse_annotation x type op))) (several_kept left op fine)

  pub no_target_found : (error : Refusal) → Names (fault_of (target left)) error → Names (fault_of (assigned_target left type op)) error
  no_target_found error names =
      names_same _ _ error (λ f is. ap fault_of after_left ∙ is) (names_then (target left) (λ x. refuse_annotation x type op) error names)

  module _ (x : Target no_payload) (is : target left ≡ Ok x) where
    after_target : assigned_target left type op ≡ refuse_annotation x type op
    after_target = after_left ∙ ap (λ r. and_then r (λ x. refuse_annotation x type op)) is

    pub type_found : (error : Refusal) → Names (fault_of (refuse_annotation x type op)) error → Names (fault_of (assigned_target left type op)) error
    type_found error names = names_same _ _ error (λ f found. ap fault_of after_target ∙ found) names

    pub assigned_whole : fault_of (refuse_annotation x type op) ≡ None → assigned_target left type op ≡ Ok x
    assigned_whole none = after_target ∙ typed_same x type op none

-- the target of an assignment is that of its left side
pub assigned_target_is : (left : Expression no_payload) (type : MaybeType no_payload) (op : Option AssignOp) (y : Target no_payload)
    → assigned_target left type op ≡ Ok y → y ≡ target_of left
assigned_target_is left type op y is = from_left (refuse_sequence left op) refl is
  where
    from_target : (r : Result (Target no_payload) Fault) → target left ≡ r → and_then r (λ x. refuse_annotation x type op) ≡ Ok y → y ≡ target_of left
    from_target (Ok x) same found = typed_kept x type op y found ∙ target_is left x same
    from_target (Err f) same found = absurd (cc)

    from_left : (r : Result (Expression no_payload) Fault) → refuse_sequence left op ≡ r
        → and_then r (λ e. and_then (target e) (λ x. refuse_annotation x type op)) ≡ Ok y → y ≡ target_of left
    from_left (Ok e) same found =
        from_target (target left) refl (sym (ap (λ r. and_then r (λ e. and_then (target e) (λ x. refuse_annotation x type op)))
        (several_kept left op (ap fault_of same))) ∙ ap (λ r. and_then r (λ e. and_then (target e) (λ x. refuse_annotation x type op))) same ∙ found)
    from_left (Err f) same found = absurd (cc)

-- the statement of an assignment whose target was made
module _ (place : Span) (left : Expression no_payload) (type : MaybeType no_payload) (op : Option AssignOp) (y : Target no_payload)
    (made : assigned_target left type op ≡ Ok y) where
  pub plain_assigned : {x : Target no_payload} {ty : MaybeType no_payload} {v w : Expression no_payload} → op ≡ None → x ≡ y → ty ≡ type → v ≡ w
      → t.statement place (t.Assign x ty v) ≡ t.statement place (assigned type op w (target_of left))
  plain_assigned {x} {ty} {v} {w} none same typed value =
      ap (λ z. t.statement place (t.Assign z ty v)) (same ∙ assigned_target_is left type op y made)
      ∙ ap (λ z. t.statement place (t.Assign (target_of left) z v)) typed
      ∙ ap (λ z. t.statement place (t.Assign (target_of left) type z)) value
      ∙ sym (ap (λ o. t.statement place (assigned type o w (target_of left))) none)

  pub modified_assigned : {x : Target no_payload} {o : AssignOp} {v w : Expression no_payload} → op ≡ Some o → x ≡ y → v ≡ w
      → t.statement place (t.AssignModify x o v) ≡ t.statement place (assigned type op w (target_of left))
  modified_assigned {x} {o} {v} {w} some same value =
      ap (λ z. t.statement place (t.AssignModify z o v)) (same ∙ assigned_target_is left type op y made)
      ∙ ap (λ z. t.statement place (t.AssignModify (target_of left) o z)) value
      ∙ sym (ap (λ o. t.statement place (assigned type o w (target_of left))) some)
