-- What each form of expression is as a target.
use Rattle.std.proofs.Common.{◌≡◌, suc, List, Ok, Err, Box, Vec, Global, String, refl, ap, sym, ◌∙◌}
use Rattle.std.specs.Bool.{⊤}
use Rattle.starlark_lexer.specs.Tokens.{Span, span_of}
use Rattle.starlark_lexer.specs.declared.span.Spanned.{Spanned}
use Rattle.starlark_tree.specs.Ast as t
use Rattle.starlark_tree.specs.Ast.{expression}
use Rattle.starlark_tree.specs.Views.{shape_seen, expression_of, target_of, all_expressions, all_targets, assign_word, ident_word}
use Rattle.starlark_tree.specs.declared.ast.ArgumentP.TheBlock as Block
use Rattle.starlark_tree.specs.declared.ast.AssignIdentP.{AssignIdentP}
use Rattle.starlark_tree.specs.declared.ast.AssignTargetP.{AssignTargetP}
use Rattle.starlark_tree.specs.declared.ast.AssignTargetP as x
use Rattle.starlark_tree.specs.declared.ast.ExprP as e
use Rattle.starlark_tree.specs.declared.ast.ExprP.TheVariants.{outs-List', rolls-List, outs-Tuple', rolls-Tuple}
use Rattle.starlark_tree.specs.declared.ast.IdentP.{IdentP}
use Rattle.starlark_tree.specs.declared.ast.payload.AstNoPayload.{AstNoPayload}
use Rattle.starlark_tree.proofs.Rows.{expressions_seen_of, targets_seen_of}
use Rattle.starlark_spec.specs.Faults.{grammar_fault}
use Rattle.starlark_spec.specs.declared.error.GrammarError.TheVariants.{InvalidLhs}
use Rattle.starlark_spec.specs.Targets.{map_ok, target, parts}
use Rattle.starlark_spec.specs.Machine.Faults.{fault_of}
use Rattle.starlark_parse_build.specs.Check.Checks.{Names}
use Rattle.starlark_spec.specs.declared.refusal.Refusal.{Refusal}
use Rattle.starlark_parse_build.proofs.CheckLemmas.FaultLemmas.{fault_map, names_same}
use Rattle.starlark_parse_build.proofs.CheckLemmas.TargetLemmas.{weight, weights}
use Rattle.starlark_parse_build.proofs.CheckLemmas.TypeForms.{Node, Code}

abbrev pub Made : Type 0
Made = AssignTargetP AstNoPayload ⊤ ⊤ ⊤ ⊤ ⊤

abbrev CodePair : Type 0
CodePair = Box (Code × Code) Global

-- an expression that is split, and its node
module _ (whole held : Code) (same : whole ≡ held) where
  seen : (other : Node) → whole.node ≡ other → target (expression_of held) ≡ target (expression (span_of whole.span) (shape_seen other))
  seen other is = sym (ap (λ h. target (expression_of h)) same) ∙ ap (λ n. target (expression (span_of whole.span) (shape_seen n))) is

  tuple_is : (v : Vec Code Global) → whole.node ≡ e.Tuple v → target (expression_of held) ≡ map_ok (t.TupleTarget (span_of whole.span))
      (parts (all_expressions v.items))
  tuple_is v is = seen (e.Tuple v) is ∙ ap (λ es. map_ok (t.TupleTarget (span_of whole.span)) (parts es)) (expressions_seen_of v)

  list_is : (v : Vec Code Global) → whole.node ≡ e.List v → target (expression_of held) ≡ map_ok (t.TupleTarget (span_of whole.span))
      (parts (all_expressions v.items))
  list_is v is = seen (e.List v) is ∙ ap (λ es. map_ok (t.TupleTarget (span_of whole.span)) (parts es)) (expressions_seen_of v)

  made : (w : Vec (Spanned Made) Global) (us : List (Spanned Made)) → w.items ≡ us → t.TupleTarget (span_of whole.span) (all_targets us)
      ≡ target_of (record { node = x.Tuple w; span = whole.span })
  made w us g = sym (ap (t.TupleTarget (span_of whole.span)) (targets_seen_of w) ∙ ap (λ ys. t.TupleTarget (span_of whole.span) (all_targets ys)) g)

  pub tuple_made : (v : Vec Code Global) (w : Vec (Spanned Made) Global) (us : List (Spanned Made)) → whole.node ≡ e.Tuple v → w.items ≡ us
      → parts (all_expressions v.items) ≡ Ok (all_targets us)
      → target (expression_of held) ≡ Ok (target_of (record { node = x.Tuple w; span = whole.span }))
  tuple_made v w us is g ok = tuple_is v is ∙ ap (map_ok (t.TupleTarget (span_of whole.span))) ok ∙ ap Ok (made w us g)

  pub list_made : (v : Vec Code Global) (w : Vec (Spanned Made) Global) (us : List (Spanned Made)) → whole.node ≡ e.List v → w.items ≡ us
      → parts (all_expressions v.items) ≡ Ok (all_targets us)
      → target (expression_of held) ≡ Ok (target_of (record { node = x.Tuple w; span = whole.span }))
  list_made v w us is g ok = list_is v is ∙ ap (map_ok (t.TupleTarget (span_of whole.span))) ok ∙ ap Ok (made w us g)

  pub tuple_found : (v : Vec Code Global) (error : Refusal) → whole.node ≡ e.Tuple v → Names (fault_of (parts (all_expressions v.items))) error
      → Names (fault_of (target (expression_of held))) error
  tuple_found v error is names = names_same _ _ error (λ f found. ap fault_of (tuple_is v is) ∙ fault_map (t.TupleTarget (span_of whole.span))
      (parts (all_expressions v.items)) ∙ found) names

  pub list_found : (v : Vec Code Global) (error : Refusal) → whole.node ≡ e.List v → Names (fault_of (parts (all_expressions v.items))) error
      → Names (fault_of (target (expression_of held))) error
  list_found v error is names = names_same _ _ error (λ f found. ap fault_of (list_is v is) ∙ fault_map (t.TupleTarget (span_of whole.span))
      (parts (all_expressions v.items)) ∙ found) names

  pub dot_made : (object : Box Code Global) (name : Spanned (String Global)) → whole.node ≡ e.Dot object name
      → target (expression_of held) ≡ Ok (target_of (record { node = x.Dot object name; span = whole.span }))
  dot_made object name is = seen (e.Dot object name) is

  pub index_made : (pair : CodePair) → whole.node ≡ e.Index pair → target (expression_of held)
      ≡ Ok (target_of (record { node = x.Index pair; span = whole.span }))
  index_made pair is = seen (e.Index pair) is

  pub name_made : (name : Spanned (IdentP AstNoPayload ⊤ ⊤ ⊤ ⊤ ⊤)) (bound : Spanned (AssignIdentP AstNoPayload ⊤ ⊤ ⊤ ⊤ ⊤)) → whole.node ≡ e.Identifier name
      → assign_word bound ≡ ident_word name
      → target (expression_of held) ≡ Ok (target_of (record { node = x.Identifier bound; span = whole.span }))
  name_made name bound is words = seen (e.Identifier name) is ∙ ap (λ w. Ok (t.NameTarget (span_of whole.span) w tt)) (sym words)

  pub tuple_lighter : (v : Vec Code Global) → whole.node ≡ e.Tuple v → weight (expression_of held) ≡ suc (weights (all_expressions v.items))
  tuple_lighter v is =
      sym (ap (λ h. weight (expression_of h)) same) ∙ ap (λ n. weight (expression (span_of whole.span) (shape_seen n))) is
      ∙ ap (λ es. suc (weights es)) (expressions_seen_of v)

  pub list_lighter : (v : Vec Code Global) → whole.node ≡ e.List v → weight (expression_of held) ≡ suc (weights (all_expressions v.items))
  list_lighter v is =
      sym (ap (λ h. weight (expression_of h)) same) ∙ ap (λ n. weight (expression (span_of whole.span) (shape_seen n))) is
      ∙ ap (λ es. suc (weights es)) (expressions_seen_of v)

tuple_of_row : (shape : _) (row : _) → e.Tuple' shape row ≡ e.Tuple (Block.shown-the_row-ExprP-Tuple-0-2-1 AstNoPayload ⊤ ⊤ ⊤ ⊤ ⊤ shape row)
tuple_of_row shape row = sym (e.roll-out-ExprP AstNoPayload ⊤ ⊤ ⊤ ⊤ ⊤ (e.Tuple' shape row)) ∙ ap (e.roll-ExprP AstNoPayload ⊤ ⊤ ⊤ ⊤ ⊤) (outs-Tuple' shape row)
    ∙ rolls-Tuple _

list_of_row : (shape : _) (row : _) → e.List' shape row ≡ e.List (Block.shown-the_row-ExprP-Tuple-0-2-1 AstNoPayload ⊤ ⊤ ⊤ ⊤ ⊤ shape row)
list_of_row shape row = sym (e.roll-out-ExprP AstNoPayload ⊤ ⊤ ⊤ ⊤ ⊤ (e.List' shape row)) ∙ ap (e.roll-ExprP AstNoPayload ⊤ ⊤ ⊤ ⊤ ⊤) (outs-List' shape row)
    ∙ rolls-List _

-- any other expression is not one
pub no_target : (node : Node) (s : Span) → ((v : Vec Code Global) → node ≡ e.Tuple v → ⊥) → ((v : Vec Code Global) → node ≡ e.List v → ⊥)
    → ((object : Box Code Global) (name : Spanned (String Global)) → node ≡ e.Dot object name → ⊥) → ((pair : CodePair) → node ≡ e.Index pair → ⊥)
    → ((name : Spanned (IdentP AstNoPayload ⊤ ⊤ ⊤ ⊤ ⊤)) → node ≡ e.Identifier name → ⊥) → target (expression s (shape_seen node))
    ≡ Err (grammar_fault InvalidLhs s)
no_target (e.Tuple' shape row) s tuple list dot index identifier = absurd (tuple _ (tuple_of_row shape row))
no_target (e.List' shape row) s tuple list dot index identifier = absurd (list _ (list_of_row shape row))
no_target (e.Dot' p x r name) s tuple list dot index identifier =
    absurd (dot (record { ptr = p.ptr; alloc = p.alloc; value = record { node = x; span = r } }) name refl)
no_target (e.Index' p a q i r) s tuple list dot index identifier =
    absurd (index (record { ptr = p.ptr; alloc = p.alloc; value = (record { node = a; span = q }, record { node = i; span = r }) }) refl)
no_target (e.Identifier name) s tuple list dot index identifier = absurd (identifier name refl)
no_target _ s tuple list dot index identifier = refl
