-- Statements one after another, and assignments.
use Rattle.std.proofs.Common.{◌≡◌, ℕ, List as Seq, [], ◌∷◌, length, map, Option, None, Result, Ok, Err, Vec, Global, refl, ap, ◌∙◌}
use Rattle.starlark_lexer.specs.Tokens.{Span, from_to, span_of}
use Rattle.starlark_lexer.specs.declared.span.Spanned.{Spanned}
use Rattle.starlark_tree.specs.Ast as t
use Rattle.starlark_tree.specs.Ast.{Payloads, no_payload, Expression, Form, MaybeType, Statement, Target}
use Rattle.starlark_tree.specs.Views.{form_seen, statement_of}
use Rattle.starlark_tree.specs.declared.ast.StmtP.{StmtP}
use Rattle.starlark_tree.specs.declared.ast.StmtP as s
use Rattle.starlark_tree.specs.declared.ast.operator.AssignOp.{AssignOp}
use Rattle.starlark_tree.proofs.Rows.{statements_seen_of}
use Rattle.starlark_spec.specs.Assignments.{statements, assigned, assigned_target, assignment}
use Rattle.starlark_spec.specs.Faults.{Fault}
use Rattle.starlark_spec.specs.Machine.Faults.{fault_of}
use Rattle.starlark_spec.specs.Targets.{map_ok}
use Rattle.starlark_spec.specs.Trees.{target_of}
use Rattle.starlark_parse_build.proofs.CheckLemmas.AssignmentLemmas.{assigned_target_is}

not_one : {P : Payloads} (ss : Seq (Statement P)) (begin end : ℕ) → (length ss ≡ 1 → ⊥) → t.statement (from_to begin end) (t.Block (t.statements_of ss))
    ≡ statements ss begin end
not_one [] begin end several = refl
not_one (x ∷ []) begin end several = absurd (several refl)
not_one (x ∷ y ∷ ss) begin end several = refl

module _ {P A B C D E : Type 0} where
  pub several : (made : Spanned (StmtP P A B C D E)) (xs : Vec (Spanned (StmtP P A B C D E)) Global) (ss : Seq (Statement _)) (begin end : ℕ)
      → made.node ≡ s.Statements xs
      → made.span.begin.byte ≡ begin → made.span.end.byte ≡ end → map statement_of xs.items ≡ ss → (length ss ≡ 1 → ⊥)
      → statement_of made ≡ statements ss begin end
  several made xs ss begin end node first last same many =
      ap (λ n. t.statement (span_of made.span) (form_seen n)) node
      ∙ ap (λ us. t.statement (span_of made.span) (t.Block us)) (statements_seen_of xs)
      ∙ ap (λ us. t.statement (span_of made.span) (t.Block (t.statements_of us))) same
      ∙ ap (λ b. t.statement (from_to b made.span.end.byte) (t.Block (t.statements_of ss))) first
      ∙ ap (λ e. t.statement (from_to begin e) (t.Block (t.statements_of ss))) last
      ∙ not_one ss begin end many

-- an assignment without fault
module _ (left : Expression no_payload) (type : MaybeType no_payload) (op : Option AssignOp) (value : Expression no_payload) where
  made_of : (r : Result (Target no_payload) Fault) → assigned_target left type op ≡ r → fault_of r ≡ None → assignment left type op value
      ≡ Ok (assigned type op value (target_of left))
  made_of (Ok x) is none = ap (map_ok (assigned type op value)) is ∙ ap (λ y. Ok (assigned type op value y)) (assigned_target_is left type op x is)
  made_of (Err f) is none = absurd (cc)

  pub assignment_made : (place span : Span) (form : Form no_payload) → fault_of (assigned_target left type op) ≡ None
      → t.statement place form ≡ t.statement span (assigned type op value (target_of left)) → assignment left type op value ≡ Ok form
  assignment_made place span form none same =
      let forms : assigned type op value (target_of left) ≡ form = cc in
      made_of (assigned_target left type op) refl none ∙ ap Ok forms

-- an assignment of equal parts
pub same_assignment : {l m v w : Expression no_payload} {ty uy : MaybeType no_payload} (op : Option AssignOp) → l ≡ m → ty ≡ uy → v ≡ w → assignment l ty op v
    ≡ assignment m uy op w
same_assignment {l} {m} {v} {w} {ty} {uy} op left type value =
    ap (λ e. assignment e ty op v) left ∙ ap (λ y. assignment m y op v) type ∙ ap (λ e. assignment m uy op e) value
