-- The steps of the parts of a statement, in terms of the parts in memory.
use Rattle.std.proofs.Common.{◌≡◌, ℕ, ◌<◌, ◌+◌, ◌*◌, max, Option, Box, Vec, Global, arith}
use Rattle.starlark_lexer.specs.declared.span.Spanned.{Spanned}
use Rattle.starlark_tree.specs.declared.ast.AssignTargetP.{AssignTargetP}
use Rattle.starlark_tree.specs.declared.ast.DefP.{DefP}
use Rattle.starlark_tree.specs.declared.ast.ExprP.{ExprP}
use Rattle.starlark_tree.specs.declared.ast.ParameterP.{ParameterP}
use Rattle.starlark_tree.specs.declared.ast.StmtP.{StmtP}
use Rattle.starlark_tree.specs.declared.ast.StmtP as statements
use Rattle.starlark_tree.specs.declared.ast.StmtP.TheBlock.{the_depth, member-StmtP}
use Rattle.starlark_tree.specs.declared.ast.StmtP.TheViews.{sized-Statements}
use Rattle.starlark_tree.specs.declared.ast.TypeExprP.{TypeExprP}
use Rattle.starlark_tree.specs.Views.{payloads, assign_word, boxed_type_of, expression_of, form_seen, maybe_type_of, parameter_of, statement_of, target_of}
use Rattle.starlark_payload.specs.Function.Steps.{◌⨾◌, Each}
use Rattle.starlark_payload.specs.Function.Mapped.{Calls, MapsExpression, MapsForm, MapsMaybeType, MapsParameter, MapsStatement, MapsTarget}
use Rattle.starlark_payload.proofs.Rows.{parameters_mapped}
use denote.Param.Weighed.{most}

module _ {P A B C D E Q G H K L M F : Type 0} (calls : Calls (payloads A B C D E) (payloads G H K L M) F) where
  pub def_mapped : (x : DefP P A B C D E) (y : DefP Q G H K L M) (before first second third after : F)
      → assign_word y.name ≡ assign_word x.name → calls.assign x.name.node.payload y.name.node.payload before first
      → (Each (λ x y. MapsParameter calls (parameter_of x) (parameter_of y)) x.params.items y.params.items ⨾ MapsMaybeType calls (boxed_type_of x.return_type)
      (boxed_type_of y.return_type)) first second
      → MapsStatement calls (statement_of x.body.value) (statement_of y.body.value) second third → calls.def x.payload y.payload third after
      → MapsForm calls (form_seen (statements.Def x)) (form_seen (statements.Def y)) before after
  def_mapped x y before first second third after word name signature body payload = (
    word,
    (
      first,
      name,
      (
        signature.0,
        parameters_mapped calls x.params.items y.params.items first signature.0 signature.1,
        (second, signature.2, (third, body, payload)),
      ),
    ),
  )

  abbrev pub maps_value : Spanned (ExprP P A B C D E) → Spanned (ExprP Q G H K L M) → F → F → Type 0
  maps_value x y = MapsExpression calls (expression_of x) (expression_of y)

  abbrev pub maps_boxed_value : Box (Spanned (ExprP P A B C D E)) Global → Box (Spanned (ExprP Q G H K L M)) Global → F → F → Type 0
  maps_boxed_value x y = MapsExpression calls (expression_of x.value) (expression_of y.value)

  abbrev pub maps_variable : Spanned (AssignTargetP P A B C D E) → Spanned (AssignTargetP Q G H K L M) → F → F → Type 0
  maps_variable x y = MapsTarget calls (target_of x) (target_of y)

  abbrev pub maps_annotation : Option (Spanned (TypeExprP P A B C D E)) → Option (Spanned (TypeExprP Q G H K L M)) → F → F → Type 0
  maps_annotation x y = MapsMaybeType calls (maybe_type_of x) (maybe_type_of y)

  abbrev pub maps_typed_value : Option (Spanned (TypeExprP P A B C D E)) × Spanned (ExprP P A B C D E) → Option (Spanned (TypeExprP Q G H K L M))
      × Spanned (ExprP Q G H K L M) → F → F → Type 0
  maps_typed_value x y = maps_annotation x.0 y.0 ⨾ maps_value x.1 y.1

  abbrev pub maps_parameters : Vec (Spanned (ParameterP P A B C D E)) Global → Vec (Spanned (ParameterP Q G H K L M)) Global → F → F → Type 0
  maps_parameters x y = Each (λ x y. MapsParameter calls (parameter_of x) (parameter_of y)) x.items y.items

  abbrev pub maps_return_type : Option (Box (Spanned (TypeExprP P A B C D E)) Global) → Option (Box (Spanned (TypeExprP Q G H K L M)) Global) → F → F → Type 0
  maps_return_type x y = MapsMaybeType calls (boxed_type_of x) (boxed_type_of y)

  abbrev pub maps_statement : Spanned (StmtP P A B C D E) → Spanned (StmtP Q G H K L M) → F → F → Type 0
  maps_statement x y = MapsStatement calls (statement_of x) (statement_of y)

module _ {P A B C D E : Type 0} where
  deeper : (v : Vec (Spanned (StmtP P A B C D E)) Global) → most (λ s. max (the_depth P A B C D E member-StmtP s.node) 0) v.items < the_depth P A B C D E
      member-StmtP (statements.Statements v)
  deeper v = let sized = sized-Statements P A B C D E v in omega (arith, sized)

  -- the statements of a block are smaller than the block
  pub block_smaller : (x : StmtP P A B C D E) (v : Vec (Spanned (StmtP P A B C D E)) Global) (size : ℕ) → x ≡ statements.Statements v
      → 4 * the_depth P A B C D E member-StmtP x + 0 ≡ size
      → 4 * most (λ s. max (the_depth P A B C D E member-StmtP s.node) 0) v.items + 1 < size
  block_smaller x v size is e = below (deeper v) (rw is at e)
    where
      below : {a b size : ℕ} → a < b → 4 * b + 0 ≡ size → 4 * a + 1 < size
      below less e = omega (arith, less, e)
