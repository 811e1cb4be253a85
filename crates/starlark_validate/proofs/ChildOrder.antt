-- The children of most expressions have the same order in the text as in the tree.
use Rattle.std.proofs.Common.{◌≡◌, Box, Vec, Global, refl, sym, ap, ◌∙◌}
use Rattle.starlark_lexer.specs.declared.span.Spanned.{Spanned}
use Rattle.starlark_tree.specs.declared.ast.ClauseP.{ClauseP}
use Rattle.starlark_tree.specs.declared.ast.ExprP as expr
use Rattle.starlark_tree.specs.declared.ast.ExprP.TheVariants as variant
use Rattle.starlark_tree.specs.declared.ast.ForClauseP.{ForClauseP}
use Rattle.starlark_tree.specs.Places.{children}
use Rattle.starlark_tree.specs.Views.{shape_seen}
use Rattle.starlark_validate.specs.Walks.InText.{children_in_text}

module _ {P A B C D E : Type 0} where
  -- none of those whose parts have another order
  pub same_in_text : (e : expr.ExprP P A B C D E)
      → ((b : Box (Spanned (expr.ExprP P A B C D E) × Spanned (expr.ExprP P A B C D E) × Spanned (expr.ExprP P A B C D E)) Global) → e ≡ expr.If b → ⊥)
      → ((v : Box (Spanned (expr.ExprP P A B C D E)) Global) (f : Box (ForClauseP P A B C D E) Global) (o : Vec (ClauseP P A B C D E) Global)
      → e ≡ expr.ListComprehension v f o → ⊥)
      → ((v : Box (Spanned (expr.ExprP P A B C D E) × Spanned (expr.ExprP P A B C D E)) Global) (f : Box (ForClauseP P A B C D E) Global)
      (o : Vec (ClauseP P A B C D E) Global) → e ≡ expr.DictComprehension v f o → ⊥)
      → children e ≡ children_in_text (shape_seen e)
  same_in_text (expr.Tuple' shape row) no_if no_list no_dict = refl
  same_in_text (expr.Dot' p e s name) no_if no_list no_dict = refl
  same_in_text (expr.Call' p e s shape row) no_if no_list no_dict = refl
  same_in_text (expr.Index' p a s i r) no_if no_list no_dict = refl
  same_in_text (expr.Index2' p a s i r j q) no_if no_list no_dict = refl
  same_in_text (expr.Slice' p a s start stop step) no_if no_list no_dict = refl
  same_in_text (expr.Identifier name) no_if no_list no_dict = refl
  same_in_text (expr.Lambda' shape row p body s payload) no_if no_list no_dict = refl
  same_in_text (expr.Literal x) no_if no_list no_dict = refl
  same_in_text (expr.Not' p e s) no_if no_list no_dict = refl
  same_in_text (expr.Minus' p e s) no_if no_list no_dict = refl
  same_in_text (expr.Plus' p e s) no_if no_list no_dict = refl
  same_in_text (expr.BitNot' p e s) no_if no_list no_dict = refl
  same_in_text (expr.Op' p l s op q r u) no_if no_list no_dict = refl
  same_in_text (expr.If' p c s v r w u) no_if no_list no_dict =
      absurd (no_if _ (sym (expr.roll-out-ExprP P A B C D E (expr.If' p c s v r w u)) ∙ ap (expr.roll-ExprP P A B C D E) (variant.outs-If' p c s v r w u)
      ∙ variant.rolls-If _))
  same_in_text (expr.List' shape row) no_if no_list no_dict = refl
  same_in_text (expr.Dict' shape row) no_if no_list no_dict = refl
  same_in_text (expr.ListComprehension' p e s q var r over u shape row) no_if no_list no_dict =
      absurd (no_list _ _ _ (sym (expr.roll-out-ExprP P A B C D E (expr.ListComprehension' p e s q var r over u shape row))
      ∙ ap (expr.roll-ExprP P A B C D E) (variant.outs-ListComprehension' p e s q var r over u shape row) ∙ variant.rolls-ListComprehension _ _ _))
  same_in_text (expr.DictComprehension' p k s v r q var u over w shape row) no_if no_list no_dict =
      absurd (no_dict _ _ _ (sym (expr.roll-out-ExprP P A B C D E (expr.DictComprehension' p k s v r q var u over w shape row))
      ∙ ap (expr.roll-ExprP P A B C D E) (variant.outs-DictComprehension' p k s v r q var u over w shape row) ∙ variant.rolls-DictComprehension _ _ _))
  same_in_text (expr.FString' format shape row s) no_if no_list no_dict = refl
