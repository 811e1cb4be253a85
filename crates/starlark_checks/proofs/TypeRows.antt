-- The rows of types in memory as the lists of their vectors.
use Rattle.std.proofs.Common.{◌≡◌, List as Seq, [], ◌∷◌, ◌++◌, map, Vec, Global, refl, ap, sym, ◌∙◌}
use Rattle.std.proofs.lemmas.List.{map-append}
use Rattle.starlark_lexer.specs.Tokens.{span_of}
use Rattle.starlark_lexer.specs.declared.span.Spanned.{Spanned}
use Rattle.starlark_spec.specs.Types as types
use Rattle.starlark_checks.specs.TypeViews.{form_seen, forms_seen, type_seen, all_types}
use Rattle.starlark_checks.specs.declared.type_expr.TypeExprUnpackP.{TypeExprUnpackP}
use Rattle.starlark_checks.specs.declared.type_expr.TypeExprUnpackP.TheBlock as Block
use Rattle.starlark_checks.proofs.TypeLemmas.{append_of}

module _ {P A B C D E : Type 0} where
  forms_seen-items : {n : _} (k : Block.Row_of-TypeExprUnpackP-List-0-2 P A B C D E n)
      → forms_seen k ≡ all_types (Block.items-the_row-TypeExprUnpackP-List-0-2 P A B C D E n k)
  forms_seen-items Block.end_of-TypeExprUnpackP-List-0-2 = refl
  forms_seen-items (Block.more_of-TypeExprUnpackP-List-0-2 e s rest) = ap (types.readings_with (types.reads (span_of s) (form_seen e))) (forms_seen-items rest)

  pub forms_seen_of : (v : Vec (Spanned (TypeExprUnpackP P A B C D E)) Global) → forms_seen (Block.hidden-the_row-TypeExprUnpackP-List-0-2-0 P A B C D E v)
      ≡ all_types v.items
  forms_seen_of v = forms_seen-items (Block.hidden-the_row-TypeExprUnpackP-List-0-2-0 P A B C D E v)
      ∙ ap all_types (Block.items_hidden-the_row-TypeExprUnpackP-List-0-2-0 P A B C D E v)

  -- the types of two vectors
  pub rows_joined : (xs ys zs : Seq (Spanned (TypeExprUnpackP P A B C D E))) → zs ≡ xs ++ ys → types.append (all_types xs) (all_types ys) ≡ all_types zs
  rows_joined xs ys zs is = append_of (map type_seen xs) (map type_seen ys) ∙ ap types.readings_of (sym (map-append type_seen xs ys)) ∙ ap all_types (sym is)

  -- the types of a vector, and one more
  pub row_more : (xs : Seq (Spanned (TypeExprUnpackP P A B C D E))) (y : Spanned (TypeExprUnpackP P A B C D E))
      (zs : Seq (Spanned (TypeExprUnpackP P A B C D E))) → zs ≡ xs ++ y ∷ []
      → types.append (all_types xs) (types.readings_with (type_seen y) types.no_readings) ≡ all_types zs
  row_more xs y zs is = rows_joined xs (y ∷ []) zs is
