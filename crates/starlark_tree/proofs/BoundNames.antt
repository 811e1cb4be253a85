-- The names that a target binds, by its parts.
use Rattle.std.proofs.Common.{◌≡◌, List, [], ◌∷◌, ◌++◌, Vec, Global, refl, ap, ◌∙◌}
use Rattle.std.specs.List.{flat_map}
use Rattle.starlark_lexer.specs.Tokens.{span_of}
use Rattle.starlark_lexer.specs.declared.span.Spanned.{Spanned}
use Rattle.starlark_tree.specs.declared.ast.AssignTargetP as target
use Rattle.starlark_tree.specs.Names.{lvalues_of}
use Rattle.starlark_tree.specs.Places.{all_lvalues, lvalues}
use Rattle.starlark_tree.specs.Views.{all_targets, target_seen}
use Rattle.starlark_tree.proofs.Rows.{targets_seen_of}

module _ {P A B C D E : Type 0} where
  anywhere : (s : _) (x : target.AssignTargetP P A B C D E) → lvalues (target_seen s x) ≡ lvalues_of x
  anywhere s (target.Tuple' shape row) = refl
  anywhere s (target.Index' p a r i q) = refl
  anywhere s (target.Dot' p e r name) = refl
  anywhere s (target.Identifier name) = refl

  all_names : (xs : List (Spanned (target.AssignTargetP P A B C D E))) → all_lvalues (all_targets xs)
      ≡ flat_map (λ (x : Spanned (target.AssignTargetP P A B C D E)). lvalues_of x.node) xs
  all_names [] = refl
  all_names (x ∷ xs) = ap (λ ys. ys ++ all_lvalues (all_targets xs)) (anywhere (span_of x.span) x.node) ∙ ap (λ ys. lvalues_of x.node ++ ys) (all_names xs)

  pub tuple_lvalues : (v : Vec (Spanned (target.AssignTargetP P A B C D E)) Global)
      → lvalues_of (target.Tuple v) ≡ flat_map (λ (x : Spanned (target.AssignTargetP P A B C D E)). lvalues_of x.node) v.items
  tuple_lvalues v = ap all_lvalues (targets_seen_of v) ∙ all_names v.items
