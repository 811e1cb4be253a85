-- What the elements of a list are.
use Rattle.std.proofs.Common.{◌≡◌, List, [], ◌∷◌, ◌++◌, refl}
use Rattle.starlark_lexer.specs.Tokens.{Span}
use Rattle.starlark_tree.specs.Ast.{Expression, no_payload}
use Rattle.starlark_spec.specs.Trees.{tuple, tree, one_or_tuple}
use Rattle.starlark_spec.specs.Grammar.{Derivation}
use Rattle.starlark_spec.specs.Grammar.Nonterminal.{CommaList}
use Rattle.starlark_spec.specs.Grammar.ElementKind.{elements}
use Rattle.starlark_spec.specs.Grammar.ElementOf.{of_elements}
use Rattle.starlark_spec.specs.Grammar.Derivation.{comma_list_one, comma_list_more}

-- there are elements, so that with another they are a tuple
pub are_tuple : (d : Derivation (CommaList elements)) (e : Expression no_payload) (s : Span) → one_or_tuple s (tree d ++ e ∷ []) ≡ tuple s (tree d ++ e ∷ [])
are_tuple (comma_list_one of_elements d) e s = refl
are_tuple (comma_list_more of_elements d c f) e s = go (tree d)
  where
    go : (xs : List (Expression no_payload)) → one_or_tuple s ((xs ++ tree f ∷ []) ++ e ∷ []) ≡ tuple s ((xs ++ tree f ∷ []) ++ e ∷ [])
    go [] = refl
    go (x ∷ []) = refl
    go (x ∷ y ∷ xs) = refl
