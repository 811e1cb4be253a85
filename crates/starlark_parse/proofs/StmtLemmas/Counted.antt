-- The commas of a load's symbols.
use Rattle.std.proofs.Common.{◌≡◌, suc, List, [], ◌∷◌, ◌++◌, length, length-append, Some, None, refl, ap, arith}
use Rattle.starlark_lexer.specs.Tokens.{Span}
use Rattle.starlark_tree.specs.Ast.{Word}
use Rattle.starlark_spec.specs.Grammar.{ElementKind, Derivation}
use Rattle.starlark_spec.specs.Grammar.Nonterminal.{CommaList}
use Rattle.starlark_spec.specs.Grammar.Derivation.{comma_list_one, comma_list_more}
use Rattle.starlark_spec.specs.Trees.{tree, element_tree, element_commas, load_argument, load_arguments}

pub commas_counted : {k : ElementKind} (d : Derivation (CommaList k)) → suc (length (element_commas d)) ≡ length (tree d)
commas_counted (comma_list_one u d) = refl
commas_counted (comma_list_more u d c e) = omega (
  arith,
  commas_counted d,
  length-append (element_commas d) (c ∷ []),
  length-append (tree d) (element_tree u (tree e) ∷ []),
)

-- one more name, with no comma after it
pub last_pushed : (ns : List (Word × Word)) (cs : List Span) (n : Word × Word) → length cs ≡ length ns → load_arguments (ns ++ n ∷ []) cs
    ≡ load_arguments ns cs ++ load_argument n None ∷ []
last_pushed [] [] n h = refl
last_pushed [] (c ∷ cs) n h = absurd (omega (arith, h))
last_pushed (m ∷ ns) [] n h = absurd (omega (arith, h))
last_pushed (m ∷ ns) (c ∷ cs) n h = ap (λ x. load_argument m (Some c) ∷ x) (last_pushed ns cs n (omega (arith, h)))

-- one more name, with a comma after it
pub more_pushed : (ns : List (Word × Word)) (cs : List Span) (n : Word × Word) (d : Span) → length cs ≡ length ns
    → load_arguments (ns ++ n ∷ []) (cs ++ d ∷ []) ≡ load_arguments ns cs ++ load_argument n (Some d) ∷ []
more_pushed [] [] n d h = refl
more_pushed [] (c ∷ cs) n d h = absurd (omega (arith, h))
more_pushed (m ∷ ns) [] n d h = absurd (omega (arith, h))
more_pushed (m ∷ ns) (c ∷ cs) n d h = ap (λ x. load_argument m (Some c) ∷ x) (more_pushed ns cs n d (omega (arith, h)))
