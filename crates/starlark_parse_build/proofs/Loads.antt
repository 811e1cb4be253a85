-- The names of a load with their commas.
use Rattle.std.proofs.Common.{◌≡◌, suc, List, [], ◌∷◌, ◌++◌, length, None, Some, refl, ap, arith}
use Rattle.std.proofs.lemmas.List.{length-append}
use Rattle.starlark_lexer.specs.Tokens.{Span}
use Rattle.starlark_tree.specs.Ast.{Word}
use Rattle.starlark_spec.specs.Grammar.{ElementKind, Derivation}
use Rattle.starlark_spec.specs.Grammar.Nonterminal.{CommaList}
use Rattle.starlark_spec.specs.Grammar.Derivation.{comma_list_one, comma_list_more}
use Rattle.starlark_spec.specs.Trees.{load_argument, load_arguments, element_commas, element_tree, tree}

-- items have one comma less
pub commas_counted : {k : ElementKind} (d : Derivation (CommaList k)) → suc (length (element_commas d)) ≡ length (tree d)
commas_counted (comma_list_one u d) = refl
commas_counted (comma_list_more u d c e) = let before = commas_counted d in
    let l = length-append (element_commas d) (c ∷ []) in
    let r = length-append (tree d) (element_tree u (tree e) ∷ []) in omega (arith, before, l, r)

-- one more name, without a comma
pub symbol_alone : (ns : List (Word × Word)) (cs : List Span) (n : Word × Word) → length cs ≡ length ns
    → load_arguments (ns ++ n ∷ []) cs ≡ load_arguments ns cs ++ load_argument n None ∷ []
symbol_alone [] [] n e = refl
symbol_alone [] (c ∷ cs) n e = absurd (omega (arith, e))
symbol_alone (m ∷ ns) [] n e = absurd (omega (arith, e))
symbol_alone (m ∷ ns) (c ∷ cs) n e = ap (λ rest. load_argument m (Some c) ∷ rest) (symbol_alone ns cs n (omega (arith, e)))

-- one more name, and the comma after it
pub symbol_comma : (ns : List (Word × Word)) (cs : List Span) (n : Word × Word) (c : Span) → length cs ≡ length ns
    → load_arguments (ns ++ n ∷ []) (cs ++ c ∷ []) ≡ load_arguments ns cs ++ load_argument n (Some c) ∷ []
symbol_comma [] [] n c e = refl
symbol_comma [] (d ∷ cs) n c e = absurd (omega (arith, e))
symbol_comma (m ∷ ns) [] n c e = absurd (omega (arith, e))
symbol_comma (m ∷ ns) (d ∷ cs) n c e = ap (λ rest. load_argument m (Some d) ∷ rest) (symbol_comma ns cs n c (omega (arith, e)))
