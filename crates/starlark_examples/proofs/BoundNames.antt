-- What a list of parts binds.
use Rattle.std.proofs.Common.{◌≡◌, ℕ, ◌≤◌, List, [], ◌∷◌, ◌++◌, Vec, Global, length, map, take, refl, sym, ap, ◌∙◌}
use Rattle.std.proofs.lemmas.List.{take_all}
use Rattle.std.specs.List.{flat_map}
use Rattle.starlark_syntax.specs.lexer.declared.span.Spanned.{Spanned}
use Rattle.starlark_syntax.specs.tree.declared.ast.AssignTargetP as target
use Rattle.starlark_syntax.specs.tree.declared.ast.LoadArgP.{LoadArgP}
use Rattle.starlark_syntax.specs.tree.declared.ast.LoadP.{LoadP}
use Rattle.starlark_syntax.specs.tree.declared.ast.StmtP as stmts
use Rattle.starlark_syntax.specs.tree.Names.{name_of}
use Rattle.starlark_syntax.specs.tree.Places.{all_lvalues, lvalues}
use Rattle.starlark_syntax.specs.tree.Views.{all_statements, all_targets, load_arg_of, statement_of, target_of}
use Rattle.starlark_syntax.proofs.tree.Rows.{statements_seen_of, targets_seen_of}
use Rattle.starlark_examples.specs.UnusedNames.{all_bound_names, bound_names}

module _ {P A B C D E : Type 0} where
  each_target : (xs : List (Spanned (target.AssignTargetP P A B C D E))) → all_lvalues (all_targets xs) ≡ flat_map (λ x. lvalues (target_of x)) xs
  each_target [] = refl
  each_target (x ∷ xs) = ap (λ names. lvalues (target_of x) ++ names) (each_target xs)

  pub tuple_names : (x : Spanned (target.AssignTargetP P A B C D E)) (v : Vec (Spanned (target.AssignTargetP P A B C D E)) Global) → x.node ≡ target.Tuple v
      → lvalues (target_of x) ≡ flat_map (λ x. lvalues (target_of x)) v.items
  tuple_names x v is = rw (is, targets_seen_of v) (each_target v.items)

  each_statement : (xs : List (Spanned (stmts.StmtP P A B C D E))) → all_bound_names (all_statements xs) ≡ flat_map (λ x. bound_names (statement_of x)) xs
  each_statement [] = refl
  each_statement (x ∷ xs) = ap (λ names. bound_names (statement_of x) ++ names) (each_statement xs)

  pub block_names : (x : Spanned (stmts.StmtP P A B C D E)) (v : Vec (Spanned (stmts.StmtP P A B C D E)) Global) → x.node ≡ stmts.Statements v
      → bound_names (statement_of x) ≡ flat_map (λ x. bound_names (statement_of x)) v.items
  block_names x v is = rw (is, statements_seen_of v) (each_statement v.items)

  each_symbol : (xs : List (LoadArgP P A B C D E)) → map (λ symbol. (symbol.local, symbol.payload)) (map load_arg_of xs) ≡ map (λ x. name_of x.local) xs
  each_symbol [] = refl
  each_symbol (x ∷ xs) = ap (λ names. name_of x.local ∷ names) (each_symbol xs)

  pub symbol_names : (x : Spanned (stmts.StmtP P A B C D E)) (l : LoadP P A B C D E) → x.node ≡ stmts.Load l → bound_names (statement_of x)
      ≡ map (λ x. name_of x.local) l.args.items
  symbol_names x l is = rw is (each_symbol l.args.items)

-- all items of a list, each with something
pub all_items : {X Y : Type 0} (f : X → Y) (xs ys : List X) (i : ℕ) (before after whole : List Y)
    → length xs ≤ i → xs ≡ ys → whole ≡ map f ys → after ≡ before ++ map f (take i xs) → after ≡ before ++ whole
all_items f xs ys i before after whole end same is invariant =
    invariant ∙ ap (λ l. before ++ map f l) (take_all i xs end ∙ same) ∙ ap (λ l. before ++ l) (sym is)
