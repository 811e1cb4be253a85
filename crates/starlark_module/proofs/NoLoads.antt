-- A tree that keeps the rules of a dialect without loads has none at its top.
use Rattle.std.proofs.Common.{◌≡◌, Bool, true, false, not, List as Seq, [], ◌∷◌, ◌++◌, map, Result, Ok, Err, IfOk, refl, sym, subst, ap, ap₂, ◌∙◌}
use Rattle.std.proofs.lemmas.List.Elements.{filter_map-append}
use Rattle.std.specs.Prelude.{filter_map}
use Rattle.starlark_spec.specs.Faults.{Fault}
use Rattle.starlark_lexer.specs.Places.{File}
use Rattle.starlark_lexer.specs.declared.dialect.Dialect.{Dialect}
use Rattle.starlark_passes.specs.Outline.Listed.{in_file}
use Rattle.starlark_passes.specs.Outline.Outline.{Load, all_top, load_of, loads, top_statements}
use Rattle.starlark_spec.specs.Items.{Items}
use Rattle.starlark_spec.specs.Trees.{module_tree}
use Rattle.starlark_tree.specs.Ast as t
use Rattle.starlark_tree.specs.Ast.{no_payload}
use Rattle.starlark_validate.specs.Answers.{IsValidModule}
use Rattle.starlark_validate.specs.KeptFaults.{kept}
use Rattle.starlark_validate.specs.KeptTreeFaults.{listed_if}
use Rattle.starlark_validate.specs.Validity.{expression_faults, statement_faults, statements_faults, top, tree_faults}

module _ {A : Type 0} where
  empty_first : (xs ys : Seq A) → xs ++ ys ≡ [] → xs ≡ []
  empty_first [] ys e = refl
  empty_first (x ∷ xs) ys e = cc

  empty_second : (xs ys : Seq A) → xs ++ ys ≡ [] → ys ≡ []
  empty_second [] ys e = e
  empty_second (x ∷ xs) ys e = cc

  empty_mapped : {B : Type 0} (f : A → B) (xs : Seq A) → map f xs ≡ [] → xs ≡ []
  empty_mapped f [] e = refl
  empty_mapped f (x ∷ xs) e = cc

is_listed : (b : Bool) (f : Fault) → b ≡ false → listed_if (not b) f ≡ [] → ⊥
is_listed true f off e = cc
is_listed false f off e = cc

module _ (d : Dialect) (off : d.enable_load ≡ false) where
  mutual
    no_loads : (s : t.Statement no_payload) → statement_faults d top s ≡ [] → loads s ≡ []
    no_loads (t.statement s (t.Block ss)) e = all_no_loads ss e
    no_loads (t.statement s (t.Load path names p)) e = absurd (is_listed d.enable_load _ off e)
    no_loads (t.statement s t.Break) e = refl
    no_loads (t.statement s t.Continue) e = refl
    no_loads (t.statement s t.Pass) e = refl
    no_loads (t.statement s (t.Return x)) e = refl
    no_loads (t.statement s (t.Evaluate x)) e = refl
    no_loads (t.statement s (t.Assign x ty v)) e = refl
    no_loads (t.statement s (t.AssignModify x op v)) e = refl
    no_loads (t.statement s (t.IfThen x body)) e = refl
    no_loads (t.statement s (t.IfElse x body other)) e = refl
    no_loads (t.statement s (t.For x over body)) e = refl
    no_loads (t.statement s (t.Def w p ps ty body q)) e = refl

    all_no_loads : (ss : t.Statements no_payload) → statements_faults d top ss ≡ [] → filter_map load_of (all_top ss) ≡ []
    all_no_loads t.no_statements e = refl
    all_no_loads (t.statements s ss) e =
        filter_map-append load_of (top_statements s) (all_top ss)
        ∙ ap₂ (λ xs ys. xs ++ ys) (no_loads s (empty_first (statement_faults d top s) _ e)) (all_no_loads ss (empty_second (statement_faults d top s) _ e))

-- neither has a valid module of that dialect
pub valid_without_loads : (d : Dialect) (items : Items) (s : t.Statement no_payload) → IsValidModule d items s → d.enable_load ≡ false → loads s ≡ []
valid_without_loads d items s v off =
    let tree : t.Statement no_payload = module_tree v.derivation in
    let in_tree = empty_second (kept d v.derivation) (tree_faults d tree) v.keeps.faultless in
    subst (λ x. loads x ≡ []) (sym v.tree_is) (no_loads d off tree (empty_first (statement_faults d top tree) (expression_faults d tree) in_tree))

-- without loads none is listed
pub none_listed : {X A E : Type 0} (r : Result A E) (items_of : A → Seq X) (seen : X → File × Load) (file : File) (ls : Seq Load)
    → IfOk r (λ found. map seen (items_of found) ≡ map (in_file file) ls) → ls ≡ [] → IfOk r (λ found. items_of found ≡ [])
none_listed (Ok found) items_of seen file ls same none = empty_mapped seen (items_of found) (same ∙ ap (map (in_file file)) none)
none_listed (Err e) items_of seen file ls same none = tt
