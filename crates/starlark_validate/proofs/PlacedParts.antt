-- The statements directly in a statement, and where they are.
use Rattle.std.proofs.Common.{◌≡◌, ◌<◌, arith, List, [], ◌∷◌, ◌++◌, length, map, Result, Ok, Err, Vec, Global, refl, sym, ap, ◌∙◌}
use Rattle.std.specs.Prelude.{IfOk}
use Rattle.std.specs.List.{flat_map}
use Rattle.std.proofs.lemmas.List.Folds.{flat_map-map}
use Rattle.starlark_lexer.specs.Tokens.{Span}
use Rattle.starlark_lexer.specs.declared.span.Spanned.{Spanned}
use Rattle.starlark_tree.specs.declared.ast.StmtP as stmt
use Rattle.starlark_tree.specs.declared.ast.StmtP.{StmtP}
use Rattle.starlark_tree.specs.Ast as t
use Rattle.starlark_tree.specs.Ast.{Payloads}
use Rattle.starlark_tree.specs.Views.{form_seen, statement_of}
use Rattle.starlark_validate.specs.Validity.{Around}
use Rattle.starlark_validate.specs.Clean.{Placed, form_parts, placed_at, placed_there}
use Rattle.starlark_tree.specs.Children.{own_stmts}
use Rattle.starlark_validate.specs.Walks.Statements.{around_in, around_of}
use Rattle.starlark_validate.specs.declared.statements.Around.{Around as CodeAround}
use Rattle.starlark_validate.proofs.NodeParts.{block_statements, statements_inside, statements_parted}

-- a statement and all in it, wherever it is: the measure of the walk
abbrev pub placed_inside : {P : Payloads} → Placed P → List (t.Statement P)
placed_inside p = statements_inside p.statement

pub parts_fall : {P : Payloads} (a : Around) (s : Span) (form : t.Form P) → length (flat_map placed_inside (form_parts a form)) < length
    (statements_inside (t.statement s form))
parts_fall a s form =
    let same : length (flat_map placed_inside (form_parts a form)) ≡ length (flat_map statements_inside (own_stmts form)) =
    ap length (flat_map-map placed_inside (placed_at (around_in a form)) (own_stmts form)) in
    omega (arith, same, ap length (statements_parted form))

module _ {P A B C D E : Type 0} where
  each_there : (w : CodeAround) (xs : List (Spanned (StmtP P A B C D E))) → map (placed_there w) xs ≡ map (placed_at (around_of w)) (map statement_of xs)
  each_there w [] = refl
  each_there w (x ∷ xs) = ap (λ ys. placed_there w x ∷ ys) (each_there w xs)

  -- the statements of a block
  pub block_parts : (w : CodeAround) (a : Around) (v : Vec (Spanned (StmtP P A B C D E)) Global) (s : StmtP P A B C D E) → s ≡ stmt.Statements v
      → around_of w ≡ around_in a (form_seen s)
      → map (placed_there w) v.items ≡ form_parts a (form_seen s)
  block_parts w a v s is same =
      each_there w v.items
      ∙ ap (map (placed_at (around_of w))) (sym (block_statements v) ∙ sym (ap (λ x. own_stmts (form_seen x)) is))
      ∙ ap (λ b. map (placed_at b) (own_stmts (form_seen s))) same

-- the same items are added
pub added_at : {X V F : Type 0} (r : Result V F) (after before : List X) {ys zs : List X} → ys ≡ zs → IfOk r (λ _. after ≡ before ++ ys)
    → IfOk r (λ _. after ≡ before ++ zs)
added_at (Ok v) after before e h = h ∙ ap (λ rest. before ++ rest) e
added_at (Err x) after before e h = tt
