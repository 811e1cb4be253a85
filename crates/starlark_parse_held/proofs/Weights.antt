-- The weight of a block, by its items.
use Rattle.std.proofs.Common.{◌≡◌, ◌+◌, List, [], ◌∷◌, Vec, Global, refl, sym, ap, ◌∙◌}
use Rattle.std.proofs.lemmas.List.Sums.{sum_by-cons}
use Rattle.std.specs.List.{sum_by}
use Rattle.starlark_lexer.specs.declared.span.Spanned.{Spanned}
use Rattle.starlark_tree.specs.Views.{all_statements}
use Rattle.starlark_tree.specs.declared.ast.StmtP as stmt
use Rattle.starlark_tree.specs.declared.ast.StmtP.{StmtP}
use Rattle.starlark_tree.proofs.Rows.{statements_seen_of}
use Rattle.starlark_parse_held.specs.Weight.{all_weight, parts_weight, statement_weight}

module _ {P A B C D E : Type 0} where
  all_weigh : (xs : List (Spanned (StmtP P A B C D E))) → all_weight (all_statements xs) ≡ sum_by statement_weight xs
  all_weigh [] = refl
  all_weigh (x ∷ xs) = ap (λ n. statement_weight x + n) (all_weigh xs) ∙ sym (sum_by-cons statement_weight x xs)

  pub block_weighs : (v : Vec (Spanned (StmtP P A B C D E)) Global) → parts_weight (stmt.Statements v) ≡ sum_by statement_weight v.items
  block_weighs v = ap all_weight (statements_seen_of v) ∙ all_weigh v.items
