-- The lists and boxes of a tree that are clones, part by part.
use Rattle.std.proofs.Common.{◌≡◌, ℕ, ◌<◌, ◌+◌, List, [], ◌∷◌, ◌++◌, length, map, take, get_or, Option, Some, None, Box, Vec, Global, refl, sym, ap, ◌∙◌}
use Rattle.std.specs.List.{AllZip}
use Rattle.std.proofs.lemmas.List.{take_more}
use Rattle.std.proofs.lemmas.List.Elements.{AllZip-push}
use Rattle.starlark_lexer.specs.declared.span.Spanned.{Spanned}
use Rattle.starlark_tree.specs.declared.ast.ArgumentP.{ArgumentP}
use Rattle.starlark_tree.specs.declared.ast.ArgumentP.TheBlock as Block
use Rattle.starlark_tree.specs.declared.ast.AssignTargetP.{AssignTargetP}
use Rattle.starlark_tree.specs.declared.ast.ClauseP.{ClauseP}
use Rattle.starlark_tree.specs.declared.ast.ExprP.{ExprP}
use Rattle.starlark_tree.specs.declared.ast.ParameterP.{ParameterP}
use Rattle.starlark_tree.specs.declared.ast.StmtP.{StmtP}
use Rattle.starlark_tree.specs.declared.ast.StmtP.TheBlock as Stmts
use Rattle.starlark_tree.specs.declared.ast.TypeExprP.{TypeExprP}
use Rattle.starlark_tree.specs.Views.{payloads, expressions_seen, pairs_seen, arguments_seen, parameters_seen, targets_seen, clauses_seen, statements_seen}
use Rattle.starlark_tree.specs.Views.{maybe_seen, maybe_type_seen}
use Rattle.starlark_tree.specs.Views.{expression_of, pair_of, argument_of, parameter_of, target_of, clause_seen, statement_of, all_expressions, all_pairs}
use Rattle.starlark_tree.specs.Views.{all_arguments, all_parameters, all_targets, all_clauses, all_statements, maybe_of, boxed_type_of}
use Rattle.starlark_tree.specs.Clones.{Cloning, ClonesExpression, ClonesExpressions, ClonesPairs, ClonesArgument, ClonesArguments, ClonesParameter}
use Rattle.starlark_tree.specs.Clones.{ClonesParameters, ClonesTarget, ClonesTargets, ClonesClause, ClonesClauses, ClonesStatement, ClonesStatements}
use Rattle.starlark_tree.specs.Clones.{ClonesMaybe, ClonesMaybeType}
use Rattle.starlark_tree.proofs.Rows.{expressions_seen_of, pairs_seen_of, arguments_seen_of, parameters_seen_of, targets_seen_of, clauses_seen_of}
use Rattle.starlark_tree.proofs.Rows.{statements_seen_of, maybe_seen_of, maybe_type_seen_of}

-- one more element and its clone
pub one_more : {X : Type 0} (R : X → X → Type 0) (xs ys : List X) (i : ℕ) (x y : X)
    → i < length xs → x ≡ get_or xs i x → AllZip R (take i xs) ys → R x y → AllZip R (take (i + 1) xs) (ys ++ y ∷ [])
one_more R xs ys i x y p e zip r =
    rw (take_more xs i x p, ← e) (AllZip-push R (take i xs) ys x y zip r)

-- clones in memory are clones as seen
pub zip_mapped : {X Y : Type 0} (R : Y → Y → Type 0) (f : X → Y) (xs ys : List X) → AllZip (λ x y. R (f x) (f y)) xs ys → AllZip R (map f xs) (map f ys)
zip_mapped R f [] [] h = h
zip_mapped R f [] (y ∷ ys) h = absurd h
zip_mapped R f (x ∷ xs) [] h = absurd h
zip_mapped R f (x ∷ xs) (y ∷ ys) h = (h.0, zip_mapped R f xs ys h.1)

module _ {P A B C D E : Type 0} (R : Cloning (payloads A B C D E)) where
  clones_all_expressions : (xs ys : List (Spanned (ExprP P A B C D E))) → AllZip (λ x y. ClonesExpression R (expression_of x) (expression_of y)) xs ys
      → ClonesExpressions R (all_expressions xs) (all_expressions ys)
  clones_all_expressions [] [] h = h
  clones_all_expressions [] (y ∷ ys) h = absurd h
  clones_all_expressions (x ∷ xs) [] h = absurd h
  clones_all_expressions (x ∷ xs) (y ∷ ys) h = (h.0, clones_all_expressions xs ys h.1)

  pub expressions_cloned : (v w : Vec (Spanned (ExprP P A B C D E)) Global)
      → AllZip (λ x y. ClonesExpression R (expression_of x) (expression_of y)) v.items w.items
      → ClonesExpressions R (expressions_seen (Block.hidden-the_row-ExprP-Tuple-0-2-1 P A B C D E v))
      (expressions_seen (Block.hidden-the_row-ExprP-Tuple-0-2-1 P A B C D E w))
  expressions_cloned v w h = rw (expressions_seen_of v, expressions_seen_of w) (clones_all_expressions v.items w.items h)

  clones_all_pairs : (xs ys : List (Spanned (ExprP P A B C D E) × Spanned (ExprP P A B C D E)))
      → AllZip (λ x y. ClonesExpression R (expression_of x.0) (expression_of y.0) × ClonesExpression R (expression_of x.1) (expression_of y.1)) xs ys
      → ClonesPairs R (all_pairs xs) (all_pairs ys)
  clones_all_pairs [] [] h = h
  clones_all_pairs [] (y ∷ ys) h = absurd h
  clones_all_pairs (x ∷ xs) [] h = absurd h
  clones_all_pairs (x ∷ xs) (y ∷ ys) h = (h.0.0, h.0.1, clones_all_pairs xs ys h.1)

  pub pairs_cloned : (v w : Vec (Spanned (ExprP P A B C D E) × Spanned (ExprP P A B C D E)) Global)
      → AllZip (λ x y. ClonesExpression R (expression_of x.0) (expression_of y.0) × ClonesExpression R (expression_of x.1) (expression_of y.1)) v.items w.items
      → ClonesPairs R (pairs_seen (Block.hidden-the_row-ExprP-Dict-0-6-4 P A B C D E v)) (pairs_seen (Block.hidden-the_row-ExprP-Dict-0-6-4 P A B C D E w))
  pairs_cloned v w h = rw (pairs_seen_of v, pairs_seen_of w) (clones_all_pairs v.items w.items h)

  clones_all_arguments : (xs ys : List (Spanned (ArgumentP P A B C D E))) → AllZip (λ x y. ClonesArgument R (argument_of x) (argument_of y)) xs ys
      → ClonesArguments R (all_arguments xs) (all_arguments ys)
  clones_all_arguments [] [] h = h
  clones_all_arguments [] (y ∷ ys) h = absurd h
  clones_all_arguments (x ∷ xs) [] h = absurd h
  clones_all_arguments (x ∷ xs) (y ∷ ys) h = (h.0, clones_all_arguments xs ys h.1)

  pub arguments_cloned : (v w : Vec (Spanned (ArgumentP P A B C D E)) Global)
      → AllZip (λ x y. ClonesArgument R (argument_of x) (argument_of y)) v.items w.items
      → ClonesArguments R (arguments_seen (Block.hidden-the_row-CallArgsP-args-2-2 P A B C D E v))
      (arguments_seen (Block.hidden-the_row-CallArgsP-args-2-2 P A B C D E w))
  arguments_cloned v w h = rw (arguments_seen_of v, arguments_seen_of w) (clones_all_arguments v.items w.items h)

  pub clones_all_parameters : (xs ys : List (Spanned (ParameterP P A B C D E))) → AllZip (λ x y. ClonesParameter R (parameter_of x) (parameter_of y)) xs ys
      → ClonesParameters R (all_parameters xs) (all_parameters ys)
  clones_all_parameters [] [] h = h
  clones_all_parameters [] (y ∷ ys) h = absurd h
  clones_all_parameters (x ∷ xs) [] h = absurd h
  clones_all_parameters (x ∷ xs) (y ∷ ys) h = (h.0, clones_all_parameters xs ys h.1)

  pub parameters_cloned : (v w : Vec (Spanned (ParameterP P A B C D E)) Global)
      → AllZip (λ x y. ClonesParameter R (parameter_of x) (parameter_of y)) v.items w.items
      → ClonesParameters R (parameters_seen (Block.hidden-the_row-LambdaP-params-2-3 P A B C D E v))
      (parameters_seen (Block.hidden-the_row-LambdaP-params-2-3 P A B C D E w))
  parameters_cloned v w h = rw (parameters_seen_of v, parameters_seen_of w) (clones_all_parameters v.items w.items h)

  clones_all_targets : (xs ys : List (Spanned (AssignTargetP P A B C D E))) → AllZip (λ x y. ClonesTarget R (target_of x) (target_of y)) xs ys
      → ClonesTargets R (all_targets xs) (all_targets ys)
  clones_all_targets [] [] h = h
  clones_all_targets [] (y ∷ ys) h = absurd h
  clones_all_targets (x ∷ xs) [] h = absurd h
  clones_all_targets (x ∷ xs) (y ∷ ys) h = (h.0, clones_all_targets xs ys h.1)

  pub targets_cloned : (v w : Vec (Spanned (AssignTargetP P A B C D E)) Global)
      → AllZip (λ x y. ClonesTarget R (target_of x) (target_of y)) v.items w.items
      → ClonesTargets R (targets_seen (Block.hidden-the_row-AssignTargetP-Tuple-0-2-0 P A B C D E v))
      (targets_seen (Block.hidden-the_row-AssignTargetP-Tuple-0-2-0 P A B C D E w))
  targets_cloned v w h = rw (targets_seen_of v, targets_seen_of w) (clones_all_targets v.items w.items h)

  clones_all_clauses : (xs ys : List (ClauseP P A B C D E)) → AllZip (λ x y. ClonesClause R (clause_seen x) (clause_seen y)) xs ys
      → ClonesClauses R (all_clauses xs) (all_clauses ys)
  clones_all_clauses [] [] h = h
  clones_all_clauses [] (y ∷ ys) h = absurd h
  clones_all_clauses (x ∷ xs) [] h = absurd h
  clones_all_clauses (x ∷ xs) (y ∷ ys) h = (h.0, clones_all_clauses xs ys h.1)

  pub clauses_cloned : (v w : Vec (ClauseP P A B C D E) Global)
      → AllZip (λ x y. ClonesClause R (clause_seen x) (clause_seen y)) v.items w.items
      → ClonesClauses R (clauses_seen (Block.hidden-the_row-ClauseP-5 P A B C D E v)) (clauses_seen (Block.hidden-the_row-ClauseP-5 P A B C D E w))
  clauses_cloned v w h = rw (clauses_seen_of v, clauses_seen_of w) (clones_all_clauses v.items w.items h)

  clones_all_statements : (xs ys : List (Spanned (StmtP P A B C D E))) → AllZip (λ x y. ClonesStatement R (statement_of x) (statement_of y)) xs ys
      → ClonesStatements R (all_statements xs) (all_statements ys)
  clones_all_statements [] [] h = h
  clones_all_statements [] (y ∷ ys) h = absurd h
  clones_all_statements (x ∷ xs) [] h = absurd h
  clones_all_statements (x ∷ xs) (y ∷ ys) h = (h.0, clones_all_statements xs ys h.1)

  pub statements_cloned : (v w : Vec (Spanned (StmtP P A B C D E)) Global)
      → AllZip (λ x y. ClonesStatement R (statement_of x) (statement_of y)) v.items w.items
      → ClonesStatements R (statements_seen (Stmts.hidden-the_row-StmtP-Statements-0-2-0 P A B C D E v))
      (statements_seen (Stmts.hidden-the_row-StmtP-Statements-0-2-0 P A B C D E w))
  statements_cloned v w h = rw (statements_seen_of v, statements_seen_of w) (clones_all_statements v.items w.items h)

  pub maybe_cloned : (v w : Option (Box (Spanned (ExprP P A B C D E)) Global))
      → ClonesMaybe R (maybe_of v) (maybe_of w)
      → ClonesMaybe R (maybe_seen (Block.back-ExprP-Slice-1 P A B C D E v)) (maybe_seen (Block.back-ExprP-Slice-1 P A B C D E w))
  maybe_cloned v w h = rw (maybe_seen_of v, maybe_seen_of w) h

  pub type_cloned : (v w : Option (Box (Spanned (TypeExprP P A B C D E)) Global))
      → ClonesMaybeType R (boxed_type_of v) (boxed_type_of w)
      → ClonesMaybeType R (maybe_type_seen (Block.back-ParameterP-Normal-1 P A B C D E v)) (maybe_type_seen (Block.back-ParameterP-Normal-1 P A B C D E w))
  type_cloned v w h = rw (maybe_type_seen_of v, maybe_type_seen_of w) h

pub ruleset clones = (expressions_cloned, pairs_cloned, arguments_cloned, parameters_cloned, targets_cloned, clauses_cloned, maybe_cloned, type_cloned)
