-- The nodes in a node of the tree, by its parts.
use Rattle.std.proofs.Common.{◌≡◌, ℕ, ◌<◌, ◌≤◌, suc, List, [], ◌∷◌, ◌++◌, length, get_or, take, map, Option, Some, None, Box, Vec, Global, refl, sym, ap, ◌∙◌}
use Rattle.std.proofs.Common.{arith, length-append}
use Rattle.std.specs.List.{flat_map}
use Rattle.starlark_lexer.specs.Tokens.{span_of, nowhere}
use Rattle.starlark_lexer.specs.declared.span.Spanned.{Spanned}
use Rattle.starlark_tree.specs.declared.ast.ArgumentP.TheBlock as Block
use Rattle.starlark_tree.specs.declared.ast.AssignIdentP.{AssignIdentP}
use Rattle.starlark_tree.specs.declared.ast.ArgumentP as argument
use Rattle.starlark_tree.specs.declared.ast.AssignTargetP as target
use Rattle.starlark_tree.specs.declared.ast.CallArgsP.{CallArgsP}
use Rattle.starlark_tree.specs.declared.ast.ClauseP.{ClauseP}
use Rattle.starlark_tree.specs.declared.ast.ExprP as expr
use Rattle.starlark_tree.specs.declared.ast.ExprP.{ExprP}
use Rattle.starlark_tree.specs.declared.ast.FStringP.{FStringP}
use Rattle.starlark_tree.specs.declared.ast.ForClauseP.{ForClauseP}
use Rattle.starlark_tree.specs.declared.ast.LambdaP.{LambdaP}
use Rattle.starlark_tree.specs.declared.ast.ParameterP as parameter
use Rattle.starlark_tree.specs.declared.ast.TypeExprP.{TypeExprP}
use Rattle.starlark_tree.specs.Ast as t
use Rattle.starlark_tree.specs.Parts.{argument_expression}
use Rattle.starlark_tree.specs.Places.{argument_expr, arguments_exprs, children, clause_exprs, clauses_exprs, parameter_exprs, parameters_exprs, pairs_exprs}
use Rattle.starlark_tree.specs.Places.{for_exprs, exprs_in_parameter, exprs_in_target, maybe_exprs, target_exprs, targets_exprs, type_exprs}
use Rattle.starlark_tree.specs.Views.{all_arguments, all_clauses, all_pairs, all_parameters, argument_seen, clause_seen, clauses_seen, expressions_seen}
use Rattle.starlark_tree.specs.Views.{maybe_seen, parameter_seen, boxed_type_of, expression_of, for_in_of, maybe_of, target_seen, all_targets}
use Rattle.starlark_tree.proofs.Loops.{parted}
use Rattle.starlark_tree.proofs.Rows.{arguments_seen_of, clauses_seen_of, expressions_seen_of, maybe_seen_of, pairs_seen_of, parameters_seen_of}
use Rattle.starlark_tree.proofs.Rows.{targets_seen_of}

-- an item's list is no longer than the list that contains it
pub item_shorter : {A X : Type 0} (places : A → List X) (xs : List A) (i : ℕ) (x : A) → i < length xs → x ≡ get_or xs i x
    → length (places x) ≤ length (flat_map places xs)
item_shorter places xs i x within is =
    rw (parted places xs i x within is, length-append (flat_map places (take i xs)), length-append (places x)) (omega arith)

-- the tuples in a target: the measure of its recursion
abbrev mutual
  pub tuples : {P : t.Payloads} → t.Target P → List ℕ
  tuples (t.TupleTarget s ts) = 0 ∷ all_tuples ts
  tuples (t.IndexTarget s a i) = []
  tuples (t.DotTarget s e w) = []
  tuples (t.NameTarget s w p) = []

  pub all_tuples : {P : t.Payloads} → t.Targets P → List ℕ
  all_tuples t.no_targets = []
  all_tuples (t.targets x xs) = tuples x ++ all_tuples xs

module _ {P A B C D E : Type 0} where
  pub normal_exprs : (name : Spanned (AssignIdentP P A B C D E)) (ty : Option (Box (Spanned (TypeExprP P A B C D E)) Global))
      (default : Option (Box (Spanned (ExprP P A B C D E)) Global))
      → exprs_in_parameter (parameter.Normal name ty default) ≡ type_exprs (boxed_type_of ty) ++ maybe_exprs (maybe_of default)
  normal_exprs name None None = refl
  normal_exprs name None (Some d) = refl
  normal_exprs name (Some ty) None = refl
  normal_exprs name (Some ty) (Some d) = refl

  pub normal_at : {name : Spanned (AssignIdentP P A B C D E)} (ty : Option (Box (Spanned (TypeExprP P A B C D E)) Global))
      (default : Option (Box (Spanned (ExprP P A B C D E)) Global)) {whole : parameter.ParameterP P A B C D E}
      → whole ≡ parameter.Normal name ty default → type_exprs (boxed_type_of ty) ++ maybe_exprs (maybe_of default) ≡ exprs_in_parameter whole
  normal_at {name} ty default is = sym (ap exprs_in_parameter is ∙ normal_exprs name ty default)

  -- a target has the same expressions wherever it is
  pub anywhere : (s : _) (x : target.AssignTargetP P A B C D E) → target_exprs (target_seen s x) ≡ exprs_in_target x
  anywhere s (target.Tuple' shape row) = refl
  anywhere s (target.Index' p a r i q) = refl
  anywhere s (target.Dot' p e r name) = refl
  anywhere s (target.Identifier name) = refl

  pub for_exprs_of : (c : ForClauseP P A B C D E) → for_exprs (for_in_of c) ≡ exprs_in_target c.var.node ++ expression_of c.over ∷ []
  for_exprs_of c = ap (λ ys. ys ++ expression_of c.over ∷ []) (anywhere (span_of c.var.span) c.var.node)

  all_exprs : (xs : List (Spanned (target.AssignTargetP P A B C D E))) → targets_exprs (all_targets xs)
      ≡ flat_map (λ (x : Spanned (target.AssignTargetP P A B C D E)). exprs_in_target x.node) xs
  all_exprs [] = refl
  all_exprs (x ∷ xs) =
      ap (λ ys. ys ++ targets_exprs (all_targets xs)) (anywhere (span_of x.span) x.node) ∙ ap (λ ys. exprs_in_target x.node ++ ys) (all_exprs xs)

  pub tuple_exprs : (v : Vec (Spanned (target.AssignTargetP P A B C D E)) Global)
      → exprs_in_target (target.Tuple v) ≡ flat_map (λ (x : Spanned (target.AssignTargetP P A B C D E)). exprs_in_target x.node) v.items
  tuple_exprs v = ap targets_exprs (targets_seen_of v) ∙ all_exprs v.items

  tuples_anywhere : (s : _) (x : target.AssignTargetP P A B C D E) → tuples (target_seen s x) ≡ tuples (target_seen nowhere x)
  tuples_anywhere s (target.Tuple' shape row) = refl
  tuples_anywhere s (target.Index' p a r i q) = refl
  tuples_anywhere s (target.Dot' p e r name) = refl
  tuples_anywhere s (target.Identifier name) = refl

  tuples_of : (xs : List (Spanned (target.AssignTargetP P A B C D E))) → all_tuples (all_targets xs)
      ≡ flat_map (λ (x : Spanned (target.AssignTargetP P A B C D E)). tuples (target_seen nowhere x.node)) xs
  tuples_of [] = refl
  tuples_of (x ∷ xs) =
      ap (λ ys. ys ++ all_tuples (all_targets xs)) (tuples_anywhere (span_of x.span) x.node) ∙ ap (λ ys. tuples (target_seen nowhere x.node) ++ ys)
      (tuples_of xs)

  -- a part of a tuple has fewer tuples
  pub part_falls : (v : Vec (Spanned (target.AssignTargetP P A B C D E)) Global) (xs : List (Spanned (target.AssignTargetP P A B C D E))) (i : ℕ)
      (x : Spanned (target.AssignTargetP P A B C D E)) (whole : target.AssignTargetP P A B C D E) (t : ℕ)
      → i < length xs → x ≡ get_or xs i x → xs ≡ v.items → whole ≡ target.Tuple v → length (tuples (target_seen nowhere whole)) ≡ t
      → length (tuples (target_seen nowhere x.node)) < t
  part_falls v xs i x whole t within is same e q =
      let least = item_shorter (λ (y : Spanned (target.AssignTargetP P A B C D E)). tuples (target_seen nowhere y.node)) xs i x within is in
      let all : length (tuples (target_seen nowhere (target.Tuple v)))
      ≡ suc (length (flat_map (λ (y : Spanned (target.AssignTargetP P A B C D E)). tuples (target_seen nowhere y.node)) v.items)) =
      ap (λ ys. suc (length ys)) (ap all_tuples (targets_seen_of v) ∙ tuples_of v.items) in
      let held = rw e at q in
      let bound = rw same at least in
      omega (arith, all, held, bound)

list_of : {Q : t.Payloads} (xs : List (t.Expression Q)) → t.expression_list (t.expressions_of xs) ≡ xs
list_of [] = refl
list_of (x ∷ xs) = ap (λ ys. x ∷ ys) (list_of xs)

-- the children of an expression, by its parts
module _ {P A B C D E : Type 0} where
  expressions_in : (v : Vec (Spanned (ExprP P A B C D E)) Global)
      → t.expression_list (expressions_seen (Block.hidden-the_row-ExprP-Tuple-0-2-1 P A B C D E v)) ≡ map expression_of v.items
  expressions_in v = ap t.expression_list (expressions_seen_of v) ∙ list_of (map expression_of v.items)

  pub tuple_children : (v : Vec (Spanned (ExprP P A B C D E)) Global) → children (expr.Tuple v) ≡ map expression_of v.items
  tuple_children v = expressions_in v

  pub list_children : (v : Vec (Spanned (ExprP P A B C D E)) Global) → children (expr.List v) ≡ map expression_of v.items
  list_children v = expressions_in v

  pub fstring_children : (f : Spanned (FStringP P A B C D E)) → children (expr.FString f) ≡ map expression_of f.node.expressions.items
  fstring_children f = expressions_in f.node.expressions

  argument_anywhere : (s : _) (a : argument.ArgumentP P A B C D E) → argument_expr (argument_seen s a) ≡ expression_of (argument_expression a)
  argument_anywhere s (argument.Positional' e r) = refl
  argument_anywhere s (argument.Named' w e r) = refl
  argument_anywhere s (argument.Args' e r) = refl
  argument_anywhere s (argument.KwArgs' e r) = refl

  arguments_in : (xs : List (Spanned (argument.ArgumentP P A B C D E))) → arguments_exprs (all_arguments xs)
      ≡ map (λ (a : Spanned (argument.ArgumentP P A B C D E)). expression_of (argument_expression a.node)) xs
  arguments_in [] = refl
  arguments_in (x ∷ xs) =
      ap (λ y. y ∷ arguments_exprs (all_arguments xs)) (argument_anywhere (span_of x.span) x.node)
      ∙ ap (λ ys. expression_of (argument_expression x.node) ∷ ys) (arguments_in xs)

  pub call_children : (b : Box (Spanned (ExprP P A B C D E)) Global) (args : CallArgsP P A B C D E)
      → children (expr.Call b args) ≡ expression_of b.value ∷ map (λ (a : Spanned (argument.ArgumentP P A B C D E)). expression_of
      (argument_expression a.node)) args.args.items
  call_children b args = ap (λ ys. expression_of b.value ∷ ys) (ap arguments_exprs (arguments_seen_of args.args) ∙ arguments_in args.args.items)

  pub slice_children : (a : Box (Spanned (ExprP P A B C D E)) Global) (start stop step : Option (Box (Spanned (ExprP P A B C D E)) Global))
      → children (expr.Slice a start stop step) ≡ expression_of a.value ∷
      (maybe_exprs (maybe_of start) ++ (maybe_exprs (maybe_of stop) ++ maybe_exprs (maybe_of step)))
  slice_children a start stop step =
      ap (λ m. expression_of a.value ∷ (maybe_exprs m ++ (maybe_exprs (maybe_seen (Block.back-ExprP-Slice-1 P A B C D E stop))
      ++ maybe_exprs (maybe_seen (Block.back-ExprP-Slice-1 P A B C D E step))))) (maybe_seen_of start)
      ∙ ap (λ m. expression_of a.value ∷ (maybe_exprs (maybe_of start)
      ++ (maybe_exprs m ++ maybe_exprs (maybe_seen (Block.back-ExprP-Slice-1 P A B C D E step))))) (maybe_seen_of stop)
      ∙ ap (λ m. expression_of a.value ∷ (maybe_exprs (maybe_of start) ++ (maybe_exprs (maybe_of stop) ++ maybe_exprs m))) (maybe_seen_of step)

  parameter_anywhere : (s : _) (p : parameter.ParameterP P A B C D E) → parameter_exprs (parameter_seen s p) ≡ exprs_in_parameter p
  parameter_anywhere s parameter.Slash = refl
  parameter_anywhere s (parameter.Normal' w ty d) = refl
  parameter_anywhere s parameter.NoArgs = refl
  parameter_anywhere s (parameter.Args' w ty) = refl
  parameter_anywhere s (parameter.KwArgs' w ty) = refl

  pub parameters_in : (xs : List (Spanned (parameter.ParameterP P A B C D E))) → parameters_exprs (all_parameters xs)
      ≡ flat_map (λ (p : Spanned (parameter.ParameterP P A B C D E)). exprs_in_parameter p.node) xs
  parameters_in [] = refl
  parameters_in (x ∷ xs) =
      ap (λ ys. ys ++ parameters_exprs (all_parameters xs)) (parameter_anywhere (span_of x.span) x.node)
      ∙ ap (λ ys. exprs_in_parameter x.node ++ ys) (parameters_in xs)

  pub lambda_children : (l : LambdaP P A B C D E)
      → children (expr.Lambda l) ≡ flat_map (λ (p : Spanned (parameter.ParameterP P A B C D E)). exprs_in_parameter p.node) l.params.items
      ++ expression_of l.body.value ∷ []
  lambda_children l = ap (λ ys. ys ++ expression_of l.body.value ∷ []) (ap parameters_exprs (parameters_seen_of l.params) ∙ parameters_in l.params.items)

  pairs_in : (xs : List (Spanned (ExprP P A B C D E) × Spanned (ExprP P A B C D E)))
      → pairs_exprs (all_pairs xs) ≡ flat_map (λ (p : Spanned (ExprP P A B C D E) × Spanned (ExprP P A B C D E)). expression_of p.0 ∷ expression_of p.1 ∷ []) xs
  pairs_in [] = refl
  pairs_in (x ∷ xs) = ap (λ ys. expression_of x.0 ∷ expression_of x.1 ∷ ys) (pairs_in xs)

  pub dict_children : (v : Vec (Spanned (ExprP P A B C D E) × Spanned (ExprP P A B C D E)) Global)
      → children (expr.Dict v) ≡ flat_map (λ (p : Spanned (ExprP P A B C D E) × Spanned (ExprP P A B C D E)). expression_of p.0 ∷ expression_of p.1 ∷ [])
      v.items
  dict_children v = ap pairs_exprs (pairs_seen_of v) ∙ pairs_in v.items

  clauses_in : (xs : List (ClauseP P A B C D E)) → clauses_exprs (all_clauses xs) ≡ flat_map (λ (k : ClauseP P A B C D E). clause_exprs (clause_seen k)) xs
  clauses_in [] = refl
  clauses_in (x ∷ xs) = ap (λ ys. clause_exprs (clause_seen x) ++ ys) (clauses_in xs)

  pub clauses_of_row : (v : Vec (ClauseP P A B C D E) Global) → clauses_exprs (clauses_seen (Block.hidden-the_row-ClauseP-5 P A B C D E v))
      ≡ flat_map (λ (k : ClauseP P A B C D E). clause_exprs (clause_seen k)) v.items
  clauses_of_row v = ap clauses_exprs (clauses_seen_of v) ∙ clauses_in v.items

  pub list_comprehension_children : (e : Box (Spanned (ExprP P A B C D E)) Global) (first : Box (ForClauseP P A B C D E) Global)
      (others : Vec (ClauseP P A B C D E) Global)
      → children (expr.ListComprehension e first others)
      ≡ (for_exprs (for_in_of first.value) ++ flat_map (λ (k : ClauseP P A B C D E). clause_exprs (clause_seen k)) others.items) ++ expression_of e.value ∷ []
  list_comprehension_children e first others = ap (λ ys. (for_exprs (for_in_of first.value) ++ ys) ++ expression_of e.value ∷ []) (clauses_of_row others)

  pub dict_comprehension_children : (p : Box (Spanned (ExprP P A B C D E) × Spanned (ExprP P A B C D E)) Global) (first : Box (ForClauseP P A B C D E) Global)
      (others : Vec (ClauseP P A B C D E) Global)
      → children (expr.DictComprehension p first others)
      ≡ (for_exprs (for_in_of first.value) ++ flat_map (λ (k : ClauseP P A B C D E). clause_exprs (clause_seen k)) others.items)
      ++ expression_of p.value.0 ∷ expression_of p.value.1 ∷ []
  dict_comprehension_children p first others =
      ap (λ ys. (for_exprs (for_in_of first.value) ++ ys) ++ expression_of p.value.0 ∷ expression_of p.value.1 ∷ []) (clauses_of_row others)
