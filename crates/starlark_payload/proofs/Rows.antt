-- Lists in memory that are mapped, as lists of the tree.
use Rattle.std.proofs.Common.{◌≡◌, List, [], ◌∷◌, Option, Result, Ok, Err, IfOk, Box, Vec, Global, ap, refl}
use Rattle.starlark_lexer.specs.declared.span.Spanned.{Spanned}
use Rattle.starlark_tree.specs.declared.ast.ArgumentP.{ArgumentP}
use Rattle.starlark_tree.specs.declared.ast.AssignTargetP.{AssignTargetP}
use Rattle.starlark_tree.specs.declared.ast.ClauseP.{ClauseP}
use Rattle.starlark_tree.specs.declared.ast.ExprP.{ExprP}
use Rattle.starlark_tree.specs.declared.ast.ExprP as e
use Rattle.starlark_tree.specs.declared.ast.AssignTargetP as targets
use Rattle.starlark_tree.specs.declared.ast.FStringP.{FStringP}
use Rattle.starlark_tree.specs.declared.ast.ForClauseP.{ForClauseP}
use Rattle.starlark_tree.specs.declared.ast.LambdaP.{LambdaP}
use Rattle.starlark_tree.specs.declared.ast.ParameterP.{ParameterP}
use Rattle.starlark_tree.specs.declared.ast.StmtP.{StmtP}
use Rattle.starlark_tree.specs.declared.ast.StmtP as statements
use Rattle.starlark_tree.specs.Views.{payloads, shape_seen, target_seen, form_seen, expression_of, argument_of, parameter_of, target_of, clause_seen, for_in_of}
use Rattle.starlark_tree.specs.Views.{statement_of, all_expressions, all_pairs, all_arguments, all_parameters, all_targets, all_clauses, all_statements}
use Rattle.starlark_tree.specs.Views.{maybe_of, word}
use Rattle.starlark_tree.proofs.Rows.{expressions_seen_of, pairs_seen_of, arguments_seen_of, parameters_seen_of, targets_seen_of, clauses_seen_of}
use Rattle.starlark_tree.proofs.Rows.{statements_seen_of, maybe_seen_of}
use Rattle.starlark_lexer.specs.Tokens.{Span as Place, span_of}
use Rattle.starlark_payload.specs.Function.Steps.{◌⨾◌, Each}
use Rattle.starlark_payload.specs.Function.Mapped.{Calls, MapsExpression, MapsExpressions, MapsShape, MapsPairs, MapsArgument, MapsArguments, MapsParameter}
use Rattle.starlark_payload.specs.Function.Mapped.{MapsParameters, MapsTarget, MapsTargets, MapsForIn, MapsClause, MapsClauses, MapsForm, MapsStatement}
use Rattle.starlark_payload.specs.Function.Mapped.{MapsStatements, MapsMaybe}

module _ {P A B C D E Q G H K L M F : Type 0} (calls : Calls (payloads A B C D E) (payloads G H K L M) F) where
  pub expressions_mapped : (xs : List (Spanned (ExprP P A B C D E))) (ys : List (Spanned (ExprP Q G H K L M))) (before after : F)
      → Each (λ x y. MapsExpression calls (expression_of x) (expression_of y)) xs ys before after
      → MapsExpressions calls (all_expressions xs) (all_expressions ys) before after
  expressions_mapped [] [] before after h = h
  expressions_mapped [] (y ∷ ys) before after h = absurd h
  expressions_mapped (x ∷ xs) [] before after h = absurd h
  expressions_mapped (x ∷ xs) (y ∷ ys) before after h = (h.0, h.1, expressions_mapped xs ys h.0 after h.2)

  pub arguments_mapped : (xs : List (Spanned (ArgumentP P A B C D E))) (ys : List (Spanned (ArgumentP Q G H K L M))) (before after : F)
      → Each (λ x y. MapsArgument calls (argument_of x) (argument_of y)) xs ys before after
      → MapsArguments calls (all_arguments xs) (all_arguments ys) before after
  arguments_mapped [] [] before after h = h
  arguments_mapped [] (y ∷ ys) before after h = absurd h
  arguments_mapped (x ∷ xs) [] before after h = absurd h
  arguments_mapped (x ∷ xs) (y ∷ ys) before after h = (h.0, h.1, arguments_mapped xs ys h.0 after h.2)

  pub parameters_mapped : (xs : List (Spanned (ParameterP P A B C D E))) (ys : List (Spanned (ParameterP Q G H K L M))) (before after : F)
      → Each (λ x y. MapsParameter calls (parameter_of x) (parameter_of y)) xs ys before after
      → MapsParameters calls (all_parameters xs) (all_parameters ys) before after
  parameters_mapped [] [] before after h = h
  parameters_mapped [] (y ∷ ys) before after h = absurd h
  parameters_mapped (x ∷ xs) [] before after h = absurd h
  parameters_mapped (x ∷ xs) (y ∷ ys) before after h = (h.0, h.1, parameters_mapped xs ys h.0 after h.2)

  pub targets_mapped : (xs : List (Spanned (AssignTargetP P A B C D E))) (ys : List (Spanned (AssignTargetP Q G H K L M))) (before after : F)
      → Each (λ x y. MapsTarget calls (target_of x) (target_of y)) xs ys before after → MapsTargets calls (all_targets xs) (all_targets ys) before after
  targets_mapped [] [] before after h = h
  targets_mapped [] (y ∷ ys) before after h = absurd h
  targets_mapped (x ∷ xs) [] before after h = absurd h
  targets_mapped (x ∷ xs) (y ∷ ys) before after h = (h.0, h.1, targets_mapped xs ys h.0 after h.2)

  pub clauses_mapped : (xs : List (ClauseP P A B C D E)) (ys : List (ClauseP Q G H K L M)) (before after : F)
      → Each (λ x y. MapsClause calls (clause_seen x) (clause_seen y)) xs ys before after → MapsClauses calls (all_clauses xs) (all_clauses ys) before after
  clauses_mapped [] [] before after h = h
  clauses_mapped [] (y ∷ ys) before after h = absurd h
  clauses_mapped (x ∷ xs) [] before after h = absurd h
  clauses_mapped (x ∷ xs) (y ∷ ys) before after h = (h.0, h.1, clauses_mapped xs ys h.0 after h.2)

  pub statements_mapped : (xs : List (Spanned (StmtP P A B C D E))) (ys : List (Spanned (StmtP Q G H K L M))) (before after : F)
      → Each (λ x y. MapsStatement calls (statement_of x) (statement_of y)) xs ys before after
      → MapsStatements calls (all_statements xs) (all_statements ys) before after
  statements_mapped [] [] before after h = h
  statements_mapped [] (y ∷ ys) before after h = absurd h
  statements_mapped (x ∷ xs) [] before after h = absurd h
  statements_mapped (x ∷ xs) (y ∷ ys) before after h = (h.0, h.1, statements_mapped xs ys h.0 after h.2)

  pub pairs_mapped : (xs : List (Spanned (ExprP P A B C D E) × Spanned (ExprP P A B C D E)))
      (ys : List (Spanned (ExprP Q G H K L M) × Spanned (ExprP Q G H K L M))) (before after : F)
      → Each (λ x y. MapsExpression calls (expression_of x.0) (expression_of y.0) ⨾ MapsExpression calls (expression_of x.1) (expression_of y.1)) xs ys before
      after
      → MapsPairs calls (all_pairs xs) (all_pairs ys) before after
  pairs_mapped [] [] before after h = h
  pairs_mapped [] (y ∷ ys) before after h = absurd h
  pairs_mapped (x ∷ xs) [] before after h = absurd h
  pairs_mapped (x ∷ xs) (y ∷ ys) before after h = (h.0, h.1, pairs_mapped xs ys h.0 after h.2)

  pub tuple_mapped : (v : Vec (Spanned (ExprP P A B C D E)) Global) (w : Vec (Spanned (ExprP Q G H K L M)) Global) (before after : F)
      → Each (λ x y. MapsExpression calls (expression_of x) (expression_of y)) v.items w.items before after
      → MapsShape calls (shape_seen (e.Tuple v)) (shape_seen (e.Tuple w)) before after
  tuple_mapped v w before after h = rw (expressions_seen_of v, expressions_seen_of w) (expressions_mapped v.items w.items before after h)

  pub list_mapped : (v : Vec (Spanned (ExprP P A B C D E)) Global) (w : Vec (Spanned (ExprP Q G H K L M)) Global) (before after : F)
      → Each (λ x y. MapsExpression calls (expression_of x) (expression_of y)) v.items w.items before after
      → MapsShape calls (shape_seen (e.List v)) (shape_seen (e.List w)) before after
  list_mapped v w before after h = rw (expressions_seen_of v, expressions_seen_of w) (expressions_mapped v.items w.items before after h)

  pub dict_mapped : (v : Vec (Spanned (ExprP P A B C D E) × Spanned (ExprP P A B C D E)) Global)
      (w : Vec (Spanned (ExprP Q G H K L M) × Spanned (ExprP Q G H K L M)) Global) (before after : F)
      → Each (λ x y. MapsExpression calls (expression_of x.0) (expression_of y.0) ⨾ MapsExpression calls (expression_of x.1) (expression_of y.1)) v.items
      w.items before after
      → MapsShape calls (shape_seen (e.Dict v)) (shape_seen (e.Dict w)) before after
  dict_mapped v w before after h = rw (pairs_seen_of v, pairs_seen_of w) (pairs_mapped v.items w.items before after h)

  pub target_tuple_mapped : (v : Vec (Spanned (AssignTargetP P A B C D E)) Global) (w : Vec (Spanned (AssignTargetP Q G H K L M)) Global) (before after : F)
      → Each (λ x y. MapsTarget calls (target_of x) (target_of y)) v.items w.items before after → (at : Place)
      → MapsTarget calls (target_seen at (targets.Tuple v)) (target_seen at (targets.Tuple w)) before after
  target_tuple_mapped v w before after h at = rw (targets_seen_of v, targets_seen_of w) (refl, targets_mapped v.items w.items before after h)

  pub block_mapped : (v : Vec (Spanned (StmtP P A B C D E)) Global) (w : Vec (Spanned (StmtP Q G H K L M)) Global) (before after : F)
      → Each (λ x y. MapsStatement calls (statement_of x) (statement_of y)) v.items w.items before after → MapsForm calls (form_seen (statements.Statements v))
      (form_seen (statements.Statements w)) before after
  block_mapped v w before after h = rw (statements_seen_of v, statements_seen_of w) (statements_mapped v.items w.items before after h)

  pub call_mapped : (f : Box (Spanned (ExprP P A B C D E)) Global) (g : Box (Spanned (ExprP Q G H K L M)) Global)
      (v : Vec (Spanned (ArgumentP P A B C D E)) Global) (w : Vec (Spanned (ArgumentP Q G H K L M)) Global) (before between after : F)
      → MapsExpression calls (expression_of f.value) (expression_of g.value) before between
      → Each (λ x y. MapsArgument calls (argument_of x) (argument_of y)) v.items w.items between after
      → MapsShape calls (shape_seen (e.Call f (record { args = v }))) (shape_seen (e.Call g (record { args = w }))) before after
  call_mapped f g v w before between after callee args = rw (arguments_seen_of v, arguments_seen_of w) (
    between,
    callee,
    arguments_mapped v.items w.items between after args,
  )

  pub slice_mapped : (a : Box (Spanned (ExprP P A B C D E)) Global) (i j k : Option (Box (Spanned (ExprP P A B C D E)) Global))
      (a' : Box (Spanned (ExprP Q G H K L M)) Global) (i' j' k' : Option (Box (Spanned (ExprP Q G H K L M)) Global)) (before x y z after : F)
      → MapsExpression calls (expression_of a.value) (expression_of a'.value) before x → MapsMaybe calls (maybe_of i) (maybe_of i') x y
      → MapsMaybe calls (maybe_of j) (maybe_of j') y z → MapsMaybe calls (maybe_of k) (maybe_of k') z after
      → MapsShape calls (shape_seen (e.Slice a i j k)) (shape_seen (e.Slice a' i' j' k')) before after
  slice_mapped a i j k a' i' j' k' before x y z after array start stop step =
      rw (maybe_seen_of i, maybe_seen_of j, maybe_seen_of k, maybe_seen_of i', maybe_seen_of j', maybe_seen_of k') (x, array, (y, start, (z, stop, step)))

  -- an array and its bounds, if all were allocated: what was left, and what was mapped before, were kept meanwhile
  pub slice_made : {N : Type 0} (a : Box (Spanned (ExprP P A B C D E)) Global) (i j k : Option (Box (Spanned (ExprP P A B C D E)) Global))
      (bounds : Option (Box (Spanned (ExprP P A B C D E)) Global)
      × (Option (Box (Spanned (ExprP P A B C D E)) Global) × Option (Box (Spanned (ExprP P A B C D E)) Global)))
      (a' : Box (Spanned (ExprP Q G H K L M)) Global) (i' : Option (Box (Spanned (ExprP Q G H K L M)) Global))
      (first : (Option (Box (Spanned (ExprP P A B C D E)) Global) × Option (Box (Spanned (ExprP P A B C D E)) Global))
      × Box (Spanned (ExprP Q G H K L M)) Global)
      (j' : Option (Box (Spanned (ExprP Q G H K L M)) Global))
      (second : Option (Box (Spanned (ExprP P A B C D E)) Global)
      × (Box (Spanned (ExprP Q G H K L M)) Global × Option (Box (Spanned (ExprP Q G H K L M)) Global)))
      (k' : Option (Box (Spanned (ExprP Q G H K L M)) Global))
      (third : (Box (Spanned (ExprP Q G H K L M)) Global × Option (Box (Spanned (ExprP Q G H K L M)) Global))
      × Option (Box (Spanned (ExprP Q G H K L M)) Global))
      (n : Result _ N) (m o q : Result _ N) (before x y z after : F)
      → n ≡ Ok a' → bounds ≡ (i, (j, k)) → m ≡ Ok i' → first ≡ (bounds.1, a') → o ≡ Ok j' → second ≡ (first.0.1, (first.1, i'))
      → q ≡ Ok k' → third ≡ (second.1, j')
      → IfOk n (λ b. MapsExpression calls (expression_of a.value) (expression_of b.value) before x)
      → IfOk m (λ b. MapsMaybe calls (maybe_of bounds.0) (maybe_of b) x y) → IfOk o (λ b. MapsMaybe calls (maybe_of first.0.0) (maybe_of b) y z)
      → IfOk q (λ b. MapsMaybe calls (maybe_of second.0) (maybe_of b) z after)
      → MapsShape calls (shape_seen (e.Slice a i j k)) (shape_seen (e.Slice third.0.0 third.0.1 third.1 k')) before after
  slice_made a i j k bounds a' i' first j' second k' third n m o q before x y z after array-made is start-made first-is stop-made second-is step-made third-is
      array start stop step =
      let array' : MapsExpression calls (expression_of a.value) (expression_of a'.value) before x = rw array-made at array in
      let start' : MapsMaybe calls (maybe_of i) (maybe_of i') x y = rw (start-made, is) at start in
      let stop' : MapsMaybe calls (maybe_of j) (maybe_of j') y z = rw (stop-made, first-is, is) at stop in
      let step' : MapsMaybe calls (maybe_of k) (maybe_of k') z after = rw (step-made, second-is, first-is, is) at step in
      rw (third-is, second-is, first-is) (slice_mapped a i j k a' i' j' k' before x y z after array' start' stop' step')

  pub list_comprehension_mapped : (x : Box (Spanned (ExprP P A B C D E)) Global) (y : Box (Spanned (ExprP Q G H K L M)) Global)
      (f : Box (ForClauseP P A B C D E) Global) (g : Box (ForClauseP Q G H K L M) Global) (v : Vec (ClauseP P A B C D E) Global)
      (w : Vec (ClauseP Q G H K L M) Global) (before first second after : F)
      → MapsExpression calls (expression_of x.value) (expression_of y.value) before first → MapsForIn calls (for_in_of f.value) (for_in_of g.value) first second
      → Each (λ x y. MapsClause calls (clause_seen x) (clause_seen y)) v.items w.items second after
      → MapsShape calls (shape_seen (e.ListComprehension x f v)) (shape_seen (e.ListComprehension y g w)) before after
  list_comprehension_mapped x y f g v w before first second after value for clauses =
      rw (clauses_seen_of v, clauses_seen_of w) (first, value, (second, for, clauses_mapped v.items w.items second after clauses))

  pub dict_comprehension_mapped : (x : Box (Spanned (ExprP P A B C D E) × Spanned (ExprP P A B C D E)) Global)
      (y : Box (Spanned (ExprP Q G H K L M) × Spanned (ExprP Q G H K L M)) Global) (f : Box (ForClauseP P A B C D E) Global)
      (g : Box (ForClauseP Q G H K L M) Global) (v : Vec (ClauseP P A B C D E) Global) (w : Vec (ClauseP Q G H K L M) Global) (before first second after : F)
      → (MapsExpression calls (expression_of x.value.0) (expression_of y.value.0) ⨾ MapsExpression calls (expression_of x.value.1) (expression_of y.value.1))
      before first → MapsForIn calls (for_in_of f.value) (for_in_of g.value) first second
      → Each (λ x y. MapsClause calls (clause_seen x) (clause_seen y)) v.items w.items second after
      → MapsShape calls (shape_seen (e.DictComprehension x f v)) (shape_seen (e.DictComprehension y g w)) before after
  dict_comprehension_mapped x y f g v w before first second after pair for clauses =
      rw (clauses_seen_of v, clauses_seen_of w) (first, pair, (second, for, clauses_mapped v.items w.items second after clauses))

  pub lambda_mapped : (x : LambdaP P A B C D E) (y : LambdaP Q G H K L M) (before first second after : F)
      → Each (λ x y. MapsParameter calls (parameter_of x) (parameter_of y)) x.params.items y.params.items before first
      → MapsExpression calls (expression_of x.body.value) (expression_of y.body.value) first second → calls.def x.payload y.payload second after
      → MapsShape calls (shape_seen (e.Lambda x)) (shape_seen (e.Lambda y)) before after
  lambda_mapped x y before first second after params body payload =
      rw (parameters_seen_of x.params, parameters_seen_of y.params) (
        first,
        parameters_mapped x.params.items y.params.items before first params,
        (second, body, payload),
      )

  pub f_string_mapped : (x : Spanned (FStringP P A B C D E)) (y : Spanned (FStringP Q G H K L M)) (before after : F)
      → span_of y.span ≡ span_of x.span → word y.node.format ≡ word x.node.format
      → Each (λ x y. MapsExpression calls (expression_of x) (expression_of y)) x.node.expressions.items y.node.expressions.items before after
      → MapsShape calls (shape_seen (e.FString x)) (shape_seen (e.FString y)) before after
  f_string_mapped x y before after span format expressions =
      rw (expressions_seen_of x.node.expressions, expressions_seen_of y.node.expressions) (
        (span, format),
        expressions_mapped x.node.expressions.items y.node.expressions.items before after expressions,
      )

  pub f_string_made : {N : Type 0} (x : Spanned (FStringP P A B C D E)) (n : Result (FStringP Q G H K L M) N) (r : Result (Spanned (FStringP Q G H K L M)) N)
      (before after : F)
      → IfOk r (λ m. n ≡ Ok m.node) → IfOk r (λ m. m.span ≡ x.span) → IfOk n (λ m. word m.format ≡ word x.node.format)
      → IfOk n (λ m. Each (λ x y. MapsExpression calls (expression_of x) (expression_of y)) x.node.expressions.items m.expressions.items before after)
      → IfOk r (λ m. MapsShape calls (shape_seen (e.FString x)) (shape_seen (e.FString m)) before after)
  f_string_made x n (Ok m) before after node span format expressions = f_string_mapped x m before after (ap span_of span) (rw node at format)
      (rw node at expressions)
  f_string_made x n (Err e) before after node span format expressions = tt
