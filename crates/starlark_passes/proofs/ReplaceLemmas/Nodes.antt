-- What is seen of the code's nodes, some of whose parts are replaced.
use Rattle.std.proofs.Common.{◌≡◌, List, map, length, Vec, Global, Box, String, refl, sym, ap, ◌∙◌}
use Rattle.std.specs.Vec.{with_items}
use Rattle.starlark_lexer.specs.Tokens.{Span, span_of}
use Rattle.starlark_lexer.specs.declared.span.Spanned.{Spanned}
use Rattle.starlark_tree.specs.Ast as t
use Rattle.starlark_tree.specs.Ast.{expressions_of, pairs_of, arguments_of, parameters_of, clauses_of, targets_of, statements_of}
use Rattle.starlark_tree.specs.Inside.{below, inside, argument_inside, parameter_inside, clause_inside, for_inside, target_inside, inside_statement}
use Rattle.starlark_tree.specs.Inside.{inside_form}
use Rattle.starlark_tree.specs.Views.{shape_seen, target_seen, form_seen, clauses_seen, expression_of, pair_of, argument_of, parameter_of, clause_seen}
use Rattle.starlark_tree.specs.Views.{target_of, for_in_of, statement_of, word, assign_word, boxed_type_of}
use Rattle.starlark_tree.specs.declared.ast.ArgumentP.{ArgumentP}
use Rattle.starlark_tree.specs.declared.ast.AssignTargetP as targets
use Rattle.starlark_tree.specs.declared.ast.CallArgsP.{CallArgsP}
use Rattle.starlark_tree.specs.declared.ast.ClauseP.{ClauseP}
use Rattle.starlark_tree.specs.declared.ast.DefP.{DefP}
use Rattle.starlark_tree.specs.declared.ast.ExprP as exprs
use Rattle.starlark_tree.specs.declared.ast.FStringP.{FStringP}
use Rattle.starlark_tree.specs.declared.ast.ForClauseP.{ForClauseP}
use Rattle.starlark_tree.specs.declared.ast.LambdaP.{LambdaP}
use Rattle.starlark_tree.specs.declared.ast.StmtP as stmts
use Rattle.starlark_tree.specs.declared.ast.ArgumentP.TheBlock as Block
use Rattle.starlark_tree.proofs.Rows.{expressions_seen_of, pairs_seen_of, arguments_seen_of, parameters_seen_of, targets_seen_of, clauses_seen_of}
use Rattle.starlark_tree.proofs.Rows.{statements_seen_of}
use Rattle.starlark_passes.proofs.ReplaceLemmas.Shapes.{inside_expressions, inside_pairs, inside_arguments, inside_parameters, inside_clauses, inside_targets}
use Rattle.starlark_passes.proofs.ReplaceLemmas.Shapes.{inside_statements}
use Rattle.starlark_tree.proofs.LentParts.{with_items_all}

module _ {P A B C D E : Type 0} where
  pub tuple_old : (e : exprs.ExprP P A B C D E) (v w : (Vec (Spanned (exprs.ExprP P A B C D E)) Global)) (xs : List (Spanned (exprs.ExprP P A B C D E)))
      → e ≡ exprs.Tuple v → xs ≡ w.items → w ≡ v → shape_seen e ≡ t.Tuple (expressions_of (map expression_of xs))
  tuple_old e v w xs is value same =
      ap shape_seen is ∙ ap (t.Tuple) (expressions_seen_of v) ∙ ap (λ l. t.Tuple (expressions_of (map expression_of l))) (sym (value ∙ ap (λ u. u.items) same))

  pub tuple_new : (v : (Vec (Spanned (exprs.ExprP P A B C D E)) Global)) (ws : List (Spanned (exprs.ExprP P A B C D E))) → length ws ≡ length v.items
      → shape_seen (exprs.Tuple (with_items v ws)) ≡ t.Tuple (expressions_of (map expression_of ws))
  tuple_new v ws kept = ap (t.Tuple) (expressions_seen_of (with_items v ws)) ∙ ap (λ l. t.Tuple (expressions_of (map expression_of l)))
      (with_items_all v ws kept)

  pub list_old : (e : exprs.ExprP P A B C D E) (v w : (Vec (Spanned (exprs.ExprP P A B C D E)) Global)) (xs : List (Spanned (exprs.ExprP P A B C D E)))
      → e ≡ exprs.List v → xs ≡ w.items → w ≡ v → shape_seen e ≡ t.List (expressions_of (map expression_of xs))
  list_old e v w xs is value same =
      ap shape_seen is ∙ ap (t.List) (expressions_seen_of v) ∙ ap (λ l. t.List (expressions_of (map expression_of l))) (sym (value ∙ ap (λ u. u.items) same))

  pub list_new : (v : (Vec (Spanned (exprs.ExprP P A B C D E)) Global)) (ws : List (Spanned (exprs.ExprP P A B C D E))) → length ws ≡ length v.items
      → shape_seen (exprs.List (with_items v ws)) ≡ t.List (expressions_of (map expression_of ws))
  list_new v ws kept = ap (t.List) (expressions_seen_of (with_items v ws)) ∙ ap (λ l. t.List (expressions_of (map expression_of l))) (with_items_all v ws kept)

  pub dict_old : (e : exprs.ExprP P A B C D E) (v w : (Vec (Spanned (exprs.ExprP P A B C D E) × Spanned (exprs.ExprP P A B C D E)) Global))
      (xs : List (Spanned (exprs.ExprP P A B C D E) × Spanned (exprs.ExprP P A B C D E))) → e ≡ exprs.Dict v → xs ≡ w.items → w ≡ v
      → shape_seen e ≡ t.Dict (pairs_of (map pair_of xs))
  dict_old e v w xs is value same =
      ap shape_seen is ∙ ap (t.Dict) (pairs_seen_of v) ∙ ap (λ l. t.Dict (pairs_of (map pair_of l))) (sym (value ∙ ap (λ u. u.items) same))

  pub dict_new : (v : (Vec (Spanned (exprs.ExprP P A B C D E) × Spanned (exprs.ExprP P A B C D E)) Global))
      (ws : List (Spanned (exprs.ExprP P A B C D E) × Spanned (exprs.ExprP P A B C D E))) → length ws ≡ length v.items
      → shape_seen (exprs.Dict (with_items v ws)) ≡ t.Dict (pairs_of (map pair_of ws))
  dict_new v ws kept = ap (t.Dict) (pairs_seen_of (with_items v ws)) ∙ ap (λ l. t.Dict (pairs_of (map pair_of l))) (with_items_all v ws kept)

  pub target_tuple_old : (s : Span) (e : targets.AssignTargetP P A B C D E) (v w : (Vec (Spanned (targets.AssignTargetP P A B C D E)) Global))
      (xs : List (Spanned (targets.AssignTargetP P A B C D E))) → e ≡ targets.Tuple v → xs ≡ w.items → w ≡ v
      → target_seen s e ≡ t.TupleTarget s (targets_of (map target_of xs))
  target_tuple_old s e v w xs is value same =
      ap (target_seen s) is ∙ ap (t.TupleTarget s) (targets_seen_of v) ∙ ap (λ l. t.TupleTarget s (targets_of (map target_of l)))
      (sym (value ∙ ap (λ u. u.items) same))

  pub target_tuple_new : (s : Span) (v : (Vec (Spanned (targets.AssignTargetP P A B C D E)) Global)) (ws : List (Spanned (targets.AssignTargetP P A B C D E)))
      → length ws ≡ length v.items → target_seen s (targets.Tuple (with_items v ws)) ≡ t.TupleTarget s (targets_of (map target_of ws))
  target_tuple_new s v ws kept = ap (t.TupleTarget s) (targets_seen_of (with_items v ws)) ∙ ap (λ l. t.TupleTarget s (targets_of (map target_of l)))
      (with_items_all v ws kept)

  pub block_old : (e : stmts.StmtP P A B C D E) (v w : (Vec (Spanned (stmts.StmtP P A B C D E)) Global)) (xs : List (Spanned (stmts.StmtP P A B C D E)))
      → e ≡ stmts.Statements v → xs ≡ w.items → w ≡ v → form_seen e ≡ t.Block (statements_of (map statement_of xs))
  block_old e v w xs is value same =
      ap form_seen is ∙ ap (t.Block) (statements_seen_of v) ∙ ap (λ l. t.Block (statements_of (map statement_of l))) (sym (value ∙ ap (λ u. u.items) same))

  pub block_new : (v : (Vec (Spanned (stmts.StmtP P A B C D E)) Global)) (ws : List (Spanned (stmts.StmtP P A B C D E))) → length ws ≡ length v.items
      → form_seen (stmts.Statements (with_items v ws)) ≡ t.Block (statements_of (map statement_of ws))
  block_new v ws kept = ap (t.Block) (statements_seen_of (with_items v ws)) ∙ ap (λ l. t.Block (statements_of (map statement_of l))) (with_items_all v ws kept)

  pub call_seen : (f : Box (Spanned (exprs.ExprP P A B C D E)) Global) (args : CallArgsP P A B C D E) → shape_seen (exprs.Call f args)
      ≡ t.Call (expression_of f.value) (arguments_of (map argument_of args.args.items))
  call_seen f args = ap (t.Call (expression_of f.value)) (arguments_seen_of args.args)

  pub lambda_seen : (l : LambdaP P A B C D E) → shape_seen (exprs.Lambda l) ≡ t.Lambda (parameters_of (map parameter_of l.params.items))
      (expression_of l.body.value) l.payload
  lambda_seen l = ap (λ ps. t.Lambda ps (expression_of l.body.value) l.payload) (parameters_seen_of l.params)

  pub f_string_seen : (s : Spanned (FStringP P A B C D E)) → shape_seen (exprs.FString s) ≡ t.FString (span_of s.span) (word s.node.format)
      (expressions_of (map expression_of s.node.expressions.items))
  f_string_seen s = ap (t.FString (span_of s.span) (word s.node.format)) (expressions_seen_of s.node.expressions)

  pub clauses_new : (v w : Vec (ClauseP P A B C D E) Global) (ws : List (ClauseP P A B C D E)) → w ≡ v → length ws ≡ length v.items
      → clauses_seen (Block.hidden-the_row-ClauseP-5 P A B C D E (with_items w ws)) ≡ clauses_of (map clause_seen ws)
  clauses_new v w ws same kept =
      clauses_seen_of (with_items w ws) ∙ ap (λ (u : Vec (ClauseP P A B C D E) Global). clauses_of (map clause_seen (with_items u ws).items)) same
      ∙ ap (λ l. clauses_of (map clause_seen l)) (with_items_all v ws kept)

  pub list_comprehension_seen : (x : Box (Spanned (exprs.ExprP P A B C D E)) Global) (first : Box (ForClauseP P A B C D E) Global)
      (cs : Vec (ClauseP P A B C D E) Global)
      → shape_seen (exprs.ListComprehension x first cs) ≡ t.ListComprehension (expression_of x.value) (for_in_of first.value)
      (clauses_of (map clause_seen cs.items))
  list_comprehension_seen x first cs = ap (t.ListComprehension (expression_of x.value) (for_in_of first.value)) (clauses_seen_of cs)

  pub dict_comprehension_seen : (x : Box (Spanned (exprs.ExprP P A B C D E) × Spanned (exprs.ExprP P A B C D E)) Global)
      (first : Box (ForClauseP P A B C D E) Global) (cs : Vec (ClauseP P A B C D E) Global)
      → shape_seen (exprs.DictComprehension x first cs) ≡ t.DictComprehension (expression_of x.value.0) (expression_of x.value.1) (for_in_of first.value)
      (clauses_of (map clause_seen cs.items))
  dict_comprehension_seen x first cs = ap (t.DictComprehension (expression_of x.value.0) (expression_of x.value.1) (for_in_of first.value)) (clauses_seen_of cs)

  pub call_old : (e : exprs.ExprP P A B C D E) (f u : Box (Spanned (exprs.ExprP P A B C D E)) Global) (args w : CallArgsP P A B C D E)
      (x : Spanned (exprs.ExprP P A B C D E)) → e ≡ exprs.Call f args → x ≡ u.value → u ≡ f → w ≡ args
      → shape_seen e ≡ t.Call (expression_of x) (arguments_of (map argument_of w.args.items))
  call_old e f u args w x is value same_f same_args =
      ap shape_seen is ∙ call_seen f args
      ∙ (λ i. t.Call (expression_of ((sym (value ∙ ap (λ b. b.value) same_f)) i)) (arguments_of (map argument_of ((sym same_args) i).args.items)))

  pub lambda_old : (e : exprs.ExprP P A B C D E) (l w : LambdaP P A B C D E) → e ≡ exprs.Lambda l → w ≡ l
      → shape_seen e ≡ t.Lambda (parameters_of (map parameter_of w.params.items)) (expression_of w.body.value) w.payload
  lambda_old e l w is same =
      ap shape_seen is ∙ lambda_seen l ∙ (λ i. t.Lambda (parameters_of (map parameter_of ((sym same) i).params.items))
      (expression_of ((sym same) i).body.value) ((sym same) i).payload)

  pub f_string_old : (e : exprs.ExprP P A B C D E) (s w : Spanned (FStringP P A B C D E)) → e ≡ exprs.FString s → w ≡ s
      → shape_seen e ≡ t.FString (span_of w.span) (word w.node.format) (expressions_of (map expression_of w.node.expressions.items))
  f_string_old e s w is same =
      ap shape_seen is ∙ f_string_seen s
      ∙ (λ i. t.FString (span_of ((sym same) i).span) (word ((sym same) i).node.format)
      (expressions_of (map expression_of ((sym same) i).node.expressions.items)))

  pub f_string_new : (s w : Spanned (FStringP P A B C D E)) → s.node.format ≡ w.node.format → s.span ≡ w.span
      → shape_seen (exprs.FString s) ≡ t.FString (span_of w.span) (word w.node.format) (expressions_of (map expression_of s.node.expressions.items))
  f_string_new s w format span = f_string_seen s ∙ (λ i. t.FString (span_of (span i)) (word (format i))
      (expressions_of (map expression_of s.node.expressions.items)))

  pub list_comprehension_old : (e : exprs.ExprP P A B C D E) (x u : Box (Spanned (exprs.ExprP P A B C D E)) Global)
      (first w : Box (ForClauseP P A B C D E) Global) (cs v : Vec (ClauseP P A B C D E) Global)
      (y : Spanned (exprs.ExprP P A B C D E)) (z : ForClauseP P A B C D E) (l : List (ClauseP P A B C D E))
      → e ≡ exprs.ListComprehension x first cs → y ≡ u.value → u ≡ x → z ≡ w.value → w ≡ first → l ≡ v.items → v ≡ cs
      → shape_seen e ≡ t.ListComprehension (expression_of y) (for_in_of z) (clauses_of (map clause_seen l))
  list_comprehension_old e x u first w cs v y z l is one same_x two same_first all same_cs =
      ap shape_seen is ∙ list_comprehension_seen x first cs
      ∙ (λ i. t.ListComprehension (expression_of ((sym (one ∙ ap (λ b. b.value) same_x)) i)) (for_in_of ((sym (two ∙ ap (λ b. b.value) same_first)) i))
      (clauses_of (map clause_seen ((sym (all ∙ ap (λ b. b.items) same_cs)) i))))

  pub dict_comprehension_old : (e : exprs.ExprP P A B C D E) (x u : Box (Spanned (exprs.ExprP P A B C D E) × Spanned (exprs.ExprP P A B C D E)) Global)
      (first w : Box (ForClauseP P A B C D E) Global) (cs v : Vec (ClauseP P A B C D E) Global)
      (y : Spanned (exprs.ExprP P A B C D E) × Spanned (exprs.ExprP P A B C D E)) (z : ForClauseP P A B C D E) (l : List (ClauseP P A B C D E))
      → e ≡ exprs.DictComprehension x first cs → y ≡ u.value → u ≡ x → z ≡ w.value → w ≡ first → l ≡ v.items → v ≡ cs
      → shape_seen e ≡ t.DictComprehension (expression_of y.0) (expression_of y.1) (for_in_of z) (clauses_of (map clause_seen l))
  dict_comprehension_old e x u first w cs v y z l is one same_x two same_first all same_cs =
      ap shape_seen is ∙ dict_comprehension_seen x first cs
      ∙ (λ i. t.DictComprehension (expression_of ((sym (one ∙ ap (λ b. b.value) same_x)) i).0) (expression_of ((sym (one ∙ ap (λ b. b.value) same_x)) i).1)
      (for_in_of ((sym (two ∙ ap (λ b. b.value) same_first)) i)) (clauses_of (map clause_seen ((sym (all ∙ ap (λ b. b.items) same_cs)) i))))

  pub definition_old : (e : stmts.StmtP P A B C D E) (d w : DefP P A B C D E) → e ≡ stmts.Def d → w ≡ d
      → form_seen e ≡ t.Def (assign_word w.name) w.name.node.payload (parameters_of (map parameter_of w.params.items)) (boxed_type_of w.return_type)
      (statement_of w.body.value) w.payload
  definition_old e d w is same =
      ap form_seen is
      ∙ ap (λ (x : DefP P A B C D E). t.Def (assign_word x.name) x.name.node.payload (parameters_of (map parameter_of x.params.items))
      (boxed_type_of x.return_type) (statement_of x.body.value) x.payload) (sym same)

  pub definition_new : (d w : DefP P A B C D E) → d.name ≡ w.name
      → form_seen (stmts.Def d) ≡ t.Def (assign_word w.name) w.name.node.payload (parameters_of (map parameter_of d.params.items))
      (boxed_type_of d.return_type) (statement_of d.body.value) d.payload
  definition_new d w name =
      ap (λ x. t.Def (assign_word x) x.node.payload (parameters_of (map parameter_of d.params.items)) (boxed_type_of d.return_type)
      (statement_of d.body.value) d.payload) name
