-- The bytes of each kind of node, by those of its parts.
use Rattle.std.proofs.Common.{◌≡◌, List, [], ◌∷◌, ◌++◌, length, Option, Some, None, String, string_bytes, Box, Vec, Global, refl, ap, ◌∙◌}
use Rattle.std.proofs.lemmas.Grind.{common_steps}
use Rattle.std.specs.List.{flat_map}
use Rattle.std.specs.Prelude.{suc}
use Rattle.starlark_lexer.specs.Tokens.{Span, span_of}
use Rattle.starlark_lexer.specs.declared.span.Spanned.{Spanned}
use Rattle.starlark_tree.specs.declared.ast.ArgumentP
use Rattle.starlark_tree.specs.declared.ast.AssignTargetP
use Rattle.starlark_tree.specs.declared.ast.ClauseP
use Rattle.starlark_tree.specs.declared.ast.ExprP
use Rattle.starlark_tree.specs.declared.ast.ParameterP
use Rattle.starlark_tree.specs.declared.ast.AssignIdentP.{AssignIdentP}
use Rattle.starlark_tree.specs.declared.ast.AstLiteral.{AstLiteral}
use Rattle.starlark_tree.specs.declared.ast.CallArgsP.{CallArgsP}
use Rattle.starlark_tree.specs.declared.ast.ForClauseP.{ForClauseP}
use Rattle.starlark_tree.specs.declared.ast.FStringP.{FStringP}
use Rattle.starlark_tree.specs.declared.ast.IdentP.{IdentP}
use Rattle.starlark_tree.specs.declared.ast.LambdaP.{LambdaP}
use Rattle.starlark_tree.specs.declared.ast.TypeExprP.{TypeExprP}
use Rattle.starlark_tree.specs.declared.ast.operator.BinOp.{BinOp}
use Rattle.starlark_tree.specs.Ast.{argument_list, clause_list, expression_list, parameter_list, target_list}
use Rattle.starlark_tree.specs.Views.{word, assign_word, literal_seen, all_expressions, all_pairs, all_arguments, all_parameters, all_targets}
use Rattle.starlark_tree.specs.Views.{all_clauses}
use Rattle.starlark_tree.proofs.Rows.{expressions_seen_of, pairs_seen_of, arguments_seen_of, parameters_seen_of, targets_seen_of, clauses_seen_of}
use Rattle.starlark_tree.proofs.Rows.{maybe_seen_of, maybe_type_seen_of}
use Rattle.starlark_compact.specs.Bytes.{number, count, sized, word_bytes, mark, node}
use Rattle.starlark_compact.specs.Code.{bytes_of_expr, bytes_of_maybe, bytes_of_boxed_type, bytes_of_argument, bytes_of_parameter, bytes_of_for}
use Rattle.starlark_compact.specs.Code.{bytes_of_clause, bytes_of_target, bytes_of_expression, bytes_of_pair, bytes_of_arg, bytes_of_param}
use Rattle.starlark_compact.specs.Code.{bytes_of_spanned_target}
use Rattle.starlark_compact.specs.Kinds.{operator_number}
use Rattle.starlark_compact.specs.Trees.{literal_bytes, pair_count, expressions_bytes, pairs_bytes, arguments_bytes, parameters_bytes, targets_bytes}
use Rattle.starlark_compact.specs.Trees.{clauses_bytes, maybe_bytes, maybe_type_bytes}
use Rattle.starlark_compact.specs.declared.kind.Kind.TheVariants as kind

pub ap2 : {X Y R : Type 0} (f : X → Y → R) {x u : X} {y v : Y} → x ≡ u → y ≡ v → f x y ≡ f u v
ap2 f {x} {u} {y} {v} p q = ap (λ a. f a y) p ∙ ap (f u) q

ap3 : {X Y Z R : Type 0} (f : X → Y → Z → R) {x u : X} {y v : Y} {z w : Z} → x ≡ u → y ≡ v → z ≡ w → f x y z ≡ f u v w
ap3 f {x} {u} {y} {v} {z} {w} p q r = ap (λ a. f a y z) p ∙ ap (λ b. f u b z) q ∙ ap (f u v) r

module _ {P A B C D E : Type 0} where
  -- the items of a list, and their count

  expressions_listed : (xs : List (Spanned (ExprP.ExprP P A B C D E))) → expressions_bytes (all_expressions xs) ≡ flat_map bytes_of_expression xs
  unfolding bytes_of_expr
  expressions_listed [] = refl
  expressions_listed (x ∷ xs) = ap (λ ts. bytes_of_expression x ++ ts) (expressions_listed xs)

  expressions_counted : (xs : List (Spanned (ExprP.ExprP P A B C D E))) → length (expression_list (all_expressions xs)) ≡ length xs
  expressions_counted [] = refl
  expressions_counted (x ∷ xs) = ap suc (expressions_counted xs)

  pairs_listed : (xs : List (Spanned (ExprP.ExprP P A B C D E) × Spanned (ExprP.ExprP P A B C D E))) → pairs_bytes (all_pairs xs) ≡ flat_map bytes_of_pair xs
  unfolding bytes_of_expr
  pairs_listed [] = refl
  pairs_listed (x ∷ xs) = ap (λ ts. bytes_of_pair x ++ ts) (pairs_listed xs)

  pairs_counted : (xs : List (Spanned (ExprP.ExprP P A B C D E) × Spanned (ExprP.ExprP P A B C D E))) → pair_count (all_pairs xs) ≡ length xs
  pairs_counted [] = refl
  pairs_counted (x ∷ xs) = ap suc (pairs_counted xs)

  arguments_listed : (xs : List (Spanned (ArgumentP.ArgumentP P A B C D E))) → arguments_bytes (all_arguments xs) ≡ flat_map bytes_of_arg xs
  unfolding bytes_of_argument
  arguments_listed [] = refl
  arguments_listed (x ∷ xs) = ap (λ ts. bytes_of_arg x ++ ts) (arguments_listed xs)

  arguments_counted : (xs : List (Spanned (ArgumentP.ArgumentP P A B C D E))) → length (argument_list (all_arguments xs)) ≡ length xs
  arguments_counted [] = refl
  arguments_counted (x ∷ xs) = ap suc (arguments_counted xs)

  pub parameters_listed : (xs : List (Spanned (ParameterP.ParameterP P A B C D E))) → parameters_bytes (all_parameters xs) ≡ flat_map bytes_of_param xs
  unfolding bytes_of_parameter
  parameters_listed [] = refl
  parameters_listed (x ∷ xs) = ap (λ ts. bytes_of_param x ++ ts) (parameters_listed xs)

  pub parameters_counted : (xs : List (Spanned (ParameterP.ParameterP P A B C D E))) → length (parameter_list (all_parameters xs)) ≡ length xs
  parameters_counted [] = refl
  parameters_counted (x ∷ xs) = ap suc (parameters_counted xs)

  targets_listed : (xs : List (Spanned (AssignTargetP.AssignTargetP P A B C D E))) → targets_bytes (all_targets xs) ≡ flat_map bytes_of_spanned_target xs
  unfolding bytes_of_target
  targets_listed [] = refl
  targets_listed (x ∷ xs) = ap (λ ts. bytes_of_spanned_target x ++ ts) (targets_listed xs)

  targets_counted : (xs : List (Spanned (AssignTargetP.AssignTargetP P A B C D E))) → length (target_list (all_targets xs)) ≡ length xs
  targets_counted [] = refl
  targets_counted (x ∷ xs) = ap suc (targets_counted xs)

  clauses_listed : (xs : List (ClauseP.ClauseP P A B C D E)) → clauses_bytes (all_clauses xs) ≡ flat_map bytes_of_clause xs
  unfolding bytes_of_clause
  clauses_listed [] = refl
  clauses_listed (x ∷ xs) = ap (λ ts. bytes_of_clause x ++ ts) (clauses_listed xs)

  clauses_counted : (xs : List (ClauseP.ClauseP P A B C D E)) → length (clause_list (all_clauses xs)) ≡ length xs
  clauses_counted [] = refl
  clauses_counted (x ∷ xs) = ap suc (clauses_counted xs)

  -- expressions

  pub tuple_bytes : (v : Vec (Spanned (ExprP.ExprP P A B C D E)) Global) (s : Span)
      → bytes_of_expr (ExprP.Tuple v) s ≡ flat_map bytes_of_expression v.items ++ (node kind.Tuple s ++ count (length v.items))
  unfolding bytes_of_expr
  tuple_bytes v s =
      ap (λ xs. expressions_bytes xs ++ (node kind.Tuple s ++ count (length (expression_list xs)))) (expressions_seen_of v)
      ∙ ap2 (λ ts n. ts ++ (node kind.Tuple s ++ count n)) (expressions_listed v.items) (expressions_counted v.items)

  pub list_bytes : (v : Vec (Spanned (ExprP.ExprP P A B C D E)) Global) (s : Span)
      → bytes_of_expr (ExprP.List v) s ≡ flat_map bytes_of_expression v.items ++ (node kind.List s ++ count (length v.items))
  unfolding bytes_of_expr
  list_bytes v s =
      ap (λ xs. expressions_bytes xs ++ (node kind.List s ++ count (length (expression_list xs)))) (expressions_seen_of v)
      ∙ ap2 (λ ts n. ts ++ (node kind.List s ++ count n)) (expressions_listed v.items) (expressions_counted v.items)

  pub dict_bytes : (v : Vec (Spanned (ExprP.ExprP P A B C D E) × Spanned (ExprP.ExprP P A B C D E)) Global) (s : Span)
      → bytes_of_expr (ExprP.Dict v) s ≡ flat_map bytes_of_pair v.items ++ (node kind.Dict s ++ count (length v.items))
  unfolding bytes_of_expr
  dict_bytes v s =
      ap (λ xs. pairs_bytes xs ++ (node kind.Dict s ++ count (pair_count xs))) (pairs_seen_of v)
      ∙ ap2 (λ ts n. ts ++ (node kind.Dict s ++ count n)) (pairs_listed v.items) (pairs_counted v.items)

  pub dot_bytes : (b : Box (Spanned (ExprP.ExprP P A B C D E)) Global) (name : Spanned (String Global)) (s : Span)
      → bytes_of_expr (ExprP.Dot b name) s ≡ bytes_of_expression b.value ++ (node kind.Dot s ++ word_bytes (word name))
  unfolding bytes_of_expr
  dot_bytes b name s = refl

  pub call_bytes : (b : Box (Spanned (ExprP.ExprP P A B C D E)) Global) (args : CallArgsP P A B C D E) (s : Span)
      → bytes_of_expr (ExprP.Call b args) s
      ≡ bytes_of_expression b.value ++ (flat_map bytes_of_arg args.args.items ++ (node kind.Call s ++ count (length args.args.items)))
  unfolding bytes_of_expr
  call_bytes b args s =
      ap (λ xs. bytes_of_expression b.value ++ (arguments_bytes xs ++ (node kind.Call s ++ count (length (argument_list xs)))))
      (arguments_seen_of args.args)
      ∙ ap2 (λ ts n. bytes_of_expression b.value ++ (ts ++ (node kind.Call s ++ count n)))
      (arguments_listed args.args.items) (arguments_counted args.args.items)

  pub index_bytes : (b : Box (Spanned (ExprP.ExprP P A B C D E) × Spanned (ExprP.ExprP P A B C D E)) Global) (s : Span)
      → bytes_of_expr (ExprP.Index b) s ≡ bytes_of_expression b.value.0 ++ (bytes_of_expression b.value.1 ++ node kind.Index s)
  unfolding bytes_of_expr
  index_bytes b s = refl

  pub index2_bytes : (b : Box (Spanned (ExprP.ExprP P A B C D E) × Spanned (ExprP.ExprP P A B C D E) × Spanned (ExprP.ExprP P A B C D E)) Global) (s : Span)
      → bytes_of_expr (ExprP.Index2 b) s ≡ bytes_of_expression b.value.0
      ++ (bytes_of_expression b.value.1 ++ (bytes_of_expression b.value.2 ++ node kind.Index2 s))
  unfolding bytes_of_expr
  index2_bytes b s = refl

  pub if_bytes : (b : Box (Spanned (ExprP.ExprP P A B C D E) × Spanned (ExprP.ExprP P A B C D E) × Spanned (ExprP.ExprP P A B C D E)) Global) (s : Span)
      → bytes_of_expr (ExprP.If b) s ≡ bytes_of_expression b.value.0
      ++ (bytes_of_expression b.value.1 ++ (bytes_of_expression b.value.2 ++ node kind.Conditional s))
  unfolding bytes_of_expr
  if_bytes b s = refl

  pub slice_bytes : (b : Box (Spanned (ExprP.ExprP P A B C D E)) Global) (start stop step : Option (Box (Spanned (ExprP.ExprP P A B C D E)) Global)) (s : Span)
      → bytes_of_expr (ExprP.Slice b start stop step) s
      ≡ bytes_of_expression b.value ++ (bytes_of_maybe start ++ (bytes_of_maybe stop ++ (bytes_of_maybe step ++ node kind.Slice s)))
  unfolding bytes_of_expr bytes_of_maybe
  slice_bytes b start stop step s =
      ap3 (λ k l m. bytes_of_expression b.value ++ (maybe_bytes k ++ (maybe_bytes l ++ (maybe_bytes m ++ node kind.Slice s))))
      (maybe_seen_of start) (maybe_seen_of stop) (maybe_seen_of step)

  pub identifier_bytes : (name : Spanned (IdentP P A B C D E)) (s : Span)
      → bytes_of_expr (ExprP.Identifier name) s ≡ node kind.Identifier s ++ sized (string_bytes name.node.ident)
  unfolding bytes_of_expr
  identifier_bytes name s = refl

  pub lambda_bytes : (l : LambdaP P A B C D E) (s : Span)
      → bytes_of_expr (ExprP.Lambda l) s
      ≡ flat_map bytes_of_param l.params.items ++ (bytes_of_expression l.body.value ++ (node kind.Lambda s ++ count (length l.params.items)))
  unfolding bytes_of_expr
  lambda_bytes l s =
      ap (λ ps. parameters_bytes ps ++ (bytes_of_expression l.body.value ++ (node kind.Lambda s ++ count (length (parameter_list ps)))))
      (parameters_seen_of l.params)
      ∙ ap2 (λ ts n. ts ++ (bytes_of_expression l.body.value ++ (node kind.Lambda s ++ count n)))
      (parameters_listed l.params.items) (parameters_counted l.params.items)

  pub literal_of_expr : (e : ExprP.ExprP P A B C D E) (x : AstLiteral) (s : Span) → e ≡ ExprP.Literal x → bytes_of_expr e s ≡ literal_bytes s (literal_seen x)
  unfolding bytes_of_expr
  literal_of_expr e x s is = ap (λ e. bytes_of_expr e s) is

  pub not_bytes : (b : Box (Spanned (ExprP.ExprP P A B C D E)) Global) (s : Span)
      → bytes_of_expr (ExprP.Not b) s ≡ bytes_of_expression b.value ++ node kind.Not s
  unfolding bytes_of_expr
  not_bytes b s = refl

  pub minus_bytes : (b : Box (Spanned (ExprP.ExprP P A B C D E)) Global) (s : Span)
      → bytes_of_expr (ExprP.Minus b) s ≡ bytes_of_expression b.value ++ node kind.Minus s
  unfolding bytes_of_expr
  minus_bytes b s = refl

  pub plus_bytes : (b : Box (Spanned (ExprP.ExprP P A B C D E)) Global) (s : Span)
      → bytes_of_expr (ExprP.Plus b) s ≡ bytes_of_expression b.value ++ node kind.Plus s
  unfolding bytes_of_expr
  plus_bytes b s = refl

  pub bit_not_bytes : (b : Box (Spanned (ExprP.ExprP P A B C D E)) Global) (s : Span)
      → bytes_of_expr (ExprP.BitNot b) s ≡ bytes_of_expression b.value ++ node kind.BitNot s
  unfolding bytes_of_expr
  bit_not_bytes b s = refl

  pub op_bytes : (l : Box (Spanned (ExprP.ExprP P A B C D E)) Global) (op : BinOp) (r : Box (Spanned (ExprP.ExprP P A B C D E)) Global) (s : Span)
      → bytes_of_expr (ExprP.Op l op r) s ≡ bytes_of_expression l.value ++ (bytes_of_expression r.value ++ (node kind.Op s ++ number (operator_number op)))
  unfolding bytes_of_expr
  op_bytes l op r s = refl

  pub list_comprehension_bytes : (b : Box (Spanned (ExprP.ExprP P A B C D E)) Global) (first : Box (ForClauseP P A B C D E) Global)
      (v : Vec (ClauseP.ClauseP P A B C D E) Global) (s : Span)
      → bytes_of_expr (ExprP.ListComprehension b first v) s
      ≡ bytes_of_expression b.value ++ (bytes_of_for first.value ++ (flat_map bytes_of_clause v.items
      ++ (node kind.ListComprehension s ++ count (length v.items))))
  unfolding bytes_of_expr bytes_of_for
  list_comprehension_bytes b first v s =
      ap (λ cs. bytes_of_expression b.value ++ (bytes_of_for first.value ++ (clauses_bytes cs
      ++ (node kind.ListComprehension s ++ count (length (clause_list cs)))))) (clauses_seen_of v)
      ∙ ap2 (λ ts n. bytes_of_expression b.value ++ (bytes_of_for first.value ++ (ts ++ (node kind.ListComprehension s ++ count n))))
      (clauses_listed v.items) (clauses_counted v.items)

  pub dict_comprehension_bytes : (b : Box (Spanned (ExprP.ExprP P A B C D E) × Spanned (ExprP.ExprP P A B C D E)) Global)
      (first : Box (ForClauseP P A B C D E) Global) (v : Vec (ClauseP.ClauseP P A B C D E) Global) (s : Span)
      → bytes_of_expr (ExprP.DictComprehension b first v) s
      ≡ bytes_of_expression b.value.0 ++ (bytes_of_expression b.value.1 ++ (bytes_of_for first.value ++ (flat_map bytes_of_clause v.items
      ++ (node kind.DictComprehension s ++ count (length v.items)))))
  unfolding bytes_of_expr bytes_of_for
  dict_comprehension_bytes b first v s =
      ap (λ cs. bytes_of_expression b.value.0 ++ (bytes_of_expression b.value.1 ++ (bytes_of_for first.value ++ (clauses_bytes cs
      ++ (node kind.DictComprehension s ++ count (length (clause_list cs))))))) (clauses_seen_of v)
      ∙ ap2
      (λ ts n. bytes_of_expression b.value.0 ++ (bytes_of_expression b.value.1 ++ (bytes_of_for first.value
      ++ (ts ++ (node kind.DictComprehension s ++ count n)))))
      (clauses_listed v.items) (clauses_counted v.items)

  pub f_string_bytes : (x : Spanned (FStringP P A B C D E)) (s : Span)
      → bytes_of_expr (ExprP.FString x) s
      ≡ flat_map bytes_of_expression x.node.expressions.items
      ++ ((node kind.FString s ++ word_bytes (word x.node.format)) ++ count (length x.node.expressions.items))
  unfolding bytes_of_expr
  f_string_bytes x s =
      ap (λ es. expressions_bytes es ++ ((node kind.FString s ++ word_bytes (word x.node.format)) ++ count (length (expression_list es))))
      (expressions_seen_of x.node.expressions)
      ∙ ap2 (λ ts n. ts ++ ((node kind.FString s ++ word_bytes (word x.node.format)) ++ count n))
      (expressions_listed x.node.expressions.items) (expressions_counted x.node.expressions.items)

  -- what may be there

  pub absent_bytes : (o : Option (Box (Spanned (ExprP.ExprP P A B C D E)) Global)) → o ≡ None → bytes_of_maybe o ≡ mark kind.Absent
  unfolding bytes_of_maybe
  absent_bytes o is = ap bytes_of_maybe is

  pub present_bytes : (b : Box (Spanned (ExprP.ExprP P A B C D E)) Global) → bytes_of_maybe (Some b) ≡ bytes_of_expression b.value ++ mark kind.Present
  unfolding bytes_of_maybe bytes_of_expr
  present_bytes b = refl

  pub untyped_bytes : (o : Option (Box (Spanned (TypeExprP P A B C D E)) Global)) → o ≡ None → bytes_of_boxed_type o ≡ mark kind.NoType
  unfolding bytes_of_boxed_type
  untyped_bytes o is = ap bytes_of_boxed_type is

  pub typed_bytes : (b : Box (Spanned (TypeExprP P A B C D E)) Global)
      → bytes_of_boxed_type (Some b) ≡ bytes_of_expression b.value.node.expr ++ node kind.TypeExpr (span_of b.value.span)
  unfolding bytes_of_boxed_type bytes_of_expr
  typed_bytes b = refl

  -- arguments and parameters

  pub positional_bytes : (e : Spanned (ExprP.ExprP P A B C D E)) (s : Span)
      → bytes_of_argument (ArgumentP.Positional e) s ≡ bytes_of_expression e ++ node kind.Positional s
  unfolding bytes_of_argument bytes_of_expr
  positional_bytes e s = refl

  pub args_bytes : (e : Spanned (ExprP.ExprP P A B C D E)) (s : Span)
      → bytes_of_argument (ArgumentP.Args e) s ≡ bytes_of_expression e ++ node kind.Args s
  unfolding bytes_of_argument bytes_of_expr
  args_bytes e s = refl

  pub kwargs_bytes : (e : Spanned (ExprP.ExprP P A B C D E)) (s : Span)
      → bytes_of_argument (ArgumentP.KwArgs e) s ≡ bytes_of_expression e ++ node kind.KwArgs s
  unfolding bytes_of_argument bytes_of_expr
  kwargs_bytes e s = refl

  pub named_bytes : (name : Spanned (String Global)) (e : Spanned (ExprP.ExprP P A B C D E)) (s : Span)
      → bytes_of_argument (ArgumentP.Named name e) s ≡ bytes_of_expression e ++ (node kind.Named s ++ word_bytes (word name))
  unfolding bytes_of_argument bytes_of_expr
  named_bytes name e s = refl

  pub slash_bytes : (p : ParameterP.ParameterP P A B C D E) (s : Span) → p ≡ ParameterP.Slash → bytes_of_parameter p s ≡ node kind.Slash s
  unfolding bytes_of_parameter
  slash_bytes p s is = ap (λ p. bytes_of_parameter p s) is

  pub no_args_bytes : (p : ParameterP.ParameterP P A B C D E) (s : Span) → p ≡ ParameterP.NoArgs → bytes_of_parameter p s ≡ node kind.NoArgs s
  unfolding bytes_of_parameter
  no_args_bytes p s is = ap (λ p. bytes_of_parameter p s) is

  pub normal_bytes : (name : Spanned (AssignIdentP P A B C D E)) (ty : Option (Box (Spanned (TypeExprP P A B C D E)) Global))
      (default : Option (Box (Spanned (ExprP.ExprP P A B C D E)) Global)) (s : Span)
      → bytes_of_parameter (ParameterP.Normal name ty default) s
      ≡ bytes_of_boxed_type ty ++ (bytes_of_maybe default ++ (node kind.Normal s ++ word_bytes (assign_word name)))
  unfolding bytes_of_parameter bytes_of_boxed_type bytes_of_maybe
  normal_bytes name ty default s =
      ap2 (λ k l. maybe_type_bytes k ++ (maybe_bytes l ++ (node kind.Normal s ++ word_bytes (assign_word name))))
      (maybe_type_seen_of ty) (maybe_seen_of default)

  pub args_parameter_bytes : (name : Spanned (AssignIdentP P A B C D E)) (ty : Option (Box (Spanned (TypeExprP P A B C D E)) Global)) (s : Span)
      → bytes_of_parameter (ParameterP.Args name ty) s ≡ bytes_of_boxed_type ty ++ (node kind.ArgsParameter s ++ word_bytes (assign_word name))
  unfolding bytes_of_parameter bytes_of_boxed_type
  args_parameter_bytes name ty s = ap (λ k. maybe_type_bytes k ++ (node kind.ArgsParameter s ++ word_bytes (assign_word name))) (maybe_type_seen_of ty)

  pub kwargs_parameter_bytes : (name : Spanned (AssignIdentP P A B C D E)) (ty : Option (Box (Spanned (TypeExprP P A B C D E)) Global)) (s : Span)
      → bytes_of_parameter (ParameterP.KwArgs name ty) s ≡ bytes_of_boxed_type ty ++ (node kind.KwArgsParameter s ++ word_bytes (assign_word name))
  unfolding bytes_of_parameter bytes_of_boxed_type
  kwargs_parameter_bytes name ty s = ap (λ k. maybe_type_bytes k ++ (node kind.KwArgsParameter s ++ word_bytes (assign_word name))) (maybe_type_seen_of ty)

  -- clauses and targets

  pub for_in_bytes : (c : ForClauseP P A B C D E)
      → bytes_of_for c ≡ bytes_of_spanned_target c.var ++ (bytes_of_expression c.over ++ mark kind.ForClause)
  unfolding bytes_of_for bytes_of_target bytes_of_expr
  for_in_bytes c = refl

  pub for_clause_bytes : (c : ForClauseP P A B C D E)
      → bytes_of_clause (ClauseP.For c) ≡ bytes_of_for c
  unfolding bytes_of_clause bytes_of_for
  for_clause_bytes c = refl

  pub if_clause_bytes : (e : Spanned (ExprP.ExprP P A B C D E))
      → bytes_of_clause (ClauseP.If e) ≡ bytes_of_expression e ++ mark kind.IfClause
  unfolding bytes_of_clause bytes_of_expr
  if_clause_bytes e = refl

  pub target_tuple_bytes : (v : Vec (Spanned (AssignTargetP.AssignTargetP P A B C D E)) Global) (s : Span)
      → bytes_of_target (AssignTargetP.Tuple v) s ≡ flat_map bytes_of_spanned_target v.items ++ (node kind.TupleTarget s ++ count (length v.items))
  unfolding bytes_of_target
  target_tuple_bytes v s =
      ap (λ xs. targets_bytes xs ++ (node kind.TupleTarget s ++ count (length (target_list xs)))) (targets_seen_of v)
      ∙ ap2 (λ ts n. ts ++ (node kind.TupleTarget s ++ count n)) (targets_listed v.items) (targets_counted v.items)

  pub target_index_bytes : (b : Box (Spanned (ExprP.ExprP P A B C D E) × Spanned (ExprP.ExprP P A B C D E)) Global) (s : Span)
      → bytes_of_target (AssignTargetP.Index b) s ≡ bytes_of_expression b.value.0 ++ (bytes_of_expression b.value.1 ++ node kind.IndexTarget s)
  unfolding bytes_of_target bytes_of_expr
  target_index_bytes b s = refl

  pub target_dot_bytes : (b : Box (Spanned (ExprP.ExprP P A B C D E)) Global) (name : Spanned (String Global)) (s : Span)
      → bytes_of_target (AssignTargetP.Dot b name) s ≡ bytes_of_expression b.value ++ (node kind.DotTarget s ++ word_bytes (word name))
  unfolding bytes_of_target bytes_of_expr
  target_dot_bytes b name s = refl

  pub target_name_bytes : (name : Spanned (AssignIdentP P A B C D E)) (s : Span)
      → bytes_of_target (AssignTargetP.Identifier name) s ≡ node kind.IdentifierTarget s ++ sized (string_bytes name.node.ident)
  unfolding bytes_of_target
  target_name_bytes name s = refl

pub ruleset options = (common_steps, absent_bytes, present_bytes, untyped_bytes, typed_bytes)
