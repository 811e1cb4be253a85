-- The tokens of each kind of node, by those of its parts.
use Rattle.std.proofs.Common.{◌≡◌, List, [], ◌∷◌, ◌++◌, codes, Option, Some, None, String, string_bytes, Box, Vec, Global, refl, ap, sym, ◌∙◌, append_assoc}
use Rattle.std.proofs.lemmas.Grind.{common_steps}
use Rattle.std.specs.List.{flat_map}
use Rattle.json.specs.Token.{Token, key, end_array, begin_array, null}
use Rattle.json.specs.Tree.{json_tokens, items_tokens}
use Rattle.starlark_lexer.specs.Tokens.{Span, span_of}
use Rattle.starlark_lexer.specs.declared.span.Spanned.{Spanned}
use Rattle.starlark_tree.specs.declared.ast.ArgumentP
use Rattle.starlark_tree.specs.declared.ast.AssignTargetP
use Rattle.starlark_tree.specs.declared.ast.ClauseP
use Rattle.starlark_tree.specs.declared.ast.ExprP
use Rattle.starlark_tree.specs.declared.ast.ParameterP
use Rattle.starlark_tree.specs.declared.ast.AssignIdentP.{AssignIdentP}
use Rattle.starlark_tree.specs.declared.ast.AstLiteral.{AstLiteral}
use Rattle.starlark_tree.specs.declared.ast.CallArgsP.{CallArgsP}
use Rattle.starlark_tree.specs.declared.ast.ForClauseP.{ForClauseP}
use Rattle.starlark_tree.specs.declared.ast.FStringP.{FStringP}
use Rattle.starlark_tree.specs.declared.ast.IdentP.{IdentP}
use Rattle.starlark_tree.specs.declared.ast.LambdaP.{LambdaP}
use Rattle.starlark_tree.specs.declared.ast.TypeExprP.{TypeExprP}
use Rattle.starlark_tree.specs.declared.ast.operator.BinOp.{BinOp}
use Rattle.starlark_tree.specs.Ast as t
use Rattle.starlark_tree.specs.Views.{payloads, word, assign_word, literal_seen, all_expressions, all_pairs, all_arguments, all_parameters, all_targets}
use Rattle.starlark_tree.specs.Views.{all_clauses}
use Rattle.starlark_tree.proofs.Rows.{expressions_seen_of, pairs_seen_of, arguments_seen_of, parameters_seen_of, targets_seen_of, clauses_seen_of}
use Rattle.starlark_tree.proofs.Rows.{maybe_seen_of, maybe_type_seen_of}
use Rattle.starlark_json.specs.Tree.Fields.{node, literal_fields, operator_name}
use Rattle.starlark_json.specs.Tree.Trees.{expressions_json, pairs_json, arguments_json, parameters_json, targets_json, clauses_json, maybe_json}
use Rattle.starlark_json.specs.Tree.Trees.{maybe_type_json}
use Rattle.starlark_json.specs.Tree.Tokens.{head, key_head, type_head, closing, text_field, word_field, array_field, expression_field, first_clause}
use Rattle.starlark_json.specs.Tree.Tokens.{expr_tokens, maybe_tokens, boxed_type_tokens, argument_tokens, parameter_tokens, for_tokens, clause_tokens}
use Rattle.starlark_json.specs.Tree.Tokens.{target_tokens}
use Rattle.starlark_json.specs.Tree.Tokens.{expression_tokens, pair_tokens, spanned_argument_tokens, spanned_parameter_tokens, spanned_target_tokens}

ap2 : {X Y R : Type 0} (f : X → Y → R) {x u : X} {y v : Y} → x ≡ u → y ≡ v → f x y ≡ f u v
ap2 f {x} {u} {y} {v} p q = ap (λ a. f a y) p ∙ ap (f u) q

ap3 : {X Y Z R : Type 0} (f : X → Y → Z → R) {x u : X} {y v : Y} {z w : Z} → x ≡ u → y ≡ v → z ≡ w → f x y z ≡ f u v w
ap3 f {x} {u} {y} {v} {z} {w} p q r = ap (λ a. f a y z) p ∙ ap (λ b. f u b z) q ∙ ap (f u v) r

module _ {P A B C D E : Type 0} where
  -- the items of an array

  expressions_listed : (xs : List (Spanned (ExprP.ExprP P A B C D E))) → items_tokens (expressions_json (all_expressions xs)) ≡ flat_map expression_tokens xs
      ++ end_array ∷ []
  unfolding expr_tokens
  expressions_listed [] = refl
  expressions_listed (x ∷ xs) =
      ap (λ ts. expression_tokens x ++ ts) (expressions_listed xs) ∙ sym (append_assoc (expression_tokens x) (flat_map expression_tokens xs) (end_array ∷ []))

  pairs_listed : (xs : List (Spanned (ExprP.ExprP P A B C D E) × Spanned (ExprP.ExprP P A B C D E))) → items_tokens (pairs_json (all_pairs xs))
      ≡ flat_map pair_tokens xs ++ end_array ∷ []
  unfolding expr_tokens
  pairs_listed [] = refl
  pairs_listed (x ∷ xs) =
      ap (λ ts. pair_tokens x ++ ts) (pairs_listed xs) ∙ sym (append_assoc (pair_tokens x) (flat_map pair_tokens xs) (end_array ∷ []))

  arguments_listed : (xs : List (Spanned (ArgumentP.ArgumentP P A B C D E))) → items_tokens (arguments_json (all_arguments xs))
      ≡ flat_map spanned_argument_tokens xs ++ end_array ∷ []
  unfolding argument_tokens
  arguments_listed [] = refl
  arguments_listed (x ∷ xs) =
      ap (λ ts. spanned_argument_tokens x ++ ts) (arguments_listed xs)
      ∙ sym (append_assoc (spanned_argument_tokens x) (flat_map spanned_argument_tokens xs) (end_array ∷ []))

  pub parameters_listed : (xs : List (Spanned (ParameterP.ParameterP P A B C D E))) → items_tokens (parameters_json (all_parameters xs))
      ≡ flat_map spanned_parameter_tokens xs ++ end_array ∷ []
  unfolding parameter_tokens
  parameters_listed [] = refl
  parameters_listed (x ∷ xs) =
      ap (λ ts. spanned_parameter_tokens x ++ ts) (parameters_listed xs)
      ∙ sym (append_assoc (spanned_parameter_tokens x) (flat_map spanned_parameter_tokens xs) (end_array ∷ []))

  targets_listed : (xs : List (Spanned (AssignTargetP.AssignTargetP P A B C D E))) → items_tokens (targets_json (all_targets xs))
      ≡ flat_map spanned_target_tokens xs ++ end_array ∷ []
  unfolding target_tokens
  targets_listed [] = refl
  targets_listed (x ∷ xs) =
      ap (λ ts. spanned_target_tokens x ++ ts) (targets_listed xs)
      ∙ sym (append_assoc (spanned_target_tokens x) (flat_map spanned_target_tokens xs) (end_array ∷ []))

  clauses_listed : (xs : List (ClauseP.ClauseP P A B C D E)) → items_tokens (clauses_json (all_clauses xs)) ≡ flat_map clause_tokens xs ++ end_array ∷ []
  unfolding clause_tokens
  clauses_listed [] = refl
  clauses_listed (x ∷ xs) = ap (λ ts. clause_tokens x ++ ts) (clauses_listed xs)
      ∙ sym (append_assoc (clause_tokens x) (flat_map clause_tokens xs) (end_array ∷ []))

  -- the clauses after those tokens, up to the end of the node
  clauses_after : (before : List Token) (cs : t.Clauses (payloads A B C D E)) (xs : List (ClauseP.ClauseP P A B C D E)) → cs ≡ all_clauses xs
      → (before ++ items_tokens (clauses_json cs)) ++ closing ≡ before ++ (flat_map clause_tokens xs ++ end_array ∷ closing)
  clauses_after before cs xs is =
      ap (λ ts. (before ++ ts) ++ closing) (ap (λ ks. items_tokens (clauses_json ks)) is ∙ clauses_listed xs)
      ∙ append_assoc before (flat_map clause_tokens xs ++ end_array ∷ []) closing
      ∙ ap (λ ts. before ++ ts) (append_assoc (flat_map clause_tokens xs) (end_array ∷ []) closing)

  -- expressions

  pub tuple_tokens : (v : Vec (Spanned (ExprP.ExprP P A B C D E)) Global) (s : Span)
      → expr_tokens (ExprP.Tuple v) s ≡ head (codes "expr") (codes "Tuple") s ++ (array_field (codes "items") (flat_map expression_tokens v.items) ++ closing)
  unfolding expr_tokens
  tuple_tokens v s =
      ap (λ ts. head (codes "expr") (codes "Tuple") s ++ (key (codes "items") ∷ begin_array ∷ (ts ++ closing)))
      (ap (λ es. items_tokens (expressions_json es)) (expressions_seen_of v) ∙ expressions_listed v.items)

  pub list_tokens : (v : Vec (Spanned (ExprP.ExprP P A B C D E)) Global) (s : Span)
      → expr_tokens (ExprP.List v) s ≡ head (codes "expr") (codes "List") s ++ (array_field (codes "items") (flat_map expression_tokens v.items) ++ closing)
  unfolding expr_tokens
  list_tokens v s =
      ap (λ ts. head (codes "expr") (codes "List") s ++ (key (codes "items") ∷ begin_array ∷ (ts ++ closing)))
      (ap (λ es. items_tokens (expressions_json es)) (expressions_seen_of v) ∙ expressions_listed v.items)

  pub dict_tokens : (v : Vec (Spanned (ExprP.ExprP P A B C D E) × Spanned (ExprP.ExprP P A B C D E)) Global) (s : Span)
      → expr_tokens (ExprP.Dict v) s ≡ head (codes "expr") (codes "Dict") s ++ (array_field (codes "entries") (flat_map pair_tokens v.items) ++ closing)
  unfolding expr_tokens
  dict_tokens v s =
      ap (λ ts. head (codes "expr") (codes "Dict") s ++ (key (codes "entries") ∷ begin_array ∷ (ts ++ closing)))
      (ap (λ es. items_tokens (pairs_json es)) (pairs_seen_of v) ∙ pairs_listed v.items)

  pub dot_tokens : (b : Box (Spanned (ExprP.ExprP P A B C D E)) Global) (name : Spanned (String Global)) (s : Span)
      → expr_tokens (ExprP.Dot b name) s
      ≡ head (codes "expr") (codes "Dot") s ++ (expression_field (codes "object") b.value ++ (word_field (codes "attribute") (word name) ++ closing))
  unfolding expr_tokens
  dot_tokens b name s = refl

  pub call_tokens : (b : Box (Spanned (ExprP.ExprP P A B C D E)) Global) (args : CallArgsP P A B C D E) (s : Span)
      → expr_tokens (ExprP.Call b args) s
      ≡ head (codes "expr") (codes "Call") s
      ++ (expression_field (codes "callee") b.value ++ (array_field (codes "args") (flat_map spanned_argument_tokens args.args.items) ++ closing))
  unfolding expr_tokens
  call_tokens b args s =
      ap (λ ts. head (codes "expr") (codes "Call") s ++ (expression_field (codes "callee") b.value ++ (key (codes "args") ∷ begin_array ∷ (ts ++ closing))))
      (ap (λ es. items_tokens (arguments_json es)) (arguments_seen_of args.args) ∙ arguments_listed args.args.items)

  pub index_tokens : (b : Box (Spanned (ExprP.ExprP P A B C D E) × Spanned (ExprP.ExprP P A B C D E)) Global) (s : Span)
      → expr_tokens (ExprP.Index b) s
      ≡ head (codes "expr") (codes "Index") s ++ (expression_field (codes "array") b.value.0 ++ (expression_field (codes "index") b.value.1 ++ closing))
  unfolding expr_tokens
  index_tokens b s = refl

  pub index2_tokens : (b : Box (Spanned (ExprP.ExprP P A B C D E) × Spanned (ExprP.ExprP P A B C D E) × Spanned (ExprP.ExprP P A B C D E)) Global) (s : Span)
      → expr_tokens (ExprP.Index2 b) s
      ≡ head (codes "expr") (codes "Index2") s
      ++ (expression_field (codes "array") b.value.0 ++ (expression_field (codes "index0") b.value.1
      ++ (expression_field (codes "index1") b.value.2 ++ closing)))
  unfolding expr_tokens
  index2_tokens b s = refl

  pub if_tokens : (b : Box (Spanned (ExprP.ExprP P A B C D E) × Spanned (ExprP.ExprP P A B C D E) × Spanned (ExprP.ExprP P A B C D E)) Global) (s : Span)
      → expr_tokens (ExprP.If b) s
      ≡ head (codes "expr") (codes "If") s
      ++ (expression_field (codes "condition") b.value.0
      ++ (expression_field (codes "then") b.value.1 ++ (expression_field (codes "else") b.value.2 ++ closing)))
  unfolding expr_tokens
  if_tokens b s = refl

  pub slice_tokens : (b : Box (Spanned (ExprP.ExprP P A B C D E)) Global) (start stop step : Option (Box (Spanned (ExprP.ExprP P A B C D E)) Global)) (s : Span)
      → expr_tokens (ExprP.Slice b start stop step) s
      ≡ head (codes "expr") (codes "Slice") s
      ++ (expression_field (codes "array") b.value
      ++ ((key (codes "start") ∷ maybe_tokens start) ++ ((key (codes "stop") ∷ maybe_tokens stop) ++ ((key (codes "step") ∷ maybe_tokens step) ++ closing))))
  unfolding expr_tokens maybe_tokens
  slice_tokens b start stop step s =
      ap3
      (λ k l m.
      head (codes "expr") (codes "Slice") s
      ++ (expression_field (codes "array") b.value
      ++ ((key (codes "start") ∷ json_tokens (maybe_json k))
      ++ ((key (codes "stop") ∷ json_tokens (maybe_json l)) ++ ((key (codes "step") ∷ json_tokens (maybe_json m)) ++ closing)))))
      (maybe_seen_of start) (maybe_seen_of stop) (maybe_seen_of step)

  pub identifier_tokens : (name : Spanned (IdentP P A B C D E)) (s : Span)
      → expr_tokens (ExprP.Identifier name) s ≡ head (codes "expr") (codes "Identifier") s ++ (text_field (codes "name") (string_bytes name.node.ident)
      ++ closing)
  unfolding expr_tokens
  identifier_tokens name s = refl

  pub lambda_tokens : (l : LambdaP P A B C D E) (s : Span)
      → expr_tokens (ExprP.Lambda l) s ≡ head (codes "expr") (codes "Lambda") s
      ++ (array_field (codes "params") (flat_map spanned_parameter_tokens l.params.items) ++ (expression_field (codes "body") l.body.value ++ closing))
  unfolding expr_tokens
  lambda_tokens l s =
      ap (λ ts. head (codes "expr") (codes "Lambda") s ++ (key (codes "params") ∷ begin_array ∷
      (ts ++ (expression_field (codes "body") l.body.value ++ closing))))
      (ap (λ ps. items_tokens (parameters_json ps)) (parameters_seen_of l.params) ∙ parameters_listed l.params.items)

  pub literal_tokens : (e : ExprP.ExprP P A B C D E) (x : AstLiteral) (s : Span) → e ≡ ExprP.Literal x
      → expr_tokens e s ≡ json_tokens (node (codes "expr") (codes "Literal") s (literal_fields (literal_seen x)))
  unfolding expr_tokens
  literal_tokens e x s is = ap (λ e. expr_tokens e s) is

  pub not_tokens : (b : Box (Spanned (ExprP.ExprP P A B C D E)) Global) (s : Span)
      → expr_tokens (ExprP.Not b) s ≡ head (codes "expr") (codes "Not") s ++ (expression_field (codes "operand") b.value ++ closing)
  unfolding expr_tokens
  not_tokens b s = refl

  pub minus_tokens : (b : Box (Spanned (ExprP.ExprP P A B C D E)) Global) (s : Span)
      → expr_tokens (ExprP.Minus b) s ≡ head (codes "expr") (codes "Minus") s ++ (expression_field (codes "operand") b.value ++ closing)
  unfolding expr_tokens
  minus_tokens b s = refl

  pub plus_tokens : (b : Box (Spanned (ExprP.ExprP P A B C D E)) Global) (s : Span)
      → expr_tokens (ExprP.Plus b) s ≡ head (codes "expr") (codes "Plus") s ++ (expression_field (codes "operand") b.value ++ closing)
  unfolding expr_tokens
  plus_tokens b s = refl

  pub bit_not_tokens : (b : Box (Spanned (ExprP.ExprP P A B C D E)) Global) (s : Span)
      → expr_tokens (ExprP.BitNot b) s ≡ head (codes "expr") (codes "BitNot") s ++ (expression_field (codes "operand") b.value ++ closing)
  unfolding expr_tokens
  bit_not_tokens b s = refl

  pub op_tokens : (l : Box (Spanned (ExprP.ExprP P A B C D E)) Global) (op : BinOp) (r : Box (Spanned (ExprP.ExprP P A B C D E)) Global) (s : Span)
      → expr_tokens (ExprP.Op l op r) s ≡ head (codes "expr") (codes "Op") s
      ++ (text_field (codes "op") (operator_name op) ++ (expression_field (codes "left") l.value ++ (expression_field (codes "right") r.value ++ closing)))
  unfolding expr_tokens
  op_tokens l op r s = refl

  pub list_comprehension_tokens : (b : Box (Spanned (ExprP.ExprP P A B C D E)) Global) (first : Box (ForClauseP P A B C D E) Global)
      (v : Vec (ClauseP.ClauseP P A B C D E) Global) (s : Span)
      → expr_tokens (ExprP.ListComprehension b first v) s
      ≡ head (codes "expr") (codes "ListComprehension") s
      ++ (expression_field (codes "element") b.value ++ (first_clause first.value ++ (flat_map clause_tokens v.items ++ end_array ∷ closing)))
  unfolding expr_tokens for_tokens
  list_comprehension_tokens b first v s =
      ap (λ ts. head (codes "expr") (codes "ListComprehension") s ++ (expression_field (codes "element") b.value ++ (key (codes "clauses") ∷ begin_array ∷ ts)))
      (clauses_after (for_tokens first.value) _ v.items (clauses_seen_of v))

  pub dict_comprehension_tokens : (b : Box (Spanned (ExprP.ExprP P A B C D E) × Spanned (ExprP.ExprP P A B C D E)) Global)
      (first : Box (ForClauseP P A B C D E) Global) (v : Vec (ClauseP.ClauseP P A B C D E) Global) (s : Span)
      → expr_tokens (ExprP.DictComprehension b first v) s
      ≡ head (codes "expr") (codes "DictComprehension") s
      ++ (expression_field (codes "key") b.value.0
      ++ (expression_field (codes "value") b.value.1 ++ (first_clause first.value ++ (flat_map clause_tokens v.items ++ end_array ∷ closing))))
  unfolding expr_tokens for_tokens
  dict_comprehension_tokens b first v s =
      ap
      (λ ts.
      head (codes "expr") (codes "DictComprehension") s
      ++ (expression_field (codes "key") b.value.0 ++ (expression_field (codes "value") b.value.1 ++ (key (codes "clauses") ∷ begin_array ∷ ts))))
      (clauses_after (for_tokens first.value) _ v.items (clauses_seen_of v))

  pub f_string_tokens : (x : Spanned (FStringP P A B C D E)) (s : Span)
      → expr_tokens (ExprP.FString x) s ≡ head (codes "expr") (codes "FString") s
      ++ (word_field (codes "format") (word x.node.format) ++ (array_field (codes "expressions") (flat_map expression_tokens x.node.expressions.items)
      ++ closing))
  unfolding expr_tokens
  f_string_tokens x s =
      ap (λ ts. head (codes "expr") (codes "FString") s ++ (word_field (codes "format") (word x.node.format)
      ++ (key (codes "expressions") ∷ begin_array ∷ (ts ++ closing))))
      (ap (λ es. items_tokens (expressions_json es)) (expressions_seen_of x.node.expressions) ∙ expressions_listed x.node.expressions.items)

  -- what may be there

  pub absent_tokens : (o : Option (Box (Spanned (ExprP.ExprP P A B C D E)) Global))
      → o ≡ None → maybe_tokens o ≡ null ∷ []
  unfolding maybe_tokens
  absent_tokens o is = ap maybe_tokens is

  pub present_tokens : (b : Box (Spanned (ExprP.ExprP P A B C D E)) Global)
      → maybe_tokens (Some b) ≡ expression_tokens b.value
  unfolding maybe_tokens expr_tokens
  present_tokens b = refl

  pub untyped_tokens : (o : Option (Box (Spanned (TypeExprP P A B C D E)) Global))
      → o ≡ None → boxed_type_tokens o ≡ null ∷ []
  unfolding boxed_type_tokens
  untyped_tokens o is = ap boxed_type_tokens is

  pub typed_tokens : (b : Box (Spanned (TypeExprP P A B C D E)) Global)
      → boxed_type_tokens (Some b) ≡ type_head (span_of b.value.span) ++ (expression_field (codes "expr") b.value.node.expr ++ closing)
  unfolding boxed_type_tokens expr_tokens
  typed_tokens b = refl

  -- arguments and parameters

  pub positional_tokens : (e : Spanned (ExprP.ExprP P A B C D E)) (s : Span)
      → argument_tokens (ArgumentP.Positional e) s ≡ head (codes "argument") (codes "Positional") s ++ (expression_field (codes "value") e ++ closing)
  unfolding argument_tokens expr_tokens
  positional_tokens e s = refl

  pub args_tokens : (e : Spanned (ExprP.ExprP P A B C D E)) (s : Span)
      → argument_tokens (ArgumentP.Args e) s ≡ head (codes "argument") (codes "Args") s ++ (expression_field (codes "value") e ++ closing)
  unfolding argument_tokens expr_tokens
  args_tokens e s = refl

  pub kwargs_tokens : (e : Spanned (ExprP.ExprP P A B C D E)) (s : Span)
      → argument_tokens (ArgumentP.KwArgs e) s ≡ head (codes "argument") (codes "KwArgs") s ++ (expression_field (codes "value") e ++ closing)
  unfolding argument_tokens expr_tokens
  kwargs_tokens e s = refl

  pub named_tokens : (name : Spanned (String Global)) (e : Spanned (ExprP.ExprP P A B C D E)) (s : Span)
      → argument_tokens (ArgumentP.Named name e) s ≡ head (codes "argument") (codes "Named") s
      ++ (word_field (codes "name") (word name) ++ (expression_field (codes "value") e ++ closing))
  unfolding argument_tokens expr_tokens
  named_tokens name e s = refl

  pub slash_tokens : (p : ParameterP.ParameterP P A B C D E) (s : Span)
      → p ≡ ParameterP.Slash → parameter_tokens p s ≡ head (codes "parameter") (codes "Slash") s ++ closing
  unfolding parameter_tokens
  slash_tokens p s is = ap (λ p. parameter_tokens p s) is

  pub no_args_tokens : (p : ParameterP.ParameterP P A B C D E) (s : Span)
      → p ≡ ParameterP.NoArgs → parameter_tokens p s ≡ head (codes "parameter") (codes "NoArgs") s ++ closing
  unfolding parameter_tokens
  no_args_tokens p s is = ap (λ p. parameter_tokens p s) is

  pub normal_tokens : (name : Spanned (AssignIdentP P A B C D E)) (ty : Option (Box (Spanned (TypeExprP P A B C D E)) Global))
      (default : Option (Box (Spanned (ExprP.ExprP P A B C D E)) Global)) (s : Span)
      → parameter_tokens (ParameterP.Normal name ty default) s ≡ head (codes "parameter") (codes "Normal") s
      ++ (word_field (codes "name") (assign_word name)
      ++ ((key (codes "type") ∷ boxed_type_tokens ty) ++ ((key (codes "default") ∷ maybe_tokens default) ++ closing)))
  unfolding parameter_tokens boxed_type_tokens maybe_tokens
  normal_tokens name ty default s =
      ap2
      (λ k l.
      head (codes "parameter") (codes "Normal") s
      ++ (word_field (codes "name") (assign_word name)
      ++ ((key (codes "type") ∷ json_tokens (maybe_type_json k)) ++ ((key (codes "default") ∷ json_tokens (maybe_json l)) ++ closing))))
      (maybe_type_seen_of ty) (maybe_seen_of default)

  pub args_parameter_tokens : (name : Spanned (AssignIdentP P A B C D E)) (ty : Option (Box (Spanned (TypeExprP P A B C D E)) Global)) (s : Span)
      → parameter_tokens (ParameterP.Args name ty) s ≡ head (codes "parameter") (codes "Args") s
      ++ (word_field (codes "name") (assign_word name) ++ ((key (codes "type") ∷ boxed_type_tokens ty) ++ closing))
  unfolding parameter_tokens boxed_type_tokens
  args_parameter_tokens name ty s =
      ap
      (λ k.
      head (codes "parameter") (codes "Args") s
      ++ (word_field (codes "name") (assign_word name) ++ ((key (codes "type") ∷ json_tokens (maybe_type_json k)) ++ closing)))
      (maybe_type_seen_of ty)

  pub kwargs_parameter_tokens : (name : Spanned (AssignIdentP P A B C D E)) (ty : Option (Box (Spanned (TypeExprP P A B C D E)) Global)) (s : Span)
      → parameter_tokens (ParameterP.KwArgs name ty) s ≡ head (codes "parameter") (codes "KwArgs") s
      ++ (word_field (codes "name") (assign_word name) ++ ((key (codes "type") ∷ boxed_type_tokens ty) ++ closing))
  unfolding parameter_tokens boxed_type_tokens
  kwargs_parameter_tokens name ty s =
      ap
      (λ k.
      head (codes "parameter") (codes "KwArgs") s
      ++ (word_field (codes "name") (assign_word name) ++ ((key (codes "type") ∷ json_tokens (maybe_type_json k)) ++ closing)))
      (maybe_type_seen_of ty)

  -- clauses and targets

  pub for_in_tokens : (c : ForClauseP P A B C D E)
      → for_tokens c ≡ key_head (codes "clause") (codes "For")
      ++ ((key (codes "var") ∷ spanned_target_tokens c.var) ++ (expression_field (codes "over") c.over ++ closing))
  unfolding for_tokens target_tokens expr_tokens
  for_in_tokens c = refl

  pub for_clause_tokens : (c : ForClauseP P A B C D E)
      → clause_tokens (ClauseP.For c) ≡ for_tokens c
  unfolding clause_tokens for_tokens
  for_clause_tokens c = refl

  pub if_clause_tokens : (e : Spanned (ExprP.ExprP P A B C D E))
      → clause_tokens (ClauseP.If e) ≡ key_head (codes "clause") (codes "If") ++ (expression_field (codes "condition") e ++ closing)
  unfolding clause_tokens expr_tokens
  if_clause_tokens e = refl

  pub target_tuple_tokens : (v : Vec (Spanned (AssignTargetP.AssignTargetP P A B C D E)) Global) (s : Span)
      → target_tokens (AssignTargetP.Tuple v) s ≡ head (codes "target") (codes "Tuple") s
      ++ (array_field (codes "items") (flat_map spanned_target_tokens v.items) ++ closing)
  unfolding target_tokens
  target_tuple_tokens v s =
      ap (λ ts. head (codes "target") (codes "Tuple") s ++ (key (codes "items") ∷ begin_array ∷ (ts ++ closing)))
      (ap (λ xs. items_tokens (targets_json xs)) (targets_seen_of v) ∙ targets_listed v.items)

  pub target_index_tokens : (b : Box (Spanned (ExprP.ExprP P A B C D E) × Spanned (ExprP.ExprP P A B C D E)) Global) (s : Span)
      → target_tokens (AssignTargetP.Index b) s ≡ head (codes "target") (codes "Index") s
      ++ (expression_field (codes "array") b.value.0 ++ (expression_field (codes "index") b.value.1 ++ closing))
  unfolding target_tokens expr_tokens
  target_index_tokens b s = refl

  pub target_dot_tokens : (b : Box (Spanned (ExprP.ExprP P A B C D E)) Global) (name : Spanned (String Global)) (s : Span)
      → target_tokens (AssignTargetP.Dot b name) s ≡ head (codes "target") (codes "Dot") s
      ++ (expression_field (codes "object") b.value ++ (word_field (codes "attribute") (word name) ++ closing))
  unfolding target_tokens expr_tokens
  target_dot_tokens b name s = refl

  pub target_name_tokens : (name : Spanned (AssignIdentP P A B C D E)) (s : Span)
      → target_tokens (AssignTargetP.Identifier name) s ≡ head (codes "target") (codes "Identifier") s
      ++ (text_field (codes "name") (string_bytes name.node.ident) ++ closing)
  unfolding target_tokens
  target_name_tokens name s = refl

pub ruleset options = (common_steps, absent_tokens, present_tokens, untyped_tokens, typed_tokens)
