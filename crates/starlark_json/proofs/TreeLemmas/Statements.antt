-- The tokens of each form of statement, by those of its parts.
use Rattle.std.proofs.Common.{◌≡◌, List, [], ◌∷◌, ◌++◌, codes, map, Option, Some, None, Box, Vec, Global, refl, ap, sym, ◌∙◌, append_assoc}
use Rattle.std.proofs.lemmas.Grind.{common_steps}
use Rattle.std.specs.List.{flat_map}
use Rattle.json.specs.Token.{key, begin_object, end_array, begin_array, null}
use Rattle.json.specs.Tree.{json_tokens, items_tokens}
use Rattle.starlark_lexer.specs.Tokens.{Span, span_of}
use Rattle.starlark_lexer.specs.declared.span.Spanned.{Spanned}
use Rattle.starlark_tree.specs.declared.ast.AssignP.{AssignP}
use Rattle.starlark_tree.specs.declared.ast.AssignTargetP.{AssignTargetP}
use Rattle.starlark_tree.specs.declared.ast.Comma.{Comma}
use Rattle.starlark_tree.specs.declared.ast.DefP.{DefP}
use Rattle.starlark_tree.specs.declared.ast.ExprP.{ExprP}
use Rattle.starlark_tree.specs.declared.ast.ForP.{ForP}
use Rattle.starlark_tree.specs.declared.ast.LoadArgP.{LoadArgP}
use Rattle.starlark_tree.specs.declared.ast.LoadP.{LoadP}
use Rattle.starlark_tree.specs.declared.ast.StmtP
use Rattle.starlark_tree.specs.declared.ast.TypeExprP.{TypeExprP}
use Rattle.starlark_tree.specs.declared.ast.operator.AssignOp.{AssignOp}
use Rattle.starlark_tree.specs.Views.{word, assign_word, expression_of, all_statements, load_arg_of}
use Rattle.starlark_tree.proofs.Rows.{statements_seen_of}
use Rattle.starlark_json.specs.Tree.Fields.{span_json, assign_operator_name}
use Rattle.starlark_json.specs.Tree.Trees.{expression_json, statements_json, load_args_json}
use Rattle.starlark_json.specs.Tree.Tokens.{head, type_head, closing, text_field, word_field, array_field, expression_field, comma_tokens}
use Rattle.starlark_json.specs.Tree.Tokens.{expr_tokens, boxed_type_tokens, maybe_type_tokens, returned_tokens, target_tokens, load_arg_tokens, stmt_tokens}
use Rattle.starlark_json.specs.Tree.Tokens.{spanned_parameter_tokens, spanned_target_tokens, statement_tokens, statement_field}
use Rattle.starlark_json.proofs.TreeLemmas.Nodes.{parameters_listed}

module _ {P A B C D E : Type 0} where
  statements_listed : (xs : List (Spanned (StmtP.StmtP P A B C D E))) → items_tokens (statements_json (all_statements xs)) ≡ flat_map statement_tokens xs
      ++ end_array ∷ []
  unfolding stmt_tokens
  statements_listed [] = refl
  statements_listed (x ∷ xs) =
      ap (λ ts. statement_tokens x ++ ts) (statements_listed xs) ∙ sym (append_assoc (statement_tokens x) (flat_map statement_tokens xs) (end_array ∷ []))

  load_args_listed : (xs : List (LoadArgP P A B C D E)) → items_tokens (load_args_json (map load_arg_of xs)) ≡ flat_map load_arg_tokens xs ++ end_array ∷ []
  unfolding load_arg_tokens
  load_args_listed [] = refl
  load_args_listed (x ∷ xs) =
      ap (λ ts. load_arg_tokens x ++ ts) (load_args_listed xs) ∙ sym (append_assoc (load_arg_tokens x) (flat_map load_arg_tokens xs) (end_array ∷ []))

  pub break_tokens : (x : StmtP.StmtP P A B C D E) (s : Span)
      → x ≡ StmtP.Break → stmt_tokens x s
      ≡ head (codes "stmt") (codes "Break") s ++ closing
  unfolding stmt_tokens expr_tokens
  break_tokens x s is = ap (λ x. stmt_tokens x s) is

  pub continue_tokens : (x : StmtP.StmtP P A B C D E) (s : Span)
      → x ≡ StmtP.Continue → stmt_tokens x s
      ≡ head (codes "stmt") (codes "Continue") s ++ closing
  unfolding stmt_tokens expr_tokens
  continue_tokens x s is = ap (λ x. stmt_tokens x s) is

  pub pass_tokens : (x : StmtP.StmtP P A B C D E) (s : Span)
      → x ≡ StmtP.Pass → stmt_tokens x s
      ≡ head (codes "stmt") (codes "Pass") s ++ closing
  unfolding stmt_tokens expr_tokens
  pass_tokens x s is = ap (λ x. stmt_tokens x s) is

  pub return_tokens : (v : Option (Spanned (ExprP P A B C D E))) (s : Span)
      → stmt_tokens (StmtP.Return v) s ≡ head (codes "stmt") (codes "Return") s ++ ((key (codes "value") ∷ returned_tokens v) ++ closing)
  unfolding stmt_tokens returned_tokens
  return_tokens v s = refl

  pub none_returned : (v : Option (Spanned (ExprP P A B C D E))) → v ≡ None → returned_tokens v ≡ null ∷ []
  unfolding returned_tokens
  none_returned v is = ap returned_tokens is

  pub some_returned : (e : Spanned (ExprP P A B C D E)) → returned_tokens (Some e) ≡ json_tokens (expression_json (expression_of e))
  unfolding returned_tokens
  some_returned e = refl

  pub evaluate_tokens : (e : Spanned (ExprP P A B C D E)) (s : Span)
      → stmt_tokens (StmtP.Expression e) s
      ≡ head (codes "stmt") (codes "Expression") s ++ (expression_field (codes "value") e ++ closing)
  unfolding stmt_tokens expr_tokens
  evaluate_tokens e s = refl

  pub assign_tokens : (a : AssignP P A B C D E) (s : Span)
      → stmt_tokens (StmtP.Assign a) s
      ≡ head (codes "stmt") (codes "Assign") s
      ++ ((key (codes "lhs") ∷ spanned_target_tokens a.lhs)
      ++ ((key (codes "type") ∷ maybe_type_tokens a.ty) ++ (expression_field (codes "rhs") a.rhs ++ closing)))
  unfolding stmt_tokens expr_tokens target_tokens maybe_type_tokens
  assign_tokens a s = refl

  pub assign_modify_tokens : (x : Spanned (AssignTargetP P A B C D E)) (op : AssignOp) (e : Box (Spanned (ExprP P A B C D E)) Global) (s : Span)
      → stmt_tokens (StmtP.AssignModify x op e) s
      ≡ head (codes "stmt") (codes "AssignModify") s
      ++ ((key (codes "lhs") ∷ spanned_target_tokens x) ++ (text_field (codes "op") (assign_operator_name op)
      ++ (expression_field (codes "rhs") e.value ++ closing)))
  unfolding stmt_tokens expr_tokens target_tokens
  assign_modify_tokens x op e s = refl

  pub block_tokens : (v : Vec (Spanned (StmtP.StmtP P A B C D E)) Global) (s : Span)
      → stmt_tokens (StmtP.Statements v) s
      ≡ head (codes "stmt") (codes "Statements") s ++ (array_field (codes "statements") (flat_map statement_tokens v.items) ++ closing)
  unfolding stmt_tokens
  block_tokens v s =
      ap (λ ts. head (codes "stmt") (codes "Statements") s ++ (key (codes "statements") ∷ begin_array ∷ (ts ++ closing)))
      (ap (λ ss. items_tokens (statements_json ss)) (statements_seen_of v) ∙ statements_listed v.items)

  pub if_then_tokens : (e : Spanned (ExprP P A B C D E)) (body : Box (Spanned (StmtP.StmtP P A B C D E)) Global) (s : Span)
      → stmt_tokens (StmtP.If e body) s
      ≡ head (codes "stmt") (codes "If") s ++ (expression_field (codes "condition") e ++ (statement_field (codes "then") body.value ++ closing))
  unfolding stmt_tokens expr_tokens
  if_then_tokens e body s = refl

  pub if_else_tokens : (e : Spanned (ExprP P A B C D E)) (blocks : Box (Spanned (StmtP.StmtP P A B C D E) × Spanned (StmtP.StmtP P A B C D E)) Global)
      (s : Span)
      → stmt_tokens (StmtP.IfElse e blocks) s
      ≡ head (codes "stmt") (codes "IfElse") s
      ++ (expression_field (codes "condition") e ++ ((statement_field (codes "then") blocks.value.0 ++ statement_field (codes "else") blocks.value.1)
      ++ closing))
  unfolding stmt_tokens expr_tokens
  if_else_tokens e blocks s =
      ap (λ ts. head (codes "stmt") (codes "IfElse") s ++ (expression_field (codes "condition") e ++ (key (codes "then") ∷ ts)))
      (sym (append_assoc (statement_tokens blocks.value.0) (statement_field (codes "else") blocks.value.1) closing))

  pub for_each_tokens : (each : ForP P A B C D E) (s : Span)
      → stmt_tokens (StmtP.For each) s
      ≡ head (codes "stmt") (codes "For") s
      ++ ((key (codes "var") ∷ spanned_target_tokens each.var)
      ++ (expression_field (codes "over") each.over ++ (statement_field (codes "body") each.body.value ++ closing)))
  unfolding stmt_tokens expr_tokens target_tokens
  for_each_tokens each s = refl

  pub def_tokens : (def : DefP P A B C D E) (s : Span)
      → stmt_tokens (StmtP.Def def) s
      ≡ head (codes "stmt") (codes "Def") s
      ++ (word_field (codes "name") (assign_word def.name)
      ++ (array_field (codes "params") (flat_map spanned_parameter_tokens def.params.items)
      ++ ((key (codes "return_type") ∷ boxed_type_tokens def.return_type) ++ (statement_field (codes "body") def.body.value ++ closing))))
  unfolding stmt_tokens boxed_type_tokens
  def_tokens def s =
      ap
      (λ ts.
      head (codes "stmt") (codes "Def") s
      ++ (word_field (codes "name") (assign_word def.name)
      ++ (key (codes "params") ∷ begin_array
      ∷ (ts ++ ((key (codes "return_type") ∷ boxed_type_tokens def.return_type) ++ (statement_field (codes "body") def.body.value ++ closing))))))
      (parameters_listed def.params.items)

  pub load_tokens : (l : LoadP P A B C D E) (s : Span)
      → stmt_tokens (StmtP.Load l) s
      ≡ head (codes "stmt") (codes "Load") s
      ++ (word_field (codes "module") (word l.module) ++ (array_field (codes "args") (flat_map load_arg_tokens l.args.items) ++ closing))
  unfolding stmt_tokens
  load_tokens l s =
      ap (λ ts. head (codes "stmt") (codes "Load") s ++ (word_field (codes "module") (word l.module) ++ (key (codes "args") ∷ begin_array ∷ (ts ++ closing))))
      (load_args_listed l.args.items)

  pub untyped_target_tokens : (o : Option (Spanned (TypeExprP P A B C D E))) → o ≡ None → maybe_type_tokens o ≡ null ∷ []
  unfolding maybe_type_tokens
  untyped_target_tokens o is = ap maybe_type_tokens is

  pub typed_target_tokens : (ty : Spanned (TypeExprP P A B C D E)) → maybe_type_tokens (Some ty) ≡ type_head (span_of ty.span)
      ++ (expression_field (codes "expr") ty.node.expr ++ closing)
  unfolding maybe_type_tokens expr_tokens
  typed_target_tokens ty = refl

  pub load_arg_shown : (a : LoadArgP P A B C D E)
      → load_arg_tokens a
      ≡ begin_object ∷ (word_field (codes "local") (assign_word a.local)
      ++ (word_field (codes "their") (word a.their) ++ ((key (codes "comma") ∷ comma_tokens a.comma) ++ closing)))
  unfolding load_arg_tokens comma_tokens
  load_arg_shown a = refl

pub no_comma : (o : Option (Spanned Comma)) → o ≡ None → comma_tokens o ≡ null ∷ []
unfolding comma_tokens
no_comma o is = ap comma_tokens is

pub some_comma : (c : Spanned Comma) → comma_tokens (Some c) ≡ json_tokens (span_json (span_of c.span))
unfolding comma_tokens
some_comma c = refl

pub ruleset options = (common_steps, none_returned, some_returned, untyped_target_tokens, typed_target_tokens, no_comma, some_comma)
