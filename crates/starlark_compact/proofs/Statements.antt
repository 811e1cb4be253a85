-- The bytes of each form of statement, by those of its parts.
use Rattle.std.proofs.Common.{◌≡◌, List, [], ◌∷◌, ◌++◌, length, map, Option, Some, None, Box, Vec, Global, refl, ap, ◌∙◌}
use Rattle.std.proofs.lemmas.Grind.{common_steps}
use Rattle.std.specs.List.{flat_map}
use Rattle.std.specs.Prelude.{suc}
use Rattle.starlark_lexer.specs.Tokens.{Span, span_of}
use Rattle.starlark_lexer.specs.declared.span.Spanned.{Spanned}
use Rattle.starlark_tree.specs.declared.ast.AssignP.{AssignP}
use Rattle.starlark_tree.specs.declared.ast.AssignTargetP.{AssignTargetP}
use Rattle.starlark_tree.specs.declared.ast.Comma.{Comma}
use Rattle.starlark_tree.specs.declared.ast.DefP.{DefP}
use Rattle.starlark_tree.specs.declared.ast.ExprP.{ExprP}
use Rattle.starlark_tree.specs.declared.ast.ForP.{ForP}
use Rattle.starlark_tree.specs.declared.ast.LoadArgP.{LoadArgP}
use Rattle.starlark_tree.specs.declared.ast.LoadP.{LoadP}
use Rattle.starlark_tree.specs.declared.ast.StmtP
use Rattle.starlark_tree.specs.declared.ast.TypeExprP.{TypeExprP}
use Rattle.starlark_tree.specs.declared.ast.operator.AssignOp.{AssignOp}
use Rattle.starlark_tree.specs.Ast.{statement_list}
use Rattle.starlark_tree.specs.Views.{word, assign_word, expression_of, all_statements, load_arg_of}
use Rattle.starlark_tree.proofs.Rows.{statements_seen_of}
use Rattle.starlark_compact.specs.Bytes.{number, count, span_bytes, word_bytes, mark, node}
use Rattle.starlark_compact.specs.Code.{bytes_of_comma, bytes_of_expr, bytes_of_boxed_type, bytes_of_type, bytes_of_returned, bytes_of_target}
use Rattle.starlark_compact.specs.Code.{bytes_of_load_arg, bytes_of_stmt, bytes_of_expression, bytes_of_param, bytes_of_spanned_target, bytes_of_statement}
use Rattle.starlark_compact.specs.Kinds.{assign_operator_number}
use Rattle.starlark_compact.specs.Trees.{expression_bytes, load_arg_bytes, statements_bytes}
use Rattle.starlark_compact.specs.declared.kind.Kind.TheVariants as kind
use Rattle.starlark_compact.proofs.Nodes.{ap2, parameters_listed, parameters_counted}

module _ {P A B C D E : Type 0} where
  statements_listed : (xs : List (Spanned (StmtP.StmtP P A B C D E))) → statements_bytes (all_statements xs) ≡ flat_map bytes_of_statement xs
  unfolding bytes_of_stmt
  statements_listed [] = refl
  statements_listed (x ∷ xs) = ap (λ ts. bytes_of_statement x ++ ts) (statements_listed xs)

  statements_counted : (xs : List (Spanned (StmtP.StmtP P A B C D E))) → length (statement_list (all_statements xs)) ≡ length xs
  statements_counted [] = refl
  statements_counted (x ∷ xs) = ap suc (statements_counted xs)

  load_args_listed : (xs : List (LoadArgP P A B C D E)) → flat_map load_arg_bytes (map load_arg_of xs) ≡ flat_map bytes_of_load_arg xs
  unfolding bytes_of_load_arg
  load_args_listed [] = refl
  load_args_listed (x ∷ xs) = ap (λ ts. bytes_of_load_arg x ++ ts) (load_args_listed xs)

  load_args_counted : (xs : List (LoadArgP P A B C D E)) → length (map load_arg_of xs) ≡ length xs
  load_args_counted [] = refl
  load_args_counted (x ∷ xs) = ap suc (load_args_counted xs)

  pub break_bytes : (x : StmtP.StmtP P A B C D E) (s : Span) → x ≡ StmtP.Break → bytes_of_stmt x s ≡ node kind.Break s
  unfolding bytes_of_stmt
  break_bytes x s is = ap (λ x. bytes_of_stmt x s) is

  pub continue_bytes : (x : StmtP.StmtP P A B C D E) (s : Span) → x ≡ StmtP.Continue → bytes_of_stmt x s ≡ node kind.Continue s
  unfolding bytes_of_stmt
  continue_bytes x s is = ap (λ x. bytes_of_stmt x s) is

  pub pass_bytes : (x : StmtP.StmtP P A B C D E) (s : Span) → x ≡ StmtP.Pass → bytes_of_stmt x s ≡ node kind.Pass s
  unfolding bytes_of_stmt
  pass_bytes x s is = ap (λ x. bytes_of_stmt x s) is

  pub return_bytes : (v : Option (Spanned (ExprP P A B C D E))) (s : Span)
      → bytes_of_stmt (StmtP.Return v) s ≡ bytes_of_returned v ++ node kind.Return s
  unfolding bytes_of_stmt bytes_of_returned
  return_bytes v s = refl

  pub none_returned : (v : Option (Spanned (ExprP P A B C D E))) → v ≡ None → bytes_of_returned v ≡ mark kind.Absent
  unfolding bytes_of_returned
  none_returned v is = ap bytes_of_returned is

  pub some_returned : (e : Spanned (ExprP P A B C D E)) → bytes_of_returned (Some e) ≡ expression_bytes (expression_of e) ++ mark kind.Present
  unfolding bytes_of_returned
  some_returned e = refl

  pub evaluate_bytes : (e : Spanned (ExprP P A B C D E)) (s : Span)
      → bytes_of_stmt (StmtP.Expression e) s ≡ expression_bytes (expression_of e) ++ node kind.Expression s
  unfolding bytes_of_stmt
  evaluate_bytes e s = refl

  pub assign_bytes : (a : AssignP P A B C D E) (s : Span)
      → bytes_of_stmt (StmtP.Assign a) s
      ≡ bytes_of_spanned_target a.lhs ++ (bytes_of_type a.ty ++ (expression_bytes (expression_of a.rhs) ++ node kind.Assign s))
  unfolding bytes_of_stmt bytes_of_target bytes_of_type
  assign_bytes a s = refl

  pub assign_modify_bytes : (x : Spanned (AssignTargetP P A B C D E)) (op : AssignOp) (e : Box (Spanned (ExprP P A B C D E)) Global) (s : Span)
      → bytes_of_stmt (StmtP.AssignModify x op e) s ≡ bytes_of_spanned_target x
      ++ (expression_bytes (expression_of e.value) ++ (node kind.AssignModify s ++ number (assign_operator_number op)))
  unfolding bytes_of_stmt bytes_of_target
  assign_modify_bytes x op e s = refl

  pub block_bytes : (v : Vec (Spanned (StmtP.StmtP P A B C D E)) Global) (s : Span)
      → bytes_of_stmt (StmtP.Statements v) s ≡ flat_map bytes_of_statement v.items ++ (node kind.Statements s ++ count (length v.items))
  unfolding bytes_of_stmt
  block_bytes v s =
      ap (λ ss. statements_bytes ss ++ (node kind.Statements s ++ count (length (statement_list ss)))) (statements_seen_of v)
      ∙ ap2 (λ ts n. ts ++ (node kind.Statements s ++ count n)) (statements_listed v.items) (statements_counted v.items)

  pub if_then_bytes : (e : Spanned (ExprP P A B C D E)) (body : Box (Spanned (StmtP.StmtP P A B C D E)) Global) (s : Span)
      → bytes_of_stmt (StmtP.If e body) s ≡ expression_bytes (expression_of e) ++ (bytes_of_statement body.value ++ node kind.If s)
  unfolding bytes_of_stmt
  if_then_bytes e body s = refl

  pub if_else_bytes : (e : Spanned (ExprP P A B C D E)) (blocks : Box (Spanned (StmtP.StmtP P A B C D E) × Spanned (StmtP.StmtP P A B C D E)) Global) (s : Span)
      → bytes_of_stmt (StmtP.IfElse e blocks) s ≡ expression_bytes (expression_of e)
      ++ (bytes_of_statement blocks.value.0 ++ (bytes_of_statement blocks.value.1 ++ node kind.IfElse s))
  unfolding bytes_of_stmt
  if_else_bytes e blocks s = refl

  pub for_each_bytes : (each : ForP P A B C D E) (s : Span)
      → bytes_of_stmt (StmtP.For each) s ≡ bytes_of_spanned_target each.var
      ++ (expression_bytes (expression_of each.over) ++ (bytes_of_statement each.body.value ++ node kind.For s))
  unfolding bytes_of_stmt bytes_of_target
  for_each_bytes each s = refl

  pub def_bytes : (def : DefP P A B C D E) (s : Span)
      → bytes_of_stmt (StmtP.Def def) s
      ≡ flat_map bytes_of_param def.params.items ++ (bytes_of_boxed_type def.return_type
      ++ (bytes_of_statement def.body.value ++ ((node kind.Def s ++ word_bytes (assign_word def.name)) ++ count (length def.params.items))))
  unfolding bytes_of_stmt bytes_of_boxed_type
  def_bytes def s =
      ap2
      (λ ts n. ts ++ (bytes_of_boxed_type def.return_type
      ++ (bytes_of_statement def.body.value ++ ((node kind.Def s ++ word_bytes (assign_word def.name)) ++ count n))))
      (parameters_listed def.params.items) (parameters_counted def.params.items)

  pub load_bytes : (l : LoadP P A B C D E) (s : Span)
      → bytes_of_stmt (StmtP.Load l) s
      ≡ (node kind.Load s ++ word_bytes (word l.module)) ++ (count (length l.args.items) ++ flat_map bytes_of_load_arg l.args.items)
  unfolding bytes_of_stmt
  load_bytes l s =
      ap2 (λ n ts. (node kind.Load s ++ word_bytes (word l.module)) ++ (count n ++ ts))
      (load_args_counted l.args.items) (load_args_listed l.args.items)

  pub untyped_target : (o : Option (Spanned (TypeExprP P A B C D E))) → o ≡ None → bytes_of_type o ≡ mark kind.NoType
  unfolding bytes_of_type
  untyped_target o is = ap bytes_of_type is

  pub typed_target : (ty : Spanned (TypeExprP P A B C D E))
      → bytes_of_type (Some ty) ≡ bytes_of_expression ty.node.expr ++ node kind.TypeExpr (span_of ty.span)
  unfolding bytes_of_type bytes_of_expr
  typed_target ty = refl

  pub load_arg_shown : (a : LoadArgP P A B C D E)
      → bytes_of_load_arg a ≡ word_bytes (assign_word a.local) ++ (word_bytes (word a.their) ++ bytes_of_comma a.comma)
  unfolding bytes_of_load_arg bytes_of_comma
  load_arg_shown a = refl

pub no_comma : (o : Option (Spanned Comma)) → o ≡ None → bytes_of_comma o ≡ number 0
unfolding bytes_of_comma
no_comma o is = ap bytes_of_comma is

pub some_comma : (c : Spanned Comma) → bytes_of_comma (Some c) ≡ number 1 ++ span_bytes (span_of c.span)
unfolding bytes_of_comma
some_comma c = refl

pub ruleset options = (common_steps, none_returned, some_returned, untyped_target, typed_target, no_comma, some_comma)
