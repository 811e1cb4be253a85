-- The nodes in a statement, by its parts.
use Rattle.std.proofs.Common.{◌≡◌, List, [], ◌∷◌, ◌++◌, map, Vec, Box, Global, refl, ap, ◌∙◌}
use Rattle.std.specs.List.{flat_map}
use Rattle.starlark_lexer.specs.Tokens.{span_of}
use Rattle.starlark_lexer.specs.declared.span.Spanned.{Spanned}
use Rattle.starlark_tree.specs.declared.ast.AssignP.{AssignP}
use Rattle.starlark_tree.specs.declared.ast.AssignTargetP.{AssignTargetP}
use Rattle.starlark_tree.specs.declared.ast.DefP.{DefP}
use Rattle.starlark_tree.specs.declared.ast.ExprP.{ExprP}
use Rattle.starlark_tree.specs.declared.ast.ForP.{ForP}
use Rattle.starlark_tree.specs.declared.ast.ParameterP.{ParameterP}
use Rattle.starlark_tree.specs.declared.ast.StmtP as stmt
use Rattle.starlark_tree.specs.Ast as t
use Rattle.starlark_tree.specs.Children.{exprs_of_stmt, stmts_of_stmt}
use Rattle.starlark_tree.specs.Places.{exprs_in_parameter, exprs_in_target, type_exprs}
use Rattle.starlark_tree.specs.Views.{boxed_type_of, expression_of, maybe_type_of, statement_of}
use Rattle.starlark_tree.proofs.Nodes.{anywhere, parameters_in}
use Rattle.starlark_tree.proofs.Rows.{statements_seen_of}

list_of : {Q : t.Payloads} (xs : List (t.Statement Q)) → t.statement_list (t.statements_of xs) ≡ xs
list_of [] = refl
list_of (x ∷ xs) = ap (λ ys. x ∷ ys) (list_of xs)

module _ {P A B C D E : Type 0} where
  pub block_stmts : (v : Vec (Spanned (stmt.StmtP P A B C D E)) Global) → stmts_of_stmt (stmt.Statements v) ≡ map statement_of v.items
  block_stmts v = ap t.statement_list (statements_seen_of v) ∙ list_of (map statement_of v.items)

  pub assign_exprs : (a : AssignP P A B C D E)
      → exprs_of_stmt (stmt.Assign a) ≡ exprs_in_target a.lhs.node ++ (type_exprs (maybe_type_of a.ty) ++ expression_of a.rhs ∷ [])
  assign_exprs a = ap (λ ys. ys ++ (type_exprs (maybe_type_of a.ty) ++ expression_of a.rhs ∷ [])) (anywhere (span_of a.lhs.span) a.lhs.node)

  pub modify_exprs : (x : Spanned (AssignTargetP P A B C D E)) (op : _) (e : Box (Spanned (ExprP P A B C D E)) Global)
      → exprs_of_stmt (stmt.AssignModify x op e) ≡ exprs_in_target x.node ++ expression_of e.value ∷ []
  modify_exprs x op e = ap (λ ys. ys ++ expression_of e.value ∷ []) (anywhere (span_of x.span) x.node)

  pub for_own : (r : ForP P A B C D E) → exprs_of_stmt (stmt.For r) ≡ exprs_in_target r.var.node ++ expression_of r.over ∷ []
  for_own r = ap (λ ys. ys ++ expression_of r.over ∷ []) (anywhere (span_of r.var.span) r.var.node)

  pub def_own : (d : DefP P A B C D E)
      → exprs_of_stmt (stmt.Def d) ≡ flat_map (λ (p : Spanned (ParameterP P A B C D E)). exprs_in_parameter p.node) d.params.items
      ++ type_exprs (boxed_type_of d.return_type)
  def_own d = ap (λ ys. ys ++ type_exprs (boxed_type_of d.return_type)) (parameters_in d.params.items)
