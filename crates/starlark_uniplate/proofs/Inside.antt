-- What is inside a node: the node, and what is inside its children.
use Rattle.std.proofs.Common.{◌≡◌, List as Seq, [], ◌∷◌, ◌++◌, append_assoc, append-nil, refl, sym, ap, ◌∙◌}
use Rattle.std.specs.List.{flat_map}
use Rattle.std.proofs.lemmas.Grind.{flat_map-append}
use Rattle.std.specs.Prelude.{option_to_list}
use Rattle.starlark_lexer.specs.declared.span.Spanned.{Spanned}
use Rattle.starlark_tree.specs.declared.ast.ExprP.{ExprP}
use Rattle.starlark_tree.specs.declared.ast.StmtP.{StmtP}
use Rattle.starlark_tree.specs.Ast as t
use Rattle.starlark_tree.specs.Ast.{Payloads, statement_list}
use Rattle.starlark_tree.specs.Children.{form_exprs, own_exprs, own_stmts, stmt_exprs, stmts_exprs, stmts_of_stmt}
use Rattle.starlark_tree.specs.Inside.{inside, inside_form, inside_statement, inside_statements, parameters_inside, target_inside, type_inside}
use Rattle.starlark_tree.specs.Places.{children, parameters_exprs, target_exprs, type_exprs}
use Rattle.starlark_tree.specs.Views.{expression_of, form_seen, shape_seen, statement_of}
use Rattle.starlark_tree.proofs.InsideLemmas.{below_children, in_parameters, in_target, in_type, join, one}
use Rattle.starlark_uniplate.specs.Statements.{exprs_of_statement, statement_inside, statements_below, statements_inside}

module _ {P A B C D E : Type 0} where
  pub expr_inside : (e : Spanned (ExprP P A B C D E)) → inside (expression_of e) ≡ expression_of e ∷ flat_map inside (children e.node)
  expr_inside e = ap (λ (ys : Seq (t.Expression _)). expression_of e ∷ ys) (below_children (shape_seen e.node))

module _ {P : Payloads} where
  of_all : (ss : t.Statements P) → statements_inside ss ≡ flat_map statement_inside (statement_list ss)
  of_all t.no_statements = refl
  of_all (t.statements s ss) = ap (λ (ys : Seq (t.Statement P)). statement_inside s ++ ys) (of_all ss)

  only : (s : t.Statement P) → statement_inside s ≡ flat_map statement_inside (s ∷ [])
  only s = sym (append-nil (statement_inside s))

  pub below_own : (form : t.Form P) → statements_below form ≡ flat_map statement_inside (own_stmts form)
  below_own t.Break = refl
  below_own t.Continue = refl
  below_own t.Pass = refl
  below_own (t.Return e) = refl
  below_own (t.Evaluate e) = refl
  below_own (t.Assign x ty e) = refl
  below_own (t.AssignModify x op e) = refl
  below_own (t.Block ss) = of_all ss
  below_own (t.IfThen e s) = only s
  below_own (t.IfElse e s other) = ap (λ (ys : Seq (t.Statement P)). statement_inside s ++ ys) (only other)
  below_own (t.For x e s) = only s
  below_own (t.Def w p ps ty s q) = only s
  below_own (t.Load path names p) = refl

  -- all expressions of a statement are among those that a walk over them visits
  mutual
    in_statement : (s : t.Statement P) → inside_statement s ≡ flat_map inside (stmt_exprs s)
    in_statement (t.statement s form) = in_form form

    pub in_form : (form : t.Form P) → inside_form form ≡ flat_map inside (form_exprs form)
    in_form t.Break = refl
    in_form t.Continue = refl
    in_form t.Pass = refl
    in_form (t.Return e) = refl
    in_form (t.Evaluate e) = one e
    in_form (t.Assign x ty e) = join (target_exprs x) (type_exprs ty ++ e ∷ []) (in_target x) (join (type_exprs ty) (e ∷ []) (in_type ty) (one e))
    in_form (t.AssignModify x op e) = join (target_exprs x) (e ∷ []) (in_target x) (one e)
    in_form (t.Block ss) = in_statements ss
    in_form (t.IfThen e s) = ap (λ (ys : Seq (t.Expression P)). inside e ++ ys) (in_statement s)
    in_form (t.IfElse e s other) =
        ap (λ (ys : Seq (t.Expression P)). inside e ++ ys) (join (stmt_exprs s) (stmt_exprs other) (in_statement s) (in_statement other))
    in_form (t.For x e s) =
        sym (append_assoc (target_inside x) (inside e) (inside_statement s))
        ∙ join (target_exprs x ++ e ∷ []) (stmt_exprs s) (join (target_exprs x) (e ∷ []) (in_target x) (one e)) (in_statement s)
    in_form (t.Def w p ps ty s q) =
        sym (append_assoc (parameters_inside ps) (type_inside ty) (inside_statement s))
        ∙ join (parameters_exprs ps ++ type_exprs ty) (stmt_exprs s) (join (parameters_exprs ps) (type_exprs ty) (in_parameters ps) (in_type ty))
        (in_statement s)
    in_form (t.Load path names p) = refl

    in_statements : (ss : t.Statements P) → inside_statements ss ≡ flat_map inside (stmts_exprs ss)
    in_statements t.no_statements = refl
    in_statements (t.statements s ss) = join (stmt_exprs s) (stmts_exprs ss) (in_statement s) (in_statements ss)

module _ {P : Payloads} where
  joined : {a b : Seq (t.Expression P)} (xs ys : Seq (t.Statement P)) → a ≡ flat_map exprs_of_statement xs → b ≡ flat_map exprs_of_statement ys
      → a ++ b ≡ flat_map exprs_of_statement (xs ++ ys)
  joined {b = b} xs ys p q =
      ap (λ (es : Seq (t.Expression P)). es ++ b) p
      ∙ ap (λ (es : Seq (t.Expression P)). flat_map exprs_of_statement xs ++ es) q
      ∙ sym (flat_map-append exprs_of_statement xs ys)

  -- the expressions of a statement: its own, then those of each statement in it
  mutual
    in_one : (s : t.Statement P) → stmt_exprs s ≡ flat_map exprs_of_statement (statement_inside s)
    in_one (t.statement s form) = exprs_parted form

    pub exprs_parted : (form : t.Form P) → form_exprs form ≡ own_exprs form ++ flat_map exprs_of_statement (statements_below form)
    exprs_parted t.Break = refl
    exprs_parted t.Continue = refl
    exprs_parted t.Pass = refl
    exprs_parted (t.Return e) = sym (append-nil (option_to_list e))
    exprs_parted (t.Evaluate e) = refl
    exprs_parted (t.Assign x ty e) = sym (append-nil (target_exprs x ++ (type_exprs ty ++ e ∷ [])))
    exprs_parted (t.AssignModify x op e) = sym (append-nil (target_exprs x ++ e ∷ []))
    exprs_parted (t.Block ss) = in_each ss
    exprs_parted (t.IfThen e s) = ap (λ (ys : Seq (t.Expression P)). e ∷ ys) (in_one s)
    exprs_parted (t.IfElse e s other) =
        ap (λ (ys : Seq (t.Expression P)). e ∷ ys) (joined (statement_inside s) (statement_inside other) (in_one s) (in_one other))
    exprs_parted (t.For x e s) = ap (λ (ys : Seq (t.Expression P)). (target_exprs x ++ e ∷ []) ++ ys) (in_one s)
    exprs_parted (t.Def w p ps ty s q) = ap (λ (ys : Seq (t.Expression P)). (parameters_exprs ps ++ type_exprs ty) ++ ys) (in_one s)
    exprs_parted (t.Load path names p) = refl

    in_each : (ss : t.Statements P) → stmts_exprs ss ≡ flat_map exprs_of_statement (statements_inside ss)
    in_each t.no_statements = refl
    in_each (t.statements s ss) = joined (statement_inside s) (statements_inside ss) (in_one s) (in_each ss)

module _ {P A B C D E : Type 0} where
  pub stmt_inside : (s : Spanned (StmtP P A B C D E)) → statement_inside (statement_of s) ≡ statement_of s ∷ flat_map statement_inside (stmts_of_stmt s.node)
  stmt_inside s = ap (λ (ys : Seq (t.Statement _)). statement_of s ∷ ys) (below_own (form_seen s.node))
