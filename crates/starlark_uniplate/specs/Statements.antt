-- The statements of a tree in the order of a walk, each before those inside it.
use Rattle.std.specs.Prelude.{List as Seq, [], ◌∷◌, ◌++◌}
use Rattle.starlark_tree.specs.Ast as t
use Rattle.starlark_tree.specs.Ast.{Payloads}
use Rattle.starlark_tree.specs.Children.{own_exprs}
use Rattle.starlark_tree.specs.Inside.{below, inside_form}
use Rattle.starlark_tree.specs.Views.{form_seen, payloads, shape_seen}
use Rattle.starlark_tree.specs.declared.ast.ExprP.{ExprP}
use Rattle.starlark_tree.specs.declared.ast.StmtP.{StmtP}

-- a statement, and all inside it
abbrev mutual
  pub statement_inside : {P : Payloads} → t.Statement P → Seq (t.Statement P)
  statement_inside (t.statement s form) = t.statement s form ∷ statements_below form

  pub statements_below : {P : Payloads} → t.Form P → Seq (t.Statement P)
  statements_below t.Break = []
  statements_below t.Continue = []
  statements_below t.Pass = []
  statements_below (t.Return e) = []
  statements_below (t.Evaluate e) = []
  statements_below (t.Assign x ty e) = []
  statements_below (t.AssignModify x op e) = []
  statements_below (t.Block ss) = statements_inside ss
  statements_below (t.IfThen e s) = statement_inside s
  statements_below (t.IfElse e s other) = statement_inside s ++ statement_inside other
  statements_below (t.For x e s) = statement_inside s
  statements_below (t.Def w p ps ty s q) = statement_inside s
  statements_below (t.Load path names p) = []

  pub statements_inside : {P : Payloads} → t.Statements P → Seq (t.Statement P)
  statements_inside t.no_statements = []
  statements_inside (t.statements s ss) = statement_inside s ++ statements_inside ss

-- the expressions of a statement itself
abbrev pub exprs_of_statement : {P : Payloads} → t.Statement P → Seq (t.Expression P)
exprs_of_statement (t.statement s form) = own_exprs form

-- the same for trees in memory
module _ {P A B C D E : Type 0} where
  -- all statements in a statement
  abbrev pub stmts_below_stmt : StmtP P A B C D E → Seq (t.Statement (payloads A B C D E))
  stmts_below_stmt s = statements_below (form_seen s)

  -- all expressions in a statement, and in an expression
  abbrev pub exprs_below_stmt : StmtP P A B C D E → Seq (t.Expression (payloads A B C D E))
  exprs_below_stmt s = inside_form (form_seen s)

  abbrev pub exprs_below_expr : ExprP P A B C D E → Seq (t.Expression (payloads A B C D E))
  exprs_below_expr e = below (shape_seen e)
