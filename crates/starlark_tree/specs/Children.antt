-- The children of a statement, in the order of a walk.
use Rattle.std.specs.Prelude.{List as Seq, [], ◌∷◌, ◌++◌, map, option_to_list}
use Rattle.starlark_tree.specs.declared.ast.DefP.{DefP}
use Rattle.starlark_tree.specs.declared.ast.StmtP as held
use Rattle.starlark_tree.specs.declared.ast.StmtP.{StmtP}
use Rattle.starlark_tree.specs.Places.{target_exprs, type_exprs, parameters_exprs}
use Rattle.starlark_tree.specs.Views.{payloads, form_seen}
use Rattle.starlark_tree.specs.Ast as t
use Rattle.starlark_tree.specs.Ast.{Payloads, statement_list}

-- a child of a statement
pub data Child (P : Payloads) : Type 0 where
  stmt : t.Statement P → Child P
  expr : t.Expression P → Child P

module _ {P : Payloads} where
  -- the expressions of a statement, without those of the statements in it
  abbrev pub own_exprs : t.Form P → Seq (t.Expression P)
  own_exprs t.Break = []
  own_exprs t.Continue = []
  own_exprs t.Pass = []
  own_exprs (t.Return e) = option_to_list e
  own_exprs (t.Evaluate e) = e ∷ []
  own_exprs (t.Assign x ty e) = target_exprs x ++ (type_exprs ty ++ e ∷ [])
  own_exprs (t.AssignModify x op e) = target_exprs x ++ e ∷ []
  own_exprs (t.Block ss) = []
  own_exprs (t.IfThen e s) = e ∷ []
  own_exprs (t.IfElse e s other) = e ∷ []
  own_exprs (t.For x e s) = target_exprs x ++ e ∷ []
  own_exprs (t.Def w p ps ty s q) = parameters_exprs ps ++ type_exprs ty
  own_exprs (t.Load path names p) = []

  -- the statements in a statement, without those in them
  abbrev pub own_stmts : t.Form P → Seq (t.Statement P)
  own_stmts t.Break = []
  own_stmts t.Continue = []
  own_stmts t.Pass = []
  own_stmts (t.Return e) = []
  own_stmts (t.Evaluate e) = []
  own_stmts (t.Assign x ty e) = []
  own_stmts (t.AssignModify x op e) = []
  own_stmts (t.Block ss) = statement_list ss
  own_stmts (t.IfThen e s) = s ∷ []
  own_stmts (t.IfElse e s other) = s ∷ other ∷ []
  own_stmts (t.For x e s) = s ∷ []
  own_stmts (t.Def w p ps ty s q) = s ∷ []
  own_stmts (t.Load path names p) = []

  -- the children of a statement: its expressions come before its statements
  abbrev pub stmt_children : t.Form P → Seq (Child P)
  stmt_children form = map expr (own_exprs form) ++ map stmt (own_stmts form)

-- the expressions of a statement, those of the statements in it included
abbrev mutual
  pub stmt_exprs : {P : Payloads} → t.Statement P → Seq (t.Expression P)
  stmt_exprs (t.statement s form) = form_exprs form

  pub form_exprs : {P : Payloads} → t.Form P → Seq (t.Expression P)
  form_exprs t.Break = []
  form_exprs t.Continue = []
  form_exprs t.Pass = []
  form_exprs (t.Return e) = option_to_list e
  form_exprs (t.Evaluate e) = e ∷ []
  form_exprs (t.Assign x ty e) = target_exprs x ++ (type_exprs ty ++ e ∷ [])
  form_exprs (t.AssignModify x op e) = target_exprs x ++ e ∷ []
  form_exprs (t.Block ss) = stmts_exprs ss
  form_exprs (t.IfThen e s) = e ∷ stmt_exprs s
  form_exprs (t.IfElse e s other) = e ∷ (stmt_exprs s ++ stmt_exprs other)
  form_exprs (t.For x e s) = (target_exprs x ++ e ∷ []) ++ stmt_exprs s
  form_exprs (t.Def w p ps ty s q) = (parameters_exprs ps ++ type_exprs ty) ++ stmt_exprs s
  form_exprs (t.Load path names p) = []

  pub stmts_exprs : {P : Payloads} → t.Statements P → Seq (t.Expression P)
  stmts_exprs t.no_statements = []
  stmts_exprs (t.statements s ss) = stmt_exprs s ++ stmts_exprs ss

-- the same for trees in memory
module _ {P A B C D E : Type 0} where
  abbrev pub exprs_of_stmt : StmtP P A B C D E → Seq (t.Expression (payloads A B C D E))
  exprs_of_stmt s = own_exprs (form_seen s)

  abbrev pub stmts_of_stmt : StmtP P A B C D E → Seq (t.Statement (payloads A B C D E))
  stmts_of_stmt s = own_stmts (form_seen s)

  abbrev pub exprs_in_stmt : StmtP P A B C D E → Seq (t.Expression (payloads A B C D E))
  exprs_in_stmt s = form_exprs (form_seen s)

  abbrev pub children_of_stmt : StmtP P A B C D E → Seq (Child (payloads A B C D E))
  children_of_stmt s = stmt_children (form_seen s)

  abbrev pub children_of_def : DefP P A B C D E → Seq (Child (payloads A B C D E))
  children_of_def d = children_of_stmt (held.Def d)
