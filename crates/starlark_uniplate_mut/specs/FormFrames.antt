-- What a mutable walk leaves unchanged in a statement: the statement with gaps at its nodes.
use Rattle.std.specs.Prelude.{Option, Some, None}
use Rattle.starlark_lexer.specs.Tokens.{nowhere}
use Rattle.starlark_tree.specs.Ast as t
use Rattle.starlark_tree.specs.Ast.{Payloads}
use Rattle.starlark_uniplate_mut.specs.Frames.{gap, parameters_frame, target_frame, type_frame}
use Rattle.starlark_tree.specs.Views.{form_seen, payloads}
use Rattle.starlark_tree.specs.declared.ast.StmtP.{StmtP}

module _ {P : Payloads} where
  -- the gap in place of a statement
  abbrev pub stmt_gap : t.Statement P
  stmt_gap = t.statement nowhere t.Pass

  abbrev pub gaps : t.Statements P → t.Statements P
  gaps t.no_statements = t.no_statements
  gaps (t.statements s ss) = t.statements stmt_gap (gaps ss)

  abbrev pub value_frame : Option (t.Expression P) → Option (t.Expression P)
  value_frame None = None
  value_frame (Some e) = Some gap

  -- with gaps for its expressions, without those of the statements in it
  abbrev pub exprs_frame : t.Form P → t.Form P
  exprs_frame t.Break = t.Break
  exprs_frame t.Continue = t.Continue
  exprs_frame t.Pass = t.Pass
  exprs_frame (t.Return e) = t.Return (value_frame e)
  exprs_frame (t.Evaluate e) = t.Evaluate gap
  exprs_frame (t.Assign x ty e) = t.Assign (target_frame x) (type_frame ty) gap
  exprs_frame (t.AssignModify x op e) = t.AssignModify (target_frame x) op gap
  exprs_frame (t.Block ss) = t.Block ss
  exprs_frame (t.IfThen e s) = t.IfThen gap s
  exprs_frame (t.IfElse e s other) = t.IfElse gap s other
  exprs_frame (t.For x e s) = t.For (target_frame x) gap s
  exprs_frame (t.Def w p ps ty s q) = t.Def w p (parameters_frame ps) (type_frame ty) s q
  exprs_frame (t.Load path names p) = t.Load path names p

  -- with gaps for the statements directly in it
  abbrev pub stmts_frame : t.Form P → t.Form P
  stmts_frame t.Break = t.Break
  stmts_frame t.Continue = t.Continue
  stmts_frame t.Pass = t.Pass
  stmts_frame (t.Return e) = t.Return e
  stmts_frame (t.Evaluate e) = t.Evaluate e
  stmts_frame (t.Assign x ty e) = t.Assign x ty e
  stmts_frame (t.AssignModify x op e) = t.AssignModify x op e
  stmts_frame (t.Block ss) = t.Block (gaps ss)
  stmts_frame (t.IfThen e s) = t.IfThen e stmt_gap
  stmts_frame (t.IfElse e s other) = t.IfElse e stmt_gap stmt_gap
  stmts_frame (t.For x e s) = t.For x e stmt_gap
  stmts_frame (t.Def w p ps ty s q) = t.Def w p ps ty stmt_gap q
  stmts_frame (t.Load path names p) = t.Load path names p

  -- with gaps for both
  abbrev pub children_frame : t.Form P → t.Form P
  children_frame form = stmts_frame (exprs_frame form)

-- with gaps for all expressions, including those of the statements in it
abbrev mutual
  pub entered_frame : {P : Payloads} → t.Statement P → t.Statement P
  entered_frame (t.statement s form) = t.statement s (form_entered_frame form)

  pub form_entered_frame : {P : Payloads} → t.Form P → t.Form P
  form_entered_frame t.Break = t.Break
  form_entered_frame t.Continue = t.Continue
  form_entered_frame t.Pass = t.Pass
  form_entered_frame (t.Return e) = t.Return (value_frame e)
  form_entered_frame (t.Evaluate e) = t.Evaluate gap
  form_entered_frame (t.Assign x ty e) = t.Assign (target_frame x) (type_frame ty) gap
  form_entered_frame (t.AssignModify x op e) = t.AssignModify (target_frame x) op gap
  form_entered_frame (t.Block ss) = t.Block (statements_entered_frame ss)
  form_entered_frame (t.IfThen e s) = t.IfThen gap (entered_frame s)
  form_entered_frame (t.IfElse e s other) = t.IfElse gap (entered_frame s) (entered_frame other)
  form_entered_frame (t.For x e s) = t.For (target_frame x) gap (entered_frame s)
  form_entered_frame (t.Def w p ps ty s q) = t.Def w p (parameters_frame ps) (type_frame ty) (entered_frame s) q
  form_entered_frame (t.Load path names p) = t.Load path names p

  pub statements_entered_frame : {P : Payloads} → t.Statements P → t.Statements P
  statements_entered_frame t.no_statements = t.no_statements
  statements_entered_frame (t.statements s ss) = t.statements (entered_frame s) (statements_entered_frame ss)

-- the same for trees in memory
module _ {P A B C D E : Type 0} where
  abbrev pub exprs_frame_of : StmtP P A B C D E → t.Form (payloads A B C D E)
  exprs_frame_of s = exprs_frame (form_seen s)

  abbrev pub stmts_frame_of : StmtP P A B C D E → t.Form (payloads A B C D E)
  stmts_frame_of s = stmts_frame (form_seen s)

  abbrev pub children_frame_of : StmtP P A B C D E → t.Form (payloads A B C D E)
  children_frame_of s = children_frame (form_seen s)

  abbrev pub entered_frame_of : StmtP P A B C D E → t.Form (payloads A B C D E)
  entered_frame_of s = form_entered_frame (form_seen s)
