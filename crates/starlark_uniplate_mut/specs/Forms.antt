-- A statement and the statements in it, each before those inside it and with gaps for these.
use Rattle.std.specs.Prelude.{List as Seq, [], ◌∷◌, ◌++◌}
use Rattle.starlark_tree.specs.Ast as t
use Rattle.starlark_tree.specs.Views.{form_seen, payloads}
use Rattle.starlark_tree.specs.declared.ast.StmtP.{StmtP}
use Rattle.starlark_uniplate_mut.specs.FormFrames.{gaps, stmt_gap, stmts_frame}

abbrev mutual
  pub statement_forms : {P : t.Payloads} → t.Statement P → Seq (t.Form P)
  statement_forms (t.statement s form) = forms form

  pub forms : {P : t.Payloads} → t.Form P → Seq (t.Form P)
  forms (t.Block ss) = t.Block (gaps ss) ∷ all_forms ss
  forms (t.IfThen e s) = t.IfThen e stmt_gap ∷ statement_forms s
  forms (t.IfElse e s other) = t.IfElse e stmt_gap stmt_gap ∷ (statement_forms s ++ statement_forms other)
  forms (t.For x e s) = t.For x e stmt_gap ∷ statement_forms s
  forms (t.Def w p ps ty s q) = t.Def w p ps ty stmt_gap q ∷ statement_forms s
  forms other = other ∷ []

  pub all_forms : {P : t.Payloads} → t.Statements P → Seq (t.Form P)
  all_forms t.no_statements = []
  all_forms (t.statements s ss) = statement_forms s ++ all_forms ss

-- the statements in a statement, and where they are
abbrev mutual
  pub nesting : {P : t.Payloads} → t.Statement P → t.Statement P
  nesting (t.statement s form) = t.statement s (form_nesting form)

  pub form_nesting : {P : t.Payloads} → t.Form P → t.Form P
  form_nesting (t.Block ss) = t.Block (all_nesting ss)
  form_nesting (t.IfThen e s) = t.Block (t.statements (nesting s) t.no_statements)
  form_nesting (t.IfElse e s other) = t.Block (t.statements (nesting s) (t.statements (nesting other) t.no_statements))
  form_nesting (t.For x e s) = t.Block (t.statements (nesting s) t.no_statements)
  form_nesting (t.Def w p ps ty s q) = t.Block (t.statements (nesting s) t.no_statements)
  form_nesting other = t.Block t.no_statements

  pub all_nesting : {P : t.Payloads} → t.Statements P → t.Statements P
  all_nesting t.no_statements = t.no_statements
  all_nesting (t.statements s ss) = t.statements (nesting s) (all_nesting ss)

module _ {P : t.Payloads} where
  -- those of the statements in a statement
  abbrev pub later_forms : t.Form P → Seq (t.Form P)
  later_forms (t.Block ss) = all_forms ss
  later_forms (t.IfThen e s) = statement_forms s
  later_forms (t.IfElse e s other) = statement_forms s ++ statement_forms other
  later_forms (t.For x e s) = statement_forms s
  later_forms (t.Def w p ps ty s q) = statement_forms s
  later_forms other = []

  -- the statement itself, and the statements in it
  abbrev pub own_and_nesting : t.Form P → t.Form P × t.Form P
  own_and_nesting form = (stmts_frame form, form_nesting form)

-- the same for trees in memory
module _ {P A B C D E : Type 0} where
  abbrev pub forms_of : StmtP P A B C D E → Seq (t.Form (payloads A B C D E))
  forms_of s = forms (form_seen s)

  abbrev pub later_forms_of : StmtP P A B C D E → Seq (t.Form (payloads A B C D E))
  later_forms_of s = later_forms (form_seen s)

  abbrev pub nesting_of : StmtP P A B C D E → t.Form (payloads A B C D E)
  nesting_of s = form_nesting (form_seen s)

  abbrev pub own_and_nesting_of : StmtP P A B C D E → t.Form (payloads A B C D E) × t.Form (payloads A B C D E)
  own_and_nesting_of s = own_and_nesting (form_seen s)
