-- How many statements a statement is, including those in it. What was cut off weighs no more than what it was cut from.
use Rattle.std.specs.Prelude.{ℕ, ◌+◌, suc}
use Rattle.starlark_lexer.specs.declared.span.Spanned.{Spanned}
use Rattle.starlark_tree.specs.Ast as t
use Rattle.starlark_tree.specs.Views.{form_seen}
use Rattle.starlark_tree.specs.declared.ast.StmtP.{StmtP}

module _ {P : t.Payloads} where
  abbrev mutual
    -- the statements in a statement
    pub form_weight : t.Form P → ℕ
    form_weight t.Break = 0
    form_weight t.Continue = 0
    form_weight t.Pass = 0
    form_weight (t.Return e) = 0
    form_weight (t.Evaluate e) = 0
    form_weight (t.Assign x ty e) = 0
    form_weight (t.AssignModify x op e) = 0
    form_weight (t.Block ss) = all_weight ss
    form_weight (t.IfThen e s) = whole_weight s
    form_weight (t.IfElse e s other) = whole_weight s + whole_weight other
    form_weight (t.For x e s) = whole_weight s
    form_weight (t.Def w p ps ty s q) = whole_weight s
    form_weight (t.Load path names p) = 0

    pub whole_weight : t.Statement P → ℕ
    whole_weight (t.statement s form) = suc (form_weight form)

    pub all_weight : t.Statements P → ℕ
    all_weight t.no_statements = 0
    all_weight (t.statements s ss) = whole_weight s + all_weight ss

-- the same for trees in memory
module _ {P A B C D E : Type 0} where
  abbrev pub parts_weight : StmtP P A B C D E → ℕ
  parts_weight s = form_weight (form_seen s)

  abbrev pub weight : StmtP P A B C D E → ℕ
  weight s = suc (parts_weight s)

  abbrev pub statement_weight : Spanned (StmtP P A B C D E) → ℕ
  statement_weight s = weight s.node
