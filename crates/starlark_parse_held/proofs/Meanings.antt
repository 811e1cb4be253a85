-- The meaning of an expression or a statement that is put in memory of its own, if it was allocated.
use Rattle.std.proofs.Common.{◌≡◌, Result, IfOk, ap, ◌∙◌}
use Rattle.std.proofs.lemmas.Result.{IfOk-weaker}
use Rattle.std.specs.Bool.{⊤}
use Rattle.starlark_parse_held.specs.Held as held
use Rattle.starlark_parse_held.specs.declared.expression.HeldExpr.{HeldExpr}
use Rattle.starlark_parse_held.specs.declared.statement.HeldStmt.{HeldStmt}
use Rattle.starlark_lexer.specs.declared.span.Spanned.{Spanned}
use Rattle.starlark_tree.specs.Ast.{Expression, Statement, no_payload}
use Rattle.starlark_tree.specs.Views.{expression_of, statement_of}
use Rattle.starlark_tree.specs.declared.ast.ExprP.{ExprP}
use Rattle.starlark_tree.specs.declared.ast.StmtP.{StmtP}
use Rattle.starlark_tree.specs.declared.ast.payload.AstNoPayload.{AstNoPayload}

abbrev CodeExpression : Type 0
CodeExpression = Spanned (ExprP AstNoPayload ⊤ ⊤ ⊤ ⊤ ⊤)

abbrev CodeStatement : Type 0
CodeStatement = Spanned (StmtP AstNoPayload ⊤ ⊤ ⊤ ⊤ ⊤)

module _ {E : Type 0} where
  pub expression_held : (r : Result HeldExpr E) (x : CodeExpression) (e : Expression no_payload) → expression_of x ≡ e → IfOk r (λ h. h.tree.value ≡ x)
      → IfOk r (λ h. held.expression_of h ≡ e)
  expression_held r x e g = IfOk-weaker r (λ h. h.tree.value ≡ x) (λ h. held.expression_of h ≡ e) (λ h is. ap expression_of is ∙ g)

  pub statement_held : (r : Result HeldStmt E) (x : CodeStatement) (s : Statement no_payload) → statement_of x ≡ s → IfOk r (λ h. h.tree.value ≡ x)
      → IfOk r (λ h. held.statement_of h ≡ s)
  statement_held r x s g = IfOk-weaker r (λ h. h.tree.value ≡ x) (λ h. held.statement_of h ≡ s) (λ h is. ap statement_of is ∙ g)

  -- a statement that is held means what another means
  pub same_statement : (r : Result HeldStmt E) (s z : Statement no_payload) → s ≡ z → IfOk r (λ h. held.statement_of h ≡ s)
      → IfOk r (λ h. held.statement_of h ≡ z)
  same_statement r s z g = IfOk-weaker r (λ h. held.statement_of h ≡ s) (λ h. held.statement_of h ≡ z) (λ h is. is ∙ g)

  -- an expression that is held means what another means
  pub same_expression : (r : Result HeldExpr E) (e z : Expression no_payload) → e ≡ z → IfOk r (λ h. held.expression_of h ≡ e)
      → IfOk r (λ h. held.expression_of h ≡ z)
  same_expression r e z g = IfOk-weaker r (λ h. held.expression_of h ≡ e) (λ h. held.expression_of h ≡ z) (λ h is. is ∙ g)
