use Rattle.std.proofs.Common.{◌∷◌, [], ap, sym, ◌∙◌}
use Rattle.starlark_tree.specs.Children.{stmts_of_stmt}
use Rattle.starlark_tree.specs.Views.{statement_of}
use Rattle.starlark_tree.proofs.WalkConversions.{walk_at}
use Rattle.starlark_uniplate.proofs.uniplate.block.walk_stmts.Goals as goal

pub returns-in-Statements : goal.returns-in-Statements
returns-in-Statements g c = walk_at (ap stmts_of_stmt (sym c.in-Statements.is)) c.walk_block.ensures

pub returns-in-If : goal.returns-in-If
returns-in-If g c = walk_at (ap (λ b. statement_of b ∷ []) c.deref.ensures ∙ ap stmts_of_stmt (sym c.in-If.is)) c.walk_stmt.ensures

pub returns-in-IfElse : goal.returns-in-IfElse
returns-in-IfElse g c =
    walk_at (ap (λ p. statement_of p.0 ∷ statement_of c.deref-in-IfElse-2.result.now.1 ∷ []) c.deref-in-IfElse.ensures
    ∙ ap (λ p. statement_of c.in-IfElse.parts.value.0 ∷ statement_of p.1 ∷ []) c.deref-in-IfElse-2.ensures
    ∙ ap stmts_of_stmt (sym c.in-IfElse.is)) c.walk_two_stmts.ensures

pub returns-in-For : goal.returns-in-For
returns-in-For g c = walk_at (ap (λ b. statement_of b ∷ []) c.deref-in-For.ensures ∙ ap stmts_of_stmt (sym c.in-For.is)) c.walk_stmt-in-For.ensures

pub returns-in-Def : goal.returns-in-Def
returns-in-Def g c = walk_at (ap (λ b. statement_of b ∷ []) c.deref-in-Def.ensures ∙ ap stmts_of_stmt (sym c.in-Def.is)) c.walk_stmt-in-Def.ensures
