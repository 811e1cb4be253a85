use Rattle.std.proofs.Common.{◌∷◌, [], ◌++◌, ap, sym, ◌∙◌}
use Rattle.starlark_tree.specs.Children.{exprs_of_stmt}
use Rattle.starlark_tree.specs.Places.{exprs_in_target}
use Rattle.starlark_tree.specs.Views.{expression_of}
use Rattle.starlark_tree.proofs.Statements.{assign_exprs, for_own, modify_exprs}
use Rattle.starlark_tree.proofs.WalkConversions.{walk_at}
use Rattle.starlark_uniplate.proofs.uniplate.statement.walk_exprs.Goals as goal

pub returns-in-Return : goal.returns-in-Return
returns-in-Return g c = walk_at (ap exprs_of_stmt (sym c.in-Return.is)) c.walk_optional.ensures

pub returns-in-Expression : goal.returns-in-Expression
returns-in-Expression g c = walk_at (ap exprs_of_stmt (sym c.in-Expression.is)) c.walk_one.ensures

pub returns-in-Assign : goal.returns-in-Assign
returns-in-Assign g c = walk_at (sym (ap exprs_of_stmt c.in-Assign.is ∙ assign_exprs c.in-Assign.assign)) c.walk_assign.ensures

pub returns-in-AssignModify : goal.returns-in-AssignModify
returns-in-AssignModify g c =
    walk_at (ap (λ v. exprs_in_target c.in-AssignModify.target.node ++ expression_of v ∷ []) c.deref.ensures
    ∙ sym (ap exprs_of_stmt c.in-AssignModify.is ∙ modify_exprs c.in-AssignModify.target c.in-AssignModify.field-1 c.in-AssignModify.value))
    c.walk_binding.ensures

pub returns-in-If : goal.returns-in-If
returns-in-If g c = walk_at (ap exprs_of_stmt (sym c.in-If.is)) c.walk_one-in-If.ensures

pub returns-in-IfElse : goal.returns-in-IfElse
returns-in-IfElse g c = walk_at (ap exprs_of_stmt (sym c.in-IfElse.is)) c.walk_one-in-IfElse.ensures

pub returns-in-For : goal.returns-in-For
returns-in-For g c = walk_at (sym (ap exprs_of_stmt c.in-For.is ∙ for_own c.in-For.repeated)) c.walk_binding-in-For.ensures

pub returns-in-Def : goal.returns-in-Def
returns-in-Def g c = walk_at (ap exprs_of_stmt (sym c.in-Def.is)) c.walk_def.ensures
