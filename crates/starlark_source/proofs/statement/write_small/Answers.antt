use Rattle.starlark_source.proofs.PageLemmas.{wrote_as}
use Rattle.starlark_source.proofs.StatementLemmas.{assign_small, break_small, continue_small, expression_small, load_small, modify_small, none_small}
use Rattle.starlark_source.proofs.StatementLemmas.{pass_small, return_small}
use Rattle.starlark_source.proofs.statement.write_small.Goals as goal

pub returns-in-Break : goal.returns-in-Break
returns-in-Break c =
    wrote_as _ _ _ _ c.put.ensures (break_small c.args.statement.now.span c.args.statement.now.node c.in-Break.is)

pub returns-in-Continue : goal.returns-in-Continue
returns-in-Continue c =
    wrote_as _ _ _ _ c.put-in-Continue.ensures (continue_small c.args.statement.now.span c.args.statement.now.node c.in-Continue.is)

pub returns-in-Pass : goal.returns-in-Pass
returns-in-Pass c =
    wrote_as _ _ _ _ c.put-in-Pass.ensures (pass_small c.args.statement.now.span c.args.statement.now.node c.in-Pass.is)

pub returns-in-Return : goal.returns-in-Return
returns-in-Return c =
    wrote_as _ _ _ _ c.write_return.ensures (return_small c.args.statement.now.span c.args.statement.now.node c.in-Return.value c.in-Return.is)

pub returns-in-Expression : goal.returns-in-Expression
returns-in-Expression c =
    wrote_as _ _ _ _ c.write_expr.ensures (expression_small c.args.statement.now.span c.args.statement.now.node c.in-Expression.value c.in-Expression.is)

pub returns-in-Assign : goal.returns-in-Assign
returns-in-Assign c =
    wrote_as _ _ _ _ c.write_assign.ensures (assign_small c.args.statement.now.span c.args.statement.now.node c.in-Assign.assign c.in-Assign.is)

pub returns-in-AssignModify : goal.returns-in-AssignModify
returns-in-AssignModify c =
    wrote_as _ _ _ _ c.write_assign_modify.ensures (modify_small c.args.statement.now.span c.args.statement.now.node c.in-AssignModify.target
    c.in-AssignModify.operator c.in-AssignModify.value c.in-AssignModify.is)

pub returns-in-Load : goal.returns-in-Load
returns-in-Load c =
    wrote_as _ _ _ _ c.write_load.ensures (load_small c.args.statement.now.span c.args.statement.now.node c.in-Load.load c.in-Load.is)

pub returns-in_default : goal.returns-in_default
returns-in_default c =
    wrote_as _ _ _ _ c.refuse.ensures (none_small c.args.statement.now.span c.args.statement.now.node c.in_default.not-Break c.in_default.not-Continue
    c.in_default.not-Pass c.in_default.not-Return c.in_default.not-Expression c.in_default.not-Assign c.in_default.not-AssignModify c.in_default.not-Load)
