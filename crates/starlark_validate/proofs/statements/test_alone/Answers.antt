use Rattle.std.proofs.Common.{map}
use Rattle.starlark_tree.specs.Views.{parameter_of}
use Rattle.starlark_validate.proofs.NodeParts.{list_of_parameters}
use Rattle.starlark_validate.proofs.statements.test_alone.Goals as goal

pub returns-in-Break : goal.returns-in-Break
returns-in-Break c = rw c.in-Break.is c.refuse_misplaced.ensures

pub returns-in-Continue : goal.returns-in-Continue
returns-in-Continue c = rw c.in-Continue.is c.refuse_misplaced-in-Continue.ensures

pub returns-in-Return : goal.returns-in-Return
returns-in-Return c = rw c.in-Return.is c.refuse_misplaced-in-Return.ensures

pub returns-in-If : goal.returns-in-If
returns-in-If c = rw c.in-If.is c.refuse_at_top.ensures

pub returns-in-IfElse : goal.returns-in-IfElse
returns-in-IfElse c = rw c.in-IfElse.is c.refuse_at_top-in-IfElse.ensures

pub returns-in-For : goal.returns-in-For
returns-in-For c = rw c.in-For.is c.refuse_at_top-in-For.ensures

pub returns-in-Def : goal.returns-in-Def
returns-in-Def c = rw (c.in-Def.is, list_of_parameters (map parameter_of c.in-Def.def.params.items)) (rw c.deref.ensures.value at c.test_def.ensures)

pub returns-in-Load : goal.returns-in-Load
returns-in-Load c = rw c.in-Load.is c.test_load.ensures
