use Rattle.std.proofs.Common.{ap, sym}
use Rattle.starlark_tree.proofs.WalkConversions.{walk_at}
use Rattle.starlark_uniplate.specs.Types.{form_types_of}
use Rattle.starlark_uniplate.proofs.uniplate.types.walk_form_types.Goals as goal

pub returns-in-Assign : goal.returns-in-Assign
returns-in-Assign g c = walk_at (ap form_types_of (sym c.in-Assign.is)) c.walk_assigned_type.ensures

pub returns-in-Def : goal.returns-in-Def
returns-in-Def g c = walk_at (ap form_types_of (sym c.in-Def.is)) c.walk_def_types.ensures
