use Rattle.std.proofs.Common.{◌≡◌, false, map, take}
use Rattle.std.specs.List.{list_any}
use Rattle.starlark_tree.specs.Views.{parameter_of}
use Rattle.starlark_validate.specs.Clean.{misfits}
use Rattle.starlark_validate.proofs.clean.parameters.fits_all.Given as goal

abbrev pub invariant-loop-other : goal.invariant-loop-other
invariant-loop-other l = list_any (misfits l.name l.has_default) (map parameter_of (take l.other-index l.before)) ≡ false
