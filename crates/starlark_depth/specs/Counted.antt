-- What code counts.
use Rattle.starlark_depth.specs.Depths.{State}
use Rattle.starlark_depth.specs.Nested.{counted}
use Rattle.starlark_depth.specs.declared.depth.Depth.{Depth}

abbrev pub state_of : Depth → State
state_of d = counted d.nesting d.uncounted.items
