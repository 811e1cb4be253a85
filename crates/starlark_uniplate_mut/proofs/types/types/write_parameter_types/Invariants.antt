use Rattle.std.proofs.Common.{◌<◌, length, get_or}
use Rattle.starlark_tree.specs.Views.{parameter_of}
use Rattle.starlark_tree.specs.Walks.{MayWriteBy}
use Rattle.starlark_uniplate.specs.Types.{types_in_parameter}
use Rattle.starlark_uniplate_mut.specs.Types.Types.{type_calls, untyped_parameter}
use Rattle.starlark_uniplate_mut.proofs.WriteLoops.{WrittenTo}
use Rattle.starlark_uniplate_mut.proofs.types.types.write_parameter_types.Given as goal

-- the types of the next parameter may be visited, so that search finds what their visit requires
abbrev pub invariant-loop-parameter : goal.invariant-loop-parameter
invariant-loop-parameter g l = record {
  to : WrittenTo (λ p. types_in_parameter p.node) (λ p. untyped_parameter (parameter_of p)) (type_calls g.F.FnMut) l.parameter-index l.fn.f
      l.fn.parameters l.parameters l.f;
  next : (d : _) → l.parameter-index < length l.fn.parameters → MayWriteBy (type_calls g.F.FnMut) l.f
      (types_in_parameter (get_or l.parameters l.parameter-index d).node);
}
