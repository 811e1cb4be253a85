use Rattle.std.proofs.Common.{refl, sym, ap}
use Rattle.starlark_tree.specs.Views.{maybe_type_of}
use Rattle.starlark_tree.proofs.WalkConversions.{may_at}
use Rattle.starlark_uniplate.specs.Types.{types_of}
use Rattle.starlark_uniplate_mut.proofs.Writing.{write_at, write_one}
use Rattle.starlark_uniplate_mut.proofs.types.stmt_types.write_assigned_type.Goals as goal

pub f-requires : goal.f-requires
f-requires g c = (may_at (ap (λ o. types_of (maybe_type_of o)) c.in-Some.is) c.requires).each.0 _ refl

pub returns-in-Some : goal.returns-in-Some
returns-in-Some g c =
    write_at (sym (ap (λ o. types_of (maybe_type_of o)) c.in-Some.is)) refl
    (write_one (record { shown = _; shows = refl; left = _; called = c.f.ensures; leaves = refl }))
