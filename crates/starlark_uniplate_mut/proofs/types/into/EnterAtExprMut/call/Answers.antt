use Rattle.std.proofs.Common.{refl}
use Rattle.starlark_uniplate_mut.proofs.types.into.EnterAtExprMut.call.Goals as goal

pub returns : goal.returns
returns g c = record {
  function = _;
  shown = _;
  shows = refl;
  old = _;
  begins = refl;
  mark = _;
  left = _;
  new = _;
  returned = c.function.ensures;
  leaves = refl;
  ends = refl;
}
