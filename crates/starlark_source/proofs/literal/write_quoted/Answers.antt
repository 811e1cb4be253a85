use Rattle.std.proofs.Common.{codes, refl}
use Rattle.std.specs.List.{flat_map}
use Rattle.starlark_source.specs.Pieces.{escaped}
use Rattle.starlark_source.proofs.PageLemmas.{wrote_three_texts}
use Rattle.starlark_source.proofs.literal.write_quoted.Goals as goal

pub returns : goal.returns
returns c = wrote_three_texts _ _ _ _ (codes "\"") (flat_map escaped c.args.text.now) (codes "\"") _ c.put.ensures c.write_escaped.ensures c.put-2.ensures refl
