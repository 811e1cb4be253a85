use Rattle.std.proofs.Common.{[], ◌∷◌, refl, ap}
use Rattle.std.specs.List.{flat_map}
use Rattle.starlark_tree.specs.Views.{expression_of}
use Rattle.starlark_uniplate_mut.proofs.Writing.{write_at}
use Rattle.starlark_uniplate_mut.proofs.Written.{dict_written}
use Rattle.starlark_uniplate_mut.proofs.uniplate_mut.node.write_dict.Goals as goal

pub returns : goal.returns
returns g c =
    dict_written c.args.pairs.now c.write_pairs.new.pairs (write_at (ap (flat_map (λ p. expression_of p.0 ∷ expression_of p.1 ∷ [])) c.deref_mut.ensures.value)
    refl c.write_pairs.ensures)
