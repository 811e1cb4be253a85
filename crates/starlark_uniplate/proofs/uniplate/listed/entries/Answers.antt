use Rattle.std.proofs.Common.{◌∷◌, [], ap, sym, ◌∙◌}
use Rattle.std.specs.List.{flat_map}
use Rattle.starlark_tree.specs.Views.{expression_of}
use Rattle.starlark_tree.proofs.Nodes.{dict_children}
use Rattle.starlark_uniplate.proofs.uniplate.listed.entries.Goals as goal

pub returns : goal.returns
returns g c = dict_children c.args.pairs.now ∙ sym (ap (flat_map (λ p. expression_of p.0 ∷ expression_of p.1 ∷ [])) c.deref.ensures.value)
