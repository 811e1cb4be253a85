use Rattle.std.proofs.Common.{ap, sym, ◌∙◌}
use Rattle.std.specs.List.{flat_map}
use Rattle.starlark_tree.specs.Places.{clause_exprs}
use Rattle.starlark_tree.specs.Views.{clause_seen}
use Rattle.starlark_tree.proofs.Nodes.{clauses_of_row}
use Rattle.starlark_uniplate.proofs.uniplate.listed.more_clauses.Goals as goal

pub returns : goal.returns
returns g c = clauses_of_row c.args.others.now ∙ sym (ap (flat_map (λ k. clause_exprs (clause_seen k))) c.deref.ensures.value)
