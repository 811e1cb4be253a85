use Rattle.std.proofs.Common.{map, ap, sym, ◌∙◌}
use Rattle.starlark_tree.specs.Views.{expression_of}
use Rattle.starlark_tree.proofs.Nodes.{tuple_children}
use Rattle.starlark_tree.proofs.WalkConversions.{walk_at}
use Rattle.starlark_uniplate.proofs.uniplate.node.walk_items.Goals as goal

pub returns : goal.returns
returns g c = walk_at (ap (map expression_of) c.deref.ensures.value ∙ sym (tuple_children c.args.items.now)) c.walk_each.ensures
