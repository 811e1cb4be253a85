use Rattle.std.proofs.Common.{map, ap, sym, ◌∙◌}
use Rattle.starlark_tree.specs.Parts.{argument_expression}
use Rattle.starlark_tree.specs.Views.{expression_of}
use Rattle.starlark_uniplate.proofs.Listed.{arguments_listed}
use Rattle.starlark_uniplate.proofs.uniplate.listed.passed.Goals as goal

pub returns : goal.returns
returns g c = arguments_listed c.args.args.now ∙ sym (ap (map (λ a. expression_of (argument_expression a.node))) c.deref.ensures.value)
