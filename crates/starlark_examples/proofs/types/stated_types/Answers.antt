use Rattle.std.proofs.Common.{rules, [], ◌∷◌, ◌++◌, map, ap, ◌∙◌}
use Rattle.starlark_syntax.proofs.tree.Callers.{collected}
use Rattle.starlark_examples.specs.Types.{stated, stated_of}
use Rattle.starlark_examples.proofs.Walked.{each_alone}
use Rattle.starlark_examples.proofs.types.stated_types.Goals as goal

pub returns : goal.returns
returns c =
    let both = collected (rw c.in_ok-visit_type_expr_err.was at c.visit_type_expr_err.ensures) (λ f. map stated_of f.1.now.items) (λ f. f.1.ghost_name)
    (λ ty. stated ty ∷ [])
    (λ f x h p. (p.called.met.1 ∙ ap (λ ty. map stated_of f.1.now.items ++ stated ty ∷ []) p.shows, p.called.met.0.1)) in
    search (rules, both, each_alone)
