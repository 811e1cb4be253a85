use Rattle.std.proofs.Common.{rules, ◌++◌, map, ap, ◌∙◌}
use Rattle.std.specs.List.{flat_map}
use Rattle.starlark_lexer.specs.Tokens.{span_of}
use Rattle.starlark_tree.specs.Inside.{inside}
use Rattle.starlark_passes.specs.Lint.LintIssues.{repeated_keys}
use Rattle.starlark_passes.proofs.LintLemmas.Forms.{repeated_inside}
use Rattle.starlark_passes.proofs.LintLemmas.Walked.{collected, may_always}
use Rattle.starlark_passes.proofs.lint.duplicate_keys.duplicate_keys.Goals as goal

pub visit_expr_result-requires : goal.visit_expr_result-requires
visit_expr_result-requires c = search (rules, may_always)

pub returns : goal.returns
returns c =
    let both = collected (rw c.in_ok-visit_expr_result.was at c.visit_expr_result.ensures) (λ f. map span_of f.1.now.items) (λ f. f.1.ghost_name)
    (λ e. flat_map repeated_keys (inside e))
    (λ f x h p. (p.called.met.1 ∙ ap (λ e. map span_of f.1.now.items ++ flat_map repeated_keys (inside e)) p.shows, p.called.met.0.1)) in
    search (rules, both, repeated_inside)
