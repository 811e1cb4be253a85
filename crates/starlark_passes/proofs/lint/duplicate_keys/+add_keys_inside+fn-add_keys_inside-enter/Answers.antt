use Rattle.std.proofs.Common.{rules, arith, ◌++◌, map, ap, sym, refl, ◌∙◌, append_assoc}
use Rattle.std.specs.List.{flat_map}
use Rattle.std.proofs.lemmas.Result.{on_ok_weaker}
use Rattle.starlark_tree.specs.Inside.{inside}
use Rattle.starlark_tree.specs.Places.{children}
use Rattle.starlark_tree.specs.Views.{expression_of}
use Rattle.starlark_lexer.specs.Tokens.{span_of}
use Rattle.starlark_passes.specs.Lint.LintIssues.{repeated_keys}
use Rattle.starlark_passes.proofs.LintLemmas.Forms.{repeated_parted}
use Rattle.starlark_passes.proofs.LintLemmas.Walked.{children_fall, gathered, may_below}
use Rattle.starlark_passes.proofs.lint.duplicate_keys.+add_keys_inside+fn-add_keys_inside-enter.Goals as goal

pub visit_expr_err-requires : goal.visit_expr_err-requires
visit_expr_err-requires t c =
    may_below _ inside _ (λ f x small. λ a is. let less = rw (← is) at small in (omega (arith, less, c.decreases), tt)) _ (children c.args.expr.now.node)
    (children_fall c.args.expr.now _ refl)

pub returns : goal.returns
returns t c =
    let old = map span_of c.args.found.now.items in
    let below = flat_map (λ x. flat_map repeated_keys (inside x)) (children c.args.expr.now.node) in
    on_ok_weaker c.visit_expr_err.result
    (λ both.
    let whole = both.0 ∙ ap (λ l. l ++ below) c.in_ok-add_own_keys.ensures ∙ append_assoc old (repeated_keys (expression_of c.args.expr.now)) below
    ∙ sym (ap (λ l. old ++ l) (repeated_parted c.args.expr.now)) in
    let same = both.1 in
    search (rules, whole, same))
    (gathered (λ f. map span_of f.1.now.items) (λ f. f.1.ghost_name) (λ e. flat_map repeated_keys (inside e))
    (λ f x h p. (p.called.met.1 ∙ ap (λ e. map span_of f.1.now.items ++ flat_map repeated_keys (inside e)) p.shows, p.called.met.0.1)) c.visit_expr_err.ensures)
