use Rattle.std.proofs.Common.{rules, ◌++◌, map, ap, ◌∙◌}
use Rattle.starlark_syntax.specs.lexer.Tokens.{span_of}
use Rattle.starlark_examples.specs.Rename.{span_if}
use Rattle.starlark_examples.proofs.Walked.{all_added}
use Rattle.starlark_examples.proofs.rename.reads.Goals as goal

pub returns : goal.returns
returns c =
    let both = all_added _ (λ f. map span_of f.0.now.items) (λ f. f.0.ghost_name) (λ f. f.1) (λ r x. span_if r.now x.0)
    (λ f x h p. (p.called.met.1 ∙ ap (λ w. map span_of f.0.now.items ++ span_if f.1.now w.0) p.shows, (p.called.met.0.0, p.called.met.0.1)))
    (rw c.in_ok-visit_ident.was at c.visit_ident.ensures) in
    let whole = both.0 in
    let same = both.1.0 in
    search (rules, whole, same)
