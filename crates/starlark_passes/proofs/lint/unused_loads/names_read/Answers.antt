use Rattle.std.proofs.Common.{[], rules, map, fold, string_bytes, ap, ◌∙◌}
use Rattle.std.specs.Str.{bytes_eq}
use Rattle.indexmap.specs.IndexSet.{insert_key}
use Rattle.starlark_uniplate.specs.Idents.{idents_in_stmt}
use Rattle.starlark_passes.proofs.LintLemmas.Texts.{all_inserted}
use Rattle.starlark_passes.proofs.LintLemmas.Walked.{folded, may_always}
use Rattle.starlark_passes.proofs.lint.unused_loads.names_read.Goals as goal

pub visit_ident-requires : goal.visit_ident-requires
visit_ident-requires c = search (rules, may_always)

pub returns : goal.returns
returns c =
    let both = folded (rw c.in_ok-visit_ident.was at c.visit_ident.ensures) (λ f. map string_bytes f.1.now.keys) (λ f. f.1.ghost_name)
    (λ ks w. insert_key bytes_eq ks w.0.text)
    (λ f x h p. (p.called.met.1 ∙ ap (λ w. insert_key bytes_eq (map string_bytes f.1.now.keys) w.0.text) p.shows, p.called.met.0.1)) in
    let whole = both.0 ∙ ap (λ ks. fold (λ ks w. insert_key bytes_eq ks w.0.text) (map string_bytes ks) (idents_in_stmt c.args.top.now.node))
    c.new-names.ensures.empty
    ∙ all_inserted (λ w. w.0.text) [] (idents_in_stmt c.args.top.now.node) in
    let same = both.1 in
    search (rules, whole, same)
