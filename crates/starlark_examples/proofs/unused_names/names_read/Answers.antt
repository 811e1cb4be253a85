use Rattle.std.proofs.Common.{◌≡◌, cond, true, false, rules, string_bytes, ap, ◌∙◌}
use Rattle.std.specs.HashSet.{contains_text}
use Rattle.std.specs.List.{list_any}
use Rattle.std.specs.Str.{bytes_eq}
use Rattle.starlark_syntax.specs.lexer.Tokens.{Text}
use Rattle.starlark_syntax.specs.uniplate.Idents.{idents_in_stmt}
use Rattle.starlark_examples.proofs.Walked.{or_nothing, taken}
use Rattle.starlark_examples.proofs.unused_names.names_read.Goals as goal

pub returns : goal.returns
returns c =
    let both = taken _ (λ f. contains_text f.1.now) (λ f. f.1.ghost_name) (λ x. x.0.text)
    (λ f x h p. (λ name. p.called.met.1 name ∙ ap (λ w. cond (bytes_eq w.0.text name) true (contains_text f.1.now name)) p.shows, p.called.met.0.1))
    (rw c.in_ok-visit_ident.was at c.visit_ident.ensures) in
    λ name.
    let whole = both.0 name in
    let alone = or_nothing (list_any (λ x. bytes_eq x.0.text name) (idents_in_stmt c.args.statement.now.node)) in
    let same = both.1 in
    search (rules, whole, alone, same)
