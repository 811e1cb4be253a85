use Rattle.std.proofs.Common.{filter, map, not, rules, string_bytes, ap, ◌∙◌}
use Rattle.std.proofs.lemmas.Fn.{filter_same}
use Rattle.std.specs.HashSet.{contains_text}
use Rattle.starlark_syntax.specs.tree.Names.{name_of}
use Rattle.starlark_syntax.specs.tree.Places.{behind}
use Rattle.starlark_syntax.specs.tree.Views.{statement_of}
use Rattle.starlark_examples.specs.UnusedNames.{is_read}
use Rattle.starlark_examples.proofs.Walked.{seen_filtered}
use Rattle.starlark_examples.proofs.unused_names.unread_names.Goals as goal

pub returns : goal.returns
returns c =
    let read = c.in_ok-names_read.names_read in
    let kept = filter_same _ (λ x. not (contains_text read (string_bytes x.now.node.ident))) _ (λ x b f k. search rules) _ _ c.retain.ensures.filtered in
    ap (map (behind name_of)) kept
    ∙ seen_filtered (behind name_of) (λ x. not (contains_text read (string_bytes x.now.node.ident)))
    (λ name. not (is_read (statement_of c.args.top.now) name.0.text))
    (λ x. ap not (c.in_ok-names_read.ensures (string_bytes x.now.node.ident))) _
    ∙ ap (filter (λ name. not (is_read (statement_of c.args.top.now) name.0.text))) (search (rules, c.in_ok-add_bound.ensures))
