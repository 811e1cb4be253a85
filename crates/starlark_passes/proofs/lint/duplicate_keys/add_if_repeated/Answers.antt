use Rattle.std.proofs.Common.{[], ◌∷◌, ◌++◌, map, option_map, option_to_list, ap, sym, ◌∙◌, append_assoc}
use Rattle.std.proofs.lemmas.List.{map-append}
use Rattle.starlark_lexer.specs.Tokens.{span_of}
use Rattle.starlark_tree.specs.Views.{word_at}
use Rattle.starlark_passes.specs.Lint.Found.{text_of}
use Rattle.starlark_passes.specs.Lint.LintIssues.{repeats}
use Rattle.starlark_passes.proofs.LintLemmas.Repeats.{again, first_of_its_text, is_first, is_old}
use Rattle.starlark_passes.proofs.lint.duplicate_keys.add_if_repeated.Goals as goal

pub returns-in_ok-push : goal.returns-in_ok-push
returns-in_ok-push c later =
    let at = span_of c.args.key.now.span in
    let found = map span_of c.args.found.now.items in
    let after = map text_of c.see.new.seen.keys in
    ap (λ l. map span_of l ++ repeats after later) c.in_ok-push.ensures.items
    ∙ ap (λ l. l ++ repeats after later) (map-append span_of c.args.found.now.items (_ ∷ []))
    ∙ append_assoc found (at ∷ []) (repeats after later)
    ∙ ap (λ l. found ++ l) (again (map text_of c.args.seen.now.keys) after (word_at c.in-Some.text.now at) later c.in_ok-is_new.ensures.seen
    (is_old _ _ c.in_ok-is_new.ensures.is_new c.if-not-is_new.true))
    ∙ sym (ap (λ ks. found ++ repeats (map text_of c.args.seen.now.keys) (ks ++ later)) (c.string_text.ensures
    ∙ ap (λ o. option_to_list (option_map (λ text. word_at text.now at) o)) c.in-Some.is))

pub returns-else-not-is_new : goal.returns-else-not-is_new
returns-else-not-is_new c later =
    let at = span_of c.args.key.now.span in
    let found = map span_of c.args.found.now.items in
    ap (λ l. found ++ l) (first_of_its_text (map text_of c.args.seen.now.keys) (map text_of c.see.new.seen.keys) (word_at c.in-Some.text.now at) later
    c.in_ok-is_new.ensures.seen (is_first _ _ c.in_ok-is_new.ensures.is_new c.if-not-is_new.false))
    ∙ sym (ap (λ ks. found ++ repeats (map text_of c.args.seen.now.keys) (ks ++ later)) (c.string_text.ensures
    ∙ ap (λ o. option_to_list (option_map (λ text. word_at text.now at) o)) c.in-Some.is))
