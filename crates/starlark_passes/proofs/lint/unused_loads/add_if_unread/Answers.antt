use Rattle.std.proofs.Common.{[], ◌∷◌, ◌++◌, map, string_bytes, ap, sym, ◌∙◌, append-nil}
use Rattle.std.specs.List.{list_any}
use Rattle.std.specs.Str.{bytes_eq}
use Rattle.std.proofs.lemmas.List.{map-append}
use Rattle.starlark_tree.specs.Views.{load_arg_of}
use Rattle.starlark_lexer.specs.Tokens.{span_of}
use Rattle.starlark_passes.proofs.LintLemmas.Texts.{any_text, told_read, told_unread}
use Rattle.starlark_passes.proofs.lint.unused_loads.add_if_unread.Goals as goal

pub returns-in_ok-push : goal.returns-in_ok-push
returns-in_ok-push c =
    let names = map string_bytes c.args.names.now.keys in
    let absent = sym (any_text string_bytes (bytes_eq (string_bytes c.args.symbol.now.local.node.ident)) c.args.names.now.keys)
    ∙ ap (λ t. list_any (λ k. bytes_eq t (string_bytes k)) c.args.names.now.keys) (sym c.as_str.ensures.value) ∙ sym c.contains.ensures
    ∙ c.if-not-contains.true in
    ap (map span_of) c.in_ok-push.ensures.items ∙ map-append span_of c.args.found.now.items (_ ∷ [])
    ∙ ap (λ s. map span_of c.args.found.now.items ++ s ∷ []) c.span.ensures
    ∙ sym (ap (λ l. map span_of c.args.found.now.items ++ l) (told_unread names (load_arg_of c.args.symbol.now) absent))

pub returns-else-not-contains : goal.returns-else-not-contains
returns-else-not-contains c =
    let names = map string_bytes c.args.names.now.keys in
    let present = sym (any_text string_bytes (bytes_eq (string_bytes c.args.symbol.now.local.node.ident)) c.args.names.now.keys)
    ∙ ap (λ t. list_any (λ k. bytes_eq t (string_bytes k)) c.args.names.now.keys) (sym c.as_str.ensures.value) ∙ sym c.contains.ensures
    ∙ c.if-not-contains.false in
    sym (ap (λ l. map span_of c.args.found.now.items ++ l) (told_read names (load_arg_of c.args.symbol.now) present)
    ∙ append-nil (map span_of c.args.found.now.items))
