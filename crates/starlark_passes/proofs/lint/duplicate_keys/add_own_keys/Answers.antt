use Rattle.std.proofs.Common.{[], ◌++◌, map, ap, sym, ◌∙◌, append-nil}
use Rattle.std.proofs.lemmas.Result.{on_ok_weaker}
use Rattle.starlark_lexer.specs.Tokens.{span_of}
use Rattle.starlark_tree.specs.Ast as t
use Rattle.starlark_tree.specs.Views.{expression_of, shape_seen}
use Rattle.std.specs.List.{flat_map}
use Rattle.starlark_passes.specs.Lint.LintIssues.{repeated_keys, repeats, string_key}
use Rattle.starlark_passes.proofs.LintLemmas.Forms.{dict_keys, no_dict}
use Rattle.starlark_passes.proofs.lint.duplicate_keys.add_own_keys.Goals as goal

pub returns-in-Dict : goal.returns-in-Dict
returns-in-Dict c =
    on_ok_weaker c.add_repeated.result
    (λ added. added ∙ ap (λ l. map span_of c.args.found.now.items ++ l)
    (ap (λ ps. repeats [] (flat_map (λ p. string_key (expression_of p.0)) ps)) c.deref.ensures.value
    ∙ sym (ap (λ e. repeated_keys (t.expression (span_of c.args.expr.now.span) (shape_seen e))) c.in-Dict.is
    ∙ dict_keys (span_of c.args.expr.now.span) c.in-Dict.pairs)))
    c.add_repeated.ensures

pub returns-in_default : goal.returns-in_default
returns-in_default c =
    sym (ap (λ l. map span_of c.args.found.now.items ++ l) (no_dict (span_of c.args.expr.now.span) c.args.expr.now.node c.in_default.not-Dict)
    ∙ append-nil (map span_of c.args.found.now.items))
