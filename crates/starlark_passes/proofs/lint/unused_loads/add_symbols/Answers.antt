use Rattle.std.proofs.Common.{◌++◌, map, ap, sym, ◌∙◌, append-nil}
use Rattle.std.proofs.lemmas.Result.{on_ok_weaker}
use Rattle.starlark_lexer.specs.Tokens.{span_of}
use Rattle.starlark_tree.specs.Ast as t
use Rattle.starlark_tree.specs.Places.{behind}
use Rattle.starlark_tree.specs.Views.{form_seen, load_arg_of}
use Rattle.starlark_passes.specs.Lint.LintIssues.{loaded}
use Rattle.starlark_passes.proofs.LintLemmas.Forms.{no_load}
use Rattle.starlark_passes.proofs.lint.unused_loads.add_symbols.Goals as goal

pub returns-in-Load : goal.returns-in-Load
returns-in-Load c =
    on_ok_weaker c.add_each.result
    (λ added. added ∙ ap (λ l. map (behind load_arg_of) c.args.symbols.now.items ++ l)
    (ap (map load_arg_of) c.deref.ensures.value ∙ sym (ap (λ s. loaded (t.statement (span_of c.args.statement.now.span) (form_seen s))) c.in-Load.is)))
    c.add_each.ensures

pub returns-in_default : goal.returns-in_default
returns-in_default c =
    sym (ap (λ l. map (behind load_arg_of) c.args.symbols.now.items ++ l)
    (no_load (span_of c.args.statement.now.span) c.args.statement.now.node c.in_default.not-Load)
    ∙ append-nil (map (behind load_arg_of) c.args.symbols.now.items))
