use Rattle.std.proofs.Common.{ap, ◌∙◌}
use Rattle.starlark_lexer.specs.Tokens.{span_of}
use Rattle.starlark_tree.specs.Ast as t
use Rattle.starlark_tree.specs.Views.{shape_seen}
use Rattle.starlark_passes.specs.Lint.LintIssues.{string_key}
use Rattle.starlark_passes.proofs.LintLemmas.Forms.{no_string}
use Rattle.starlark_passes.proofs.lint.duplicate_keys.string_text.Goals as goal

pub returns-in-Literal : goal.returns-in-Literal
returns-in-Literal c = ap (λ e. string_key (t.expression (span_of c.args.expr.now.span) (shape_seen e))) c.in-Literal.is
    ∙ c.literal_text.ensures (span_of c.args.expr.now.span)

pub returns-in_default : goal.returns-in_default
returns-in_default c = no_string (span_of c.args.expr.now.span) c.args.expr.now.node c.in_default.not-Literal
