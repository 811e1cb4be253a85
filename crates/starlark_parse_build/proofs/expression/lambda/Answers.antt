use Rattle.std.proofs.Common.{Global, ap, ◌∙◌}
use Rattle.std.specs.declared.boxed.Box.{Box}
use Rattle.starlark_lexer.specs.declared.span.Pos.{Pos}
use Rattle.starlark_parse_held.proofs.Meanings.{expression_held}
use Rattle.starlark_parse_held.proofs.Spans.{same_spans}
use Rattle.starlark_parse_build.proofs.Rows.{CodeExpression, lambda_seen}
use Rattle.starlark_parse_build.proofs.expression.lambda.Goals as goal

pub returns-clause-means : goal.returns-clause-means
returns-clause-means c =
    expression_held c.new.result _ _
    (lambda_seen c.into_trees.result c.args.params.trees.items c.into_box.result c.args.body.tree.value c.into_trees.ensures
    (ap (λ (b : Box CodeExpression Global). b.value) c.into_box.ensures)
    (same_spans (ap (λ (p : Pos). p.byte) c.new-span.ensures.begin) (ap (λ (p : Pos). p.byte) c.new-span.ensures.end)))
    c.new.ensures
