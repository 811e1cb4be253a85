use Rattle.std.proofs.Common.{Global, ap, ◌∙◌}
use Rattle.std.specs.declared.boxed.Box.{Box}
use Rattle.starlark_lexer.specs.declared.span.Pos.{Pos}
use Rattle.starlark_parse_held.proofs.Meanings.{expression_held}
use Rattle.starlark_parse_held.proofs.Spans.{same_spans}
use Rattle.starlark_parse_build.proofs.Rows.{CodeExpression, list_comprehension_seen}
use Rattle.starlark_parse_build.proofs.comprehension.list_comprehension.Goals as goal

pub returns : goal.returns
returns c =
    expression_held c.new.result _ _
    (list_comprehension_seen c.into_box.result c.into_parts-first.result (c.args.clauses.first, c.args.clauses.rest) c.args.element.tree.value
    (ap (λ (b : Box CodeExpression Global). b.value) c.into_box.ensures) c.into_parts-first.ensures
    (same_spans (ap (λ (p : Pos). p.byte) c.new-span.ensures.begin) (ap (λ (p : Pos). p.byte) c.new-span.ensures.end)))
    c.new.ensures
