use Rattle.std.proofs.Common.{ap, ◌∙◌}
use Rattle.starlark_lexer.specs.declared.span.Pos.{Pos}
use Rattle.starlark_parse_held.specs.declared.expression.HeldExprs.{HeldExprs}
use Rattle.starlark_parse_held.proofs.Meanings.{expression_held}
use Rattle.starlark_parse_held.proofs.Spans.{same_spans}
use Rattle.starlark_parse_build.proofs.Rows.{f_string_seen}
use Rattle.starlark_parse_build.proofs.format.formatted.Goals as goal

pub returns : goal.returns
returns c =
    let parts = c.into_parts-text in
    expression_held c.new.result _ _
    (f_string_seen c.into_trees.result c.args.format.values.trees.items parts.result.0 c.args.format.text c.new-span.result
    (c.into_trees.ensures ∙ ap (λ (h : HeldExprs). h.trees.items) parts.ensures.1) parts.ensures.0
    (same_spans (ap (λ (p : Pos). p.byte) c.new-span.ensures.begin) (ap (λ (p : Pos). p.byte) c.new-span.ensures.end)))
    c.new.ensures
