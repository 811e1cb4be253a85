use Rattle.std.proofs.Common.{ap}
use Rattle.starlark_lexer.specs.declared.span.Pos.{Pos}
use Rattle.starlark_parse_held.proofs.Meanings.{expression_held}
use Rattle.starlark_parse_held.proofs.Spans.{same_spans}
use Rattle.starlark_parse_build.proofs.Rows.{tuple_seen}
use Rattle.starlark_parse_build.proofs.expression.tuple.Goals as goal

pub returns : goal.returns
returns c =
    expression_held c.new.result _ _
    (tuple_seen c.into_trees.result c.args.elements.trees.items c.into_trees.ensures (same_spans (ap (λ (p : Pos). p.byte) c.new-span.ensures.begin)
    (ap (λ (p : Pos). p.byte) c.new-span.ensures.end)))
    c.new.ensures
