use Rattle.starlark_cli.specs.Ast.Output.{location_line}
use Rattle.starlark_cli.proofs.AstLemmas.Writing.{lines_of_list}
use Rattle.starlark_passes.proofs.OutlineLemmas.Outlines.{one_more, all_parts}
use Rattle.std.proofs.Common.{[]}
use Rattle.starlark_lexer.specs.Tokens.{span_of}
use Rattle.starlark_passes.specs.Outline.Listed.{file_and_span}
use Rattle.starlark_cli.proofs.ast.output.locations_text.Goals as goal

pub loop-location-preserved : goal.loop-location-preserved
loop-location-preserved c =
    one_more (λ s. location_line s.file.text (span_of s.span)) c.deref-location-items.result.now c.loop-location.location-index c.location-item.result [] _ _
    c.loop-location-test.true c.location-item.is c.loop-location.invariant c.in_ok-add_location.ensures

pub returns : goal.returns
returns c =
    all_parts (λ s. location_line s.file.text (span_of s.span)) c.deref-location-items.result.now c.in_ok-locations.locations.items
    c.loop-location.location-index [] _ _ c.loop-location-test.false c.deref-location-items.ensures.value
    (lines_of_list location_line file_and_span c.in_ok-locations.locations.items c.args.ast.now.codemap _ c.in_ok-locations.ensures) c.loop-location.invariant
