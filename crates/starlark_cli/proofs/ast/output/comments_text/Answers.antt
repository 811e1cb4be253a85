use Rattle.std.proofs.Common.{[], ap, ◌∙◌, string_bytes, ◌++◌}
use Rattle.std.proofs.lemmas.List.Folds.{flat_map-map}
use Rattle.starlark_cli.specs.Ast.Output.{comment_line}
use Rattle.starlark_passes.proofs.OutlineLemmas.Outlines.{one_more, all_parts}
use Rattle.starlark_lexer.specs.Tokens.{span_of}
use Rattle.starlark_cli.proofs.ast.output.comments_text.Goals as goal

pub loop-span-preserved : goal.loop-span-preserved
loop-span-preserved c =
    one_more (λ s. comment_line c.args.ast.now.codemap.text (span_of s)) c.comments-span-items.result.now c.loop-span.span-index c.span-item.result [] _ _
    c.loop-span-test.true c.span-item.is c.loop-span.invariant
    (c.in_ok-add_comment.ensures ∙ ap (λ f. string_bytes c.loop-span.text ++ comment_line f.text (span_of c.span-item.result)) c.codemap.ensures)

pub returns : goal.returns
returns c =
    all_parts (λ s. comment_line c.args.ast.now.codemap.text (span_of s)) c.comments-span-items.result.now c.args.ast.now.comments.items c.loop-span.span-index
    [] _ _ c.loop-span-test.false c.comments-span-items.ensures
    (flat_map-map (comment_line c.args.ast.now.codemap.text) span_of c.args.ast.now.comments.items) c.loop-span.invariant
