use Rattle.std.proofs.Common.{List, map, string_bytes, ap, ◌∙◌}
use Rattle.std.proofs.Math.Seq.{map-set_same}
use Rattle.starlark_lexer.specs.Tokens.{Text, span_of}
use Rattle.starlark_module.specs.Comments.Building.{suppression}
use Rattle.starlark_module.specs.Comments.Suppressions.{Suppression}
use Rattle.starlark_module.specs.declared.comments.lint_suppressions.SuppressionInfo.{SuppressionInfo}
use Rattle.starlark_module.proofs.comments.lint_suppressions.index_names.Goals as goal

pub loop-at-preserved : goal.loop-at-preserved
loop-at-preserved c =
    let old = c.index_mut.result.now in
    let indexed : SuppressionInfo = record {
      short_names = c.index.new.self;
      token_span = old.token_span;
      effective_span = old.effective_span;
      suppress_next_line = old.suppress_next_line;
    } in
    let naming = λ (names : List Text). let named : Suppression = record {
      names = names;
      token = span_of old.token_span;
      covered = span_of old.effective_span;
      next_line = old.suppress_next_line;
    } in named in
    let same = ap naming (ap (λ v. map string_bytes v.items) c.index.ensures) in
    map-set_same suppression c.loop-at.suppressions.items c.loop-at.at indexed old (same ∙ ap suppression c.index_mut.ensures.value) ∙ c.loop-at.invariant
