use Rattle.std.proofs.Common.{◌-◌, ◌++◌, ◌∷◌, [], true, map, string_bytes, ap, ◌∙◌}
use Rattle.std.proofs.Math.Seq.{map-set_same}
use Rattle.std.proofs.lemmas.Bool.{false≢true}
use Rattle.starlark_lexer.specs.Places.{line_of}
use Rattle.starlark_lexer.specs.Tokens.{Span, span_of}
use Rattle.starlark_module.specs.Comments.Building.{suppressing, suppression}
use Rattle.starlark_module.specs.Comments.Suppressions.{line_around}
use Rattle.starlark_tree.specs.Signatures.{merge}
use Rattle.starlark_module.specs.Comments.Suppressions as spec
use Rattle.starlark_module.proofs.CommentsLemmas.LastOnes.{was_last, ends_with_new, some_last}
use Rattle.starlark_module.proofs.CommentsLemmas.Lines.{merged}
use Rattle.starlark_module.proofs.CommentsLemmas.Results.{on_err}
use Rattle.starlark_module.proofs.comments.lint_suppressions.LintSuppressionsBuilder.join.Goals.{in-Some+in_ok-join, in_default}
use Rattle.starlark_module.proofs.comments.lint_suppressions.LintSuppressionsBuilder.join.Goals as goal

pub returns-in_err-join-clause-err : goal.returns-in_err-join-clause-err
returns-in_err-join-clause-err c =
    let v = c.args.self.now.suppressions in
    on_err c.from_residual.result (map-set_same suppression v.items (v.len - 1) c.join.new.self c.in-Some.last.now (c.in_err-join.ensures.err
    ∙ ap suppression c.in-Some.ensures.value))

pub returns-clause-ok : goal.returns-clause-ok
returns-clause-ok c front last ends_so =
    let v = c.args.self.now.suppressions in
    elim c.match-last_mut.branch [
      | in-Some+in_ok-join w ↦
          let replaced = ends_with_new suppression v.items v.len w.in-Some.last.now w.join.new.self front last v.ok.0 w.in-Some.ensures.value ends_so in
          let was = was_last suppression v.items v.len w.in-Some.last.now w.join.new.self front last v.ok.0 w.in-Some.ensures.value ends_so in
          let lines_are = merged c.args.lines c.line_around.result c.merge-lines.result c.merge-lines.ensures.begin c.merge-lines.ensures.end
          ∙ ap (merge (span_of c.args.lines)) c.line_around.ensures.line in
          let names = map string_bytes c.args.short_names.items in
          let with = λ (s : spec.Suppression) (lines : Span). front ++ suppressing c.args.codemap.now.text (s.names ++ names)
          (merge s.token (span_of c.args.span)) lines (line_of c.args.codemap.now.text c.args.span.begin.byte) true ∷ [] in
          ap (λ b. map suppression b.suppressions.items) w.self-is ∙ replaced ∙ ap (λ s. front ++ s ∷ []) w.in_ok-join.ensures.ok
          ∙ ap (λ s. with s (span_of c.merge-lines.result)) was ∙ ap (with last) lines_are
      | in_default w ↦ some_last suppression v.items v.len front last v.ok.0 ends_so (λ some. absurd (false≢true (w.in_default.ensures.variant.1 some)))
    ]
