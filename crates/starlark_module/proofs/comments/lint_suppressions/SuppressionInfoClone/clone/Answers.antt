use Rattle.std.proofs.Common.{List, ap}
use Rattle.starlark_lexer.specs.Tokens.{Text, span_of}
use Rattle.starlark_module.specs.Comments.Suppressions.{Suppression}
use Rattle.starlark_module.proofs.comments.lint_suppressions.SuppressionInfoClone.clone.Goals as goal

pub returns : goal.returns
returns c =
    let s = c.args.self.now in
    let naming = λ (names : List Text). let named : Suppression = record {
      names = names;
      token = span_of s.token_span;
      covered = span_of s.effective_span;
      next_line = s.suppress_next_line;
    } in named in
    record { cases = ap naming c.in_ok-short_names.ensures.cases }
