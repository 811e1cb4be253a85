use Rattle.std.proofs.Common.{◌∙◌}
use Rattle.starlark_module.specs.Comments.Building.{suppression}
use Rattle.starlark_module.proofs.CommentsLemmas.Clones.{made_alike}
use Rattle.starlark_module.proofs.comments.lint_suppressions.LintSuppressionsClone.clone.Goals as goal

pub returns : goal.returns
returns c = record {
  cases = c.new.ensures ∙ made_alike suppression c.args.self.now.suppressions.items c.in_ok-suppressions.suppressions.items
      c.in_ok-suppressions.ensures.cases.0;
}
