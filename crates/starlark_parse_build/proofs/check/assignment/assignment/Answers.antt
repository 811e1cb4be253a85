use Rattle.std.proofs.Common.{Box, Global, ap, ◌∙◌}
use Rattle.starlark_lexer.specs.Tokens.{from_to}
use Rattle.starlark_tree.specs.Views.{expression_of as tree_of, target_of as seen_target}
use Rattle.starlark_parse_held.specs.Held.{annotation_of, expression_of, target_of}
use Rattle.starlark_parse_build.proofs.CheckLemmas.AssignmentLemmas.{plain_assigned, modified_assigned}
use Rattle.starlark_parse_build.proofs.CheckLemmas.TypeForms.{Code}
use Rattle.starlark_parse_build.proofs.check.assignment.assignment.Goals as goal

pub returns-in_ok-spanned-in-None-clause-means : goal.returns-in_ok-spanned-in-None-clause-means
returns-in_ok-spanned-in-None-clause-means c =
    c.in_ok-spanned-in-None.ensures
    ∙ plain_assigned (from_to c.args.begin.byte c.args.end.byte) (expression_of c.args.left) (annotation_of c.args.annotation) c.args.operator
    (target_of c.in_ok-lhs.lhs) c.in_ok-lhs.ensures.ok
    c.in-None.is (ap seen_target c.into_tree.ensures) c.type_tree.ensures (ap tree_of c.into_tree-in-None.ensures)

pub returns-in_ok-spanned-in-Some-clause-means : goal.returns-in_ok-spanned-in-Some-clause-means
returns-in_ok-spanned-in-Some-clause-means c =
    c.in_ok-spanned-in-Some.ensures
    ∙ modified_assigned (from_to c.args.begin.byte c.args.end.byte) (expression_of c.args.left) (annotation_of c.args.annotation) c.args.operator
    (target_of c.in_ok-lhs.lhs) c.in_ok-lhs.ensures.ok
    c.in-Some.is (ap seen_target c.into_tree-in-Some.ensures) (ap (λ (b : Box Code Global). tree_of b.value) c.into_box-right.ensures)
