use Rattle.std.proofs.Common.{ap₂, ◌∷◌, sym, ◌∙◌}
use Rattle.starlark_module.specs.Comments.Suppressions.{is_separator, pieces}
use Rattle.starlark_module.proofs.CommentsLemmas.Names.{cut_at, whole, after_separator, before_separator, up_to}
use Rattle.starlark_module.proofs.comments.lint_suppressions.split_piece.Goals as goal

pub range_from-requires : goal.range_from-requires
range_from-requires c = λ _. after_separator c.args.text.now c.in-Some.at c.utf8.text (sym c.in-Some.ensures)

pub range-requires-clause-end_boundary : goal.range-requires-clause-end_boundary
range-requires-clause-end_boundary c = before_separator c.args.text.now c.in-Some.at (sym c.in-Some.ensures)

pub returns-in-Some-clause-pieces : goal.returns-in-Some-clause-pieces
returns-in-Some-clause-pieces c =
    cut_at is_separator c.args.text.now c.in-Some.at 0 (sym c.in-Some.ensures)
    ∙ ap₂ (λ front rest. front ∷ pieces rest) (sym (c.range.ensures.value ∙ up_to c.args.text.now c.in-Some.at)) (sym c.range_from.ensures.value)

pub returns-in-None-clause-pieces : goal.returns-in-None-clause-pieces
returns-in-None-clause-pieces c = whole is_separator c.args.text.now 0 (sym c.in-None.ensures)
