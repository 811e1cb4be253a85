use Rattle.std.proofs.Common.{rules, ◌≡◌, Option, Some, None, option_map, slice_get, sym, ap, ◌∙◌}
use Rattle.starlark_examples.specs.Documentation.{docstring, string_alone, text_of}
use Rattle.starlark_examples.proofs.FirstStatement.{first_of_body, empty_body}
use Rattle.starlark_examples.proofs.documentation.docstring.Goals as goal

pub returns-in_err-first-in-Statements : goal.returns-in_err-first-in-Statements
returns-in_err-first-in-Statements c =
    ap (option_map text_of) c.from_residual.ensures
    ∙ sym (empty_body c.args.body.now c.in-Statements.parts c.in-Statements.is (c.in_err-first-in-Statements.ensures.value
    ∙ ap (λ xs. slice_get xs 0) c.deref.ensures.value))

pub returns-in_ok-first-in-Statements : goal.returns-in_ok-first-in-Statements
returns-in_ok-first-in-Statements c =
    c.string_alone.ensures
    ∙ sym (first_of_body c.args.body.now c.in-Statements.parts _ c.in-Statements.is (c.in_ok-first-in-Statements.ensures.value
    ∙ ap (λ xs. slice_get xs 0) c.deref.ensures.value))
