use Rattle.std.proofs.Common.{◌≡◌, true, is_some, Some, sym, ap, ◌∙◌, rules}
use Rattle.starlark_lexer.specs.Tokens.{span_of}
use Rattle.starlark_tree.specs.Views.{shape_seen}
use Rattle.starlark_spec.specs.Assignments.{is_sequence}
use Rattle.starlark_spec.specs.Faults.{grammar_fault}
use Rattle.starlark_spec.specs.declared.error.GrammarError.TheVariants.{InvalidModifyLhs}
use Rattle.starlark_parse_build.proofs.CheckLemmas.FaultLemmas.{names_same}
use Rattle.starlark_parse_build.proofs.CheckLemmas.AssignmentLemmas.{several_refused}
use Rattle.starlark_parse_build.proofs.CheckLemmas.TypeForms.{Code}
use Rattle.starlark_parse_build.proofs.check.assignment.check_left.Goals as goal

pub returns-then-is_sequence : goal.returns-then-is_sequence
returns-then-is_sequence c =
    let left = c.args.left.now.tree.value in
    let some : is_some c.args.operator ≡ true = search rules in
    let several : is_sequence (shape_seen left.node) ≡ true = search rules in
    let place = ap (λ (e : Code). Some (grammar_fault InvalidModifyLhs (span_of e.span))) (sym c.deref-then-is_sequence.ensures) in
    names_same _ _ _ (λ x is. sym (several_refused (span_of left.span) (shape_seen left.node) c.args.operator some several) ∙ place
    ∙ is) c.grammar_error.ensures
