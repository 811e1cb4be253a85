use Rattle.std.proofs.Common.{◌≡◌, [], ◌∷◌, ◌++◌, OnOk, ap, ◌∙◌, subst}
use Rattle.starlark_lexer.specs.Tokens.{from_to, span_of}
use Rattle.starlark_lexer.specs.declared.span.Pos.{Pos}
use Rattle.starlark_tree.specs.Ast.{statement, Assign, NameTarget, no_type}
use Rattle.starlark_tree.specs.Views.{expression_of, assign_word}
use Rattle.starlark_parse_held.specs.Held.{statements_in}
use Rattle.starlark_parse_cursor.proofs.Looks.{same_spans}
use Rattle.starlark_parse.proofs.stmt.assignment.add_assigned.Goals as goal

pub returns : goal.returns
returns c =
    subst (λ s. OnOk c.add.result (statements_in c.add.new.self ≡ statements_in c.args.statements.now ++ s ∷ []))
    (ap (λ s. statement s (Assign (NameTarget (span_of c.args.name.span) (assign_word c.assigned.result) tt) no_type (expression_of c.args.value)))
    (same_spans (ap (λ (p : Pos). p.byte) c.new.ensures.begin ∙ ap (λ (p : Pos). p.byte) c.begin.ensures) (ap (λ (p : Pos). p.byte) c.new.ensures.end))
    ∙ ap (λ w. statement (from_to c.args.name.span.begin.byte c.args.end.byte)
    (Assign (NameTarget (span_of c.args.name.span) w tt) no_type (expression_of c.args.value))) c.assigned.ensures) c.add.ensures
