use Rattle.std.proofs.Common.{◌==◌, length, sym, ap, ap₂, refl, ◌∙◌}
use Rattle.std.specs.Str.{trim}
use Rattle.starlark_lexer.specs.Places.{text_between}
use Rattle.starlark_lexer.specs.declared.span.Pos.{Pos}
use Rattle.starlark_module.specs.Comments.Suppressions.{is_alone, is_blank}
use Rattle.starlark_module.proofs.CommentsLemmas.LoneComments.{third_decides, second_fails}
use Rattle.starlark_module.proofs.comments.lint_suppressions.is_alone.Goals as goal

pub returns-then-eq : goal.returns-then-eq
unfolding is_alone
returns-then-eq c = rw (← c.eq.ensures, c.if-eq.true) refl

pub returns-then-eq-2 : goal.returns-then-eq-2
unfolding is_alone
returns-then-eq-2 c =
    let ends_alike = ap₂ (λ (a b : Pos). a.byte == b.byte) (sym c.end.ensures) (sym c.end-else-eq.ensures) ∙ sym c.eq-else-eq.ensures ∙ c.if-eq-2.true in
    let begin = ap (λ (p : Pos). p.byte) (c.new-before.ensures.begin ∙ c.begin.ensures) in
    let end = ap (λ (p : Pos). p.byte) (c.new-before.ensures.end ∙ c.begin-2.ensures) in
    let between = c.source_span.ensures ∙ ap₂ (text_between c.args.codemap.now.text) begin end in
    third_decides _ _ _ _ (sym c.eq.ensures ∙ c.if-eq.false) ends_alike (c.is_empty.ensures ∙ ap (λ t. length t == 0) (c.trim.ensures.trim ∙ ap trim between))

pub returns-else-eq-2 : goal.returns-else-eq-2
unfolding is_alone
returns-else-eq-2 c =
    let ends_are = c.eq-else-eq.ensures ∙ ap₂ (λ (a b : Pos). a.byte == b.byte) c.end.ensures c.end-else-eq.ensures in
    second_fails _ _ _ (is_blank (text_between c.args.codemap.now.text c.args.line_span.begin.byte c.args.token_span.begin.byte)) (sym c.eq.ensures
    ∙ c.if-eq.false) ends_are c.if-eq-2.false
