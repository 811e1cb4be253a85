use Rattle.std.proofs.Common.{refl, ap, ◌∙◌, ◌≡◌, arith}
use Rattle.starlark_lexer.specs.Tokens.{lexeme, terminal}
use Rattle.starlark_lexer.specs.declared.span.Pos.{Pos}
use Rattle.starlark_spec.specs.Machine.Sight.{token}
use Rattle.starlark_parse_cursor.proofs.Looks.{no_comment, same_spans}
use Rattle.starlark_parse_cursor.specs.Reading.{Pulls.here, Pulls.past}
use Rattle.starlark_parse_cursor.proofs.Order.{first_in_order, rest_in_order, in_order_earlier}
use Rattle.starlark_parse_cursor.proofs.cursor.next_item.Goals as goal

pub returns-in-None-clause-pulls : goal.returns-in-None-clause-pulls
returns-in-None-clause-pulls g c = c.pulling.invariant.4 _ _ (here _ c.in-None.ensures.steps tt refl)

pub returns-in-Some-Err-clause-pulls : goal.returns-in-Some-Err-clause-pulls
returns-in-Some-Err-clause-pulls g c = c.pulling.invariant.4 _ _ (here _ (rw c.in-Some-Err.field-0-is at c.in-Some-Err.ensures.steps) tt refl)

pub overflow_cast-begin : goal.overflow_cast-begin
overflow_cast-begin g c =
    let step = rw c.in-Some-Ok.field-0-is at c.in-Some-Ok.ensures.steps in
    let order = first_in_order c.pulling.invariant.3 step in
    omega (arith, order.1, order.2)

pub overflow_cast-end : goal.overflow_cast-end
overflow_cast-end g c =
    let step = rw c.in-Some-Ok.field-0-is at c.in-Some-Ok.ensures.steps in
    let order = first_in_order c.pulling.invariant.3 step in
    omega (arith, order.2)

pub new-span-requires : goal.new-span-requires
new-span-requires g c =
    let step = rw c.in-Some-Ok.field-0-is at c.in-Some-Ok.ensures.steps in
    let order = first_in_order c.pulling.invariant.3 step in
    omega (arith, order.1, c.new.ensures, c.new-in_default.ensures)

pub returns-in_default-clause-pulls : goal.returns-in_default-clause-pulls
returns-in_default-clause-pulls g c =
    let step = rw c.in-Some-Ok.field-0-is at c.in-Some-Ok.ensures.steps in
    let begin_is : c.new-span.result.begin.byte ≡ c.in-Some-Ok.begin = ap (λ (p : Pos). p.byte) c.new-span.ensures.begin ∙ c.new.ensures in
    let end_is : c.new-span.result.end.byte ≡ c.in-Some-Ok.end = ap (λ (p : Pos). p.byte) c.new-span.ensures.end ∙ c.new-in_default.ensures in
    c.pulling.invariant.4 _ _ (here _ step (no_comment c.in-Some-Ok.token c.in_default.not-Comment) (ap (λ s. token (lexeme (terminal c.in-Some-Ok.token) s))
    (same_spans begin_is end_is)))

pub returns-in_default-clause-goes_on : goal.returns-in_default-clause-goes_on
returns-in_default-clause-goes_on g c =
    let further = c.in-Some-Ok.ensures.goes.on c.pulling.invariant.1 in
    let step = rw c.in-Some-Ok.field-0-is at c.in-Some-Ok.ensures.steps in
    let end_is : c.new-span.result.end.byte ≡ c.in-Some-Ok.end = ap (λ (p : Pos). p.byte) c.new-span.ensures.end ∙ c.new-in_default.ensures in
    (further.0, further.1, rw end_is (rest_in_order c.pulling.invariant.3 step))

pub returns-in_default-clause-later : goal.returns-in_default-clause-later
returns-in_default-clause-later g c =
    let step = rw c.in-Some-Ok.field-0-is at c.in-Some-Ok.ensures.steps in
    let order = first_in_order c.pulling.invariant.3 step in
    let begin_is : c.new-span.result.begin.byte ≡ c.in-Some-Ok.begin = ap (λ (p : Pos). p.byte) c.new-span.ensures.begin ∙ c.new.ensures in
    rw begin_is order.0

pub pulling-preserved-in-Comment : goal.pulling-preserved-in-Comment
pulling-preserved-in-Comment g c =
    let further = c.in-Some-Ok.ensures.goes.on c.pulling.invariant.1 in
    let step = rw (c.in-Some-Ok.field-0-is, c.in-Comment.is) at c.in-Some-Ok.ensures.steps in
    let order = first_in_order c.pulling.invariant.3 step in (
      further.0,
      further.1,
      omega (arith, further.2),
      in_order_earlier _ _ (rest_in_order c.pulling.invariant.3 step) (omega (arith, order.0, order.1)),
      λ k t p. c.pulling.invariant.4 k t (past _ step refl p),
    )
