use Rattle.std.proofs.Common.{Some, refl, ap, sym, subst}
use Rattle.std.specs.Iterator.{MakesProgress}
use Rattle.starlark_depth.specs.Guarding.{ends, passes, refuses, stopped, CanNext}
use Rattle.starlark_depth.proofs.Orders.{one_in_order, continues, nearer}
use Rattle.starlark_depth.proofs.guard.DepthGuardIterator.next.Goals as goal

pub returns-then-self-clause-steps : goal.returns-then-self-clause-steps
returns-then-self-clause-steps g c = stopped c.if-self.true

pub returns-in_err-lexeme-clause-steps : goal.returns-in_err-lexeme-clause-steps
returns-in_err-lexeme-clause-steps g c =
    rw (c.from_residual.ensures) (ends c.if-self.false record { same_reference = refl; limit = refl } c.in_err-lexeme.ensures.steps)

pub count-requires-clause-ordered : goal.count-requires-clause-ordered
count-requires-clause-ordered g c = one_in_order (c.requires c.if-self.false).1 c.in_ok-lexeme.ensures.steps

pub returns-in-Ok-clause-steps : goal.returns-in-Ok-clause-steps
returns-in-Ok-clause-steps g c =
    let there = ap (λ r. r.now) c.in-Ok.ensures.lexemes in
    passes c.in_ok-lexeme.lexeme c.if-self.false record { same_reference = ap (λ r. r.ghost_name) c.in-Ok.ensures.lexemes; limit = c.in-Ok.ensures.limit }
    (subst (g.I.Iterator.next_gives c.args.self.now.lexemes.now (Some c.in_ok-lexeme.lexeme)) (sym there) c.in_ok-lexeme.ensures.steps)
    c.in-Ok.ensures.passes

pub returns-in-Ok-clause-goes : goal.returns-in-Ok-clause-goes
returns-in-Ok-clause-goes g c =
    let there = ap (λ r. r.now) c.in-Ok.ensures.lexemes in
    let step = subst (g.I.Iterator.next_gives c.args.self.now.lexemes.now (Some c.in_ok-lexeme.lexeme)) (sym there) c.in_ok-lexeme.ensures.steps in
    let goes = subst (MakesProgress g.I.Iterator.can_next g.I.Iterator.remaining c.args.self.now.lexemes.now (Some c.in_ok-lexeme.lexeme))
    (sym there) c.in_ok-lexeme.ensures.goes in
    nearer g.I.Iterator.can_next g.I.Iterator.remaining
    (CanNext g.I.Iterator.can_next g.I.Iterator.next_gives) c.args.self.now c.count.new.self c.in_ok-lexeme.lexeme c.in_ok-lexeme.lexeme goes
    (λ can still. (
      can,
      continues c.in_ok-lexeme.lexeme c.args.self.now.depth c.count.new.self.depth c.count.new.self.failed
          (c.requires c.if-self.false).1 step c.in-Ok.ensures.passes still,
    ))

pub returns-in-Err-clause-steps : goal.returns-in-Err-clause-steps
returns-in-Err-clause-steps g c =
    let there = ap (λ r. r.now) c.in-Err.ensures.lexemes in
    refuses c.in_ok-lexeme.lexeme c.in-Err.error c.if-self.false record {
      same_reference = ap
          (λ r. r.ghost_name) c.in-Err.ensures.lexemes;
      limit = c.in-Err.ensures.limit;
    }
    (subst (g.I.Iterator.next_gives c.args.self.now.lexemes.now (Some c.in_ok-lexeme.lexeme)) (sym there) c.in_ok-lexeme.ensures.steps)
    c.in-Err.ensures.refuses
