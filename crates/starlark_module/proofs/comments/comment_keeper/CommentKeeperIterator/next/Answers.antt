use Rattle.std.proofs.Common.{Some, refl, ap, sym, subst, ◌∙◌}
use Rattle.std.specs.Iterator.{MakesProgress}
use Rattle.starlark_module.specs.Comments.Keeping.{ends, hands_on, wants_memory, has_failed, CanNext}
use Rattle.starlark_module.proofs.CommentsLemmas.Orders.{one_in_order, goes_on, nearer}
use Rattle.starlark_module.proofs.comments.comment_keeper.CommentKeeperIterator.next.Goals as goal

pub returns-then-self-clause-steps : goal.returns-then-self-clause-steps
returns-then-self-clause-steps g c = has_failed c.if-self.true

pub returns-in_err-lexeme-clause-steps : goal.returns-in_err-lexeme-clause-steps
returns-in_err-lexeme-clause-steps g c =
    rw (c.from_residual.ensures) (ends c.if-self.false record { same_reference = refl; codemap = refl } c.in_err-lexeme.ensures.steps (λ lexemes kept. kept))

pub keep-requires-clause-ordered : goal.keep-requires-clause-ordered
keep-requires-clause-ordered g c = one_in_order (c.requires c.if-self.false).1 c.in_ok-lexeme.ensures.steps

pub returns-in-Ok-clause-steps : goal.returns-in-Ok-clause-steps
returns-in-Ok-clause-steps g c =
    let there = ap (λ r. r.now) c.in-Ok.ensures.lexemes in
    hands_on c.in_ok-lexeme.lexeme c.if-self.false record {
      same_reference = ap (λ r. r.ghost_name) c.in-Ok.ensures.lexemes;
      codemap = c.in-Ok.ensures.codemap;
    } (subst (g.I.Iterator.next_gives c.args.self.now.lexemes.now (Some c.in_ok-lexeme.lexeme))
    (sym there) c.in_ok-lexeme.ensures.steps)
    c.in-Ok.ensures.kept c.in-Ok.ensures.failed

pub returns-in-Ok-clause-goes : goal.returns-in-Ok-clause-goes
returns-in-Ok-clause-goes g c =
    let there = ap (λ r. r.now) c.in-Ok.ensures.lexemes in
    let step = subst (g.I.Iterator.next_gives c.args.self.now.lexemes.now (Some c.in_ok-lexeme.lexeme)) (sym there) c.in_ok-lexeme.ensures.steps in
    let goes = subst (MakesProgress g.I.Iterator.can_next g.I.Iterator.remaining c.args.self.now.lexemes.now (Some c.in_ok-lexeme.lexeme))
    (sym there) c.in_ok-lexeme.ensures.goes in
    nearer g.I.Iterator.can_next g.I.Iterator.remaining (CanNext g.I.Iterator.can_next g.I.Iterator.next_gives) c.args.self.now c.keep.new.self
    c.in_ok-lexeme.lexeme c.in_ok-lexeme.lexeme goes
    (λ can still. (can, goes_on c.in_ok-lexeme.lexeme (c.requires c.if-self.false).1 step (sym c.in-Ok.ensures.failed ∙ still)))

pub returns-in-Err-clause-steps : goal.returns-in-Err-clause-steps
returns-in-Err-clause-steps g c =
    let there = ap (λ r. r.now) c.in-Err.ensures.lexemes in
    wants_memory c.in_ok-lexeme.lexeme c.in-Err.error c.if-self.false record {
      same_reference = ap (λ r. r.ghost_name) c.in-Err.ensures.lexemes;
      codemap = c.in-Err.ensures.codemap;
    } (subst (g.I.Iterator.next_gives c.args.self.now.lexemes.now (Some c.in_ok-lexeme.lexeme))
    (sym there) c.in_ok-lexeme.ensures.steps)
    c.in-Err.ensures.err_comment c.in-Err.ensures.err c.in-Err.ensures.err_failed
