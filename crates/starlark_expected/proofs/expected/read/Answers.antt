use Rattle.std.proofs.Common.{refl, sym, ◌∙◌, ap, subst, drop, ◌+◌, reverse}
use Rattle.std.proofs.Math.ListN.{drop_of_length-le}
use Rattle.starlark_expected.specs.declared.due.Due.{Due}
use Rattle.starlark_expected.specs.MayFollow.{tokens_of}
use Rattle.starlark_expected.proofs.expected.read.Goals.{in-Comment, in-Token+in_ok-take-in-Token+else-not-branch}
use Rattle.starlark_expected.proofs.Up.{UpTo, next_of, at_first, at_last, at_error, at_comment, at_token, at_refused}
use Rattle.starlark_expected.proofs.expected.read.Goals as goal

pub loop-lexeme-init : goal.loop-lexeme-init
loop-lexeme-init c = rw (c.in_ok-due.ensures.words, c.in_ok-due.ensures.named) (at_first _ _ refl)

pub returns-in-Error-clause-decides : goal.returns-in-Error-clause-decides
returns-in-Error-clause-decides c =
    at_error c.args.lexemes.now _ _ (reverse c.loop-lexeme.due.words.items) c.loop-lexeme.due.named c.loop-lexeme.invariant c.lexeme-item.result
    (next_of c.args.lexemes.now c.loop-lexeme.lexeme-index c.lexeme-item.result c.loop-lexeme-test.true c.lexeme-item.is) (sym c.seen.ensures ∙ c.in-Error.is)

pub returns-then-not-branch-clause-none : goal.returns-then-not-branch-clause-none
returns-then-not-branch-clause-none c =
    at_refused c.args.lexemes.now _ _ (reverse c.loop-lexeme.due.words.items) c.loop-lexeme.due.named c.loop-lexeme.invariant c.lexeme-item.result
    (next_of c.args.lexemes.now c.loop-lexeme.lexeme-index c.lexeme-item.result c.loop-lexeme-test.true c.lexeme-item.is) c.in-Token.kind
    (sym c.seen.ensures ∙ c.in-Token.is) _ _ c.in_ok-take-in-Token.field-0 c.in_ok-take-in-Token.ensures c.if-not-branch.true

pub loop-lexeme-preserved : goal.loop-lexeme-preserved
loop-lexeme-preserved c =
    let next = next_of c.args.lexemes.now c.loop-lexeme.lexeme-index c.lexeme-item.result c.loop-lexeme-test.true c.lexeme-item.is in
    elim c.match-seen.branch [
      | in-Comment w ↦
          subst (λ (d : Due). UpTo c.args.lexemes.now (drop (c.loop-lexeme.lexeme-index + 1) c.args.lexemes.now) (reverse d.words.items) d.named)
          (sym w.due-is)
          (at_comment c.args.lexemes.now _ _ (reverse c.loop-lexeme.due.words.items) c.loop-lexeme.due.named c.loop-lexeme.invariant c.lexeme-item.result next
          (sym c.seen.ensures ∙ w.in-Comment.is))
      | in-Token+in_ok-take-in-Token+else-not-branch w ↦
          subst (λ (d : Due). UpTo c.args.lexemes.now (drop (c.loop-lexeme.lexeme-index + 1) c.args.lexemes.now) (reverse d.words.items) d.named)
          (sym w.due-is)
          (at_token c.args.lexemes.now _ _ (reverse c.loop-lexeme.due.words.items) c.loop-lexeme.due.named c.loop-lexeme.invariant c.lexeme-item.result next
          w.in-Token.kind (sym c.seen.ensures ∙ w.in-Token.is) _ _ w.in_ok-take-in-Token.field-0 w.in_ok-take-in-Token.ensures w.if-not-branch.false)
    ]

pub returns-clause-decides : goal.returns-clause-decides
returns-clause-decides c =
    at_last c.args.lexemes.now _ (reverse c.loop-lexeme.due.words.items) c.loop-lexeme.due.named c.loop-lexeme.invariant
    (ap tokens_of (drop_of_length-le c.args.lexemes.now c.loop-lexeme-test.false))
