use Rattle.std.proofs.Common.{rules, ◌≡◌, true, Option, Result, Ok, Err, sym, ap, ◌∙◌, arith}
use Rattle.std.specs.Result.{IsErrAnd}
use Rattle.std.specs.declared.alloc.AllocError.{AllocError}
use Rattle.starlark_lexer.specs.Lexer.{CodeLexeme}
use Rattle.starlark_lexer.specs.declared.span.Pos.{Pos}
use Rattle.starlark_spec.specs.Grammar.Nonterminal.{Module, Not}
use Rattle.starlark_spec.specs.Machine.States.{Place}
use Rattle.starlark_spec.specs.Machine.States.State.{read}
use Rattle.starlark_parse_build.specs.Operations.{Stack, takes_not, stack_of, with_not}
use Rattle.starlark_parse_cursor.specs.Reading.{At}
use Rattle.starlark_parse_cursor.specs.Contract.{Comes}
use Rattle.starlark_parse.specs.Expr.Operating.{NotsTaken}
use Rattle.starlark_parse.proofs.ExprLemmas.Operators.{no_nots_yet, not_read, not_comes, nots_read}
use Rattle.starlark_parse.proofs.expr.binary.take_nots.Goals as goal

nots_refused : {S : Type 0} (steps : S → Option CodeLexeme → S → Type 0) (w z : Stack) (a b : At S) (Q : AllocError → Type 0)
    (r : Result (Unit {0}) AllocError) → IsErrAnd r Q → (takes_not w ≡ true) × ((p : Place Module Not) → Comes steps (read Not p) a b)
    → NotsTaken steps w a r z b
nots_refused steps w z a b Q (Ok u) h d = absurd h
nots_refused steps w z a b Q (Err e) h d = d

pub negating-init : goal.negating-init
negating-init g c = record {
  same_reference = search rules;
  ready = c.requires.ready;
  fewer = omega (arith);
  later = omega (arith);
  ends = omega (arith);
  nots = no_nots_yet _ _;
}

pub negating-preserved : goal.negating-preserved
negating-preserved g c = record {
  same_reference = search rules;
  ready = search rules;
  fewer = omega (arith, c.negating.invariant.fewer, c.in-Some.ensures.moves.fewer);
  later = omega (arith, c.negating.invariant.later, c.negating.invariant.ready.later, c.in-Some.ensures.moves.later, c.in-Some.ensures.moves.ready.later);
  ends = omega (arith, c.negating.invariant.ends, c.negating.invariant.ready.later, c.in-Some.ensures.moves.later);
  nots = not_read c.negating.invariant.nots _ c.in-Some.ensures.takes
      (c.in_ok-wait_not.ensures.waits ∙ ap (λ (p : Pos). with_not p.byte (stack_of c.negating.waiting)) c.begin.ensures)
      c.negating.invariant.later c.negating.invariant.ready.later c.in-Some.ensures.moves.later;
}

pub returns-clause-takes : goal.returns-clause-takes
returns-clause-takes g c = nots_read c.negating.invariant.nots (sym c.if-not-takes_not.ensures) c.in_default.ensures.takes

pub returns-in_err-wait_not-clause-takes : goal.returns-in_err-wait_not-clause-takes
returns-in_err-wait_not-clause-takes g c = nots_refused _ _ _ _ _ _ _ c.from_residual.ensures.1 (
  sym c.if-not-takes_not.ensures,
  not_comes c.negating.invariant.nots c.in-Some.ensures.takes,
)
