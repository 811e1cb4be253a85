use Rattle.starlark_parse.specs.Expr.Operating.{TakesOperator.one_token}
use Rattle.starlark_parse.proofs.ExprLemmas.Operators.{operator_is_token, two_taken, in_refused}
use Rattle.starlark_parse.proofs.expr.binary.take_operator.Goals as goal

pub returns-in_default-clause-takes : goal.returns-in_default-clause-takes
returns-in_default-clause-takes g c = absurd (c.in_default.ensures.takes.1 (operator_is_token _ c.requires.operator))

pub returns-in_err-_in-in-NotIn-clause-takes : goal.returns-in_err-_in-in-NotIn-clause-takes
returns-in_err-_in-in-NotIn-clause-takes g c = in_refused c.requires.operator c.in-Some.ensures.takes.1 _ _ c.in-NotIn.is c.from_residual.ensures.1
    c.in_err-_in-in-NotIn.ensures.expects

pub returns-in_ok-_in-in-NotIn-clause-takes : goal.returns-in_ok-_in-in-NotIn-clause-takes
returns-in_ok-_in-in-NotIn-clause-takes g c = two_taken c.requires.operator c.in-Some.ensures.takes.1 c.in-NotIn.is c.in_ok-_in-in-NotIn.ensures.expects

pub returns-in_default-operator : goal.returns-in_default-operator
returns-in_default-operator g c = record {
  moves = record {
    same_reference = c.in-Some.ensures.moves.same_reference;
    ready = c.in-Some.ensures.moves.ready;
    fewer = c.in-Some.ensures.moves.fewer;
    later = c.in-Some.ensures.moves.later;
  };
  takes = one_token c.in-Some.ensures.takes.1 c.in_default-operator.not-NotIn;
}
