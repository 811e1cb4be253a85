use Rattle.std.proofs.Common.{◌∙◌, ap, sym, arith}
use Rattle.starlark_checks.specs.Parameters.{are_args, named_of, takes_args, takes_of}
use Rattle.starlark_checks.proofs.ParameterForms.{found_here, found_later, found_nowhere, not_args}
use Rattle.starlark_checks.proofs.def.args_place.Goals as goal

pub loop-param-preserved : goal.loop-param-preserved
loop-param-preserved g c =
    let at = c.loop-param in
    let a = c.param-item.result in
    let now = at.invariant.counted in
    record {
      counted = omega arith;
      found = sym (found_later named_of c.args.params.now at.param-index a c.loop-param-test.true c.param-item.is takes_args at.place
          (not_args a.node.kind c.in_default.not-Args)) ∙ at.invariant.found;
    }

pub returns-in-Args : goal.returns-in-Args
returns-in-Args g c =
    let at = c.loop-param in
    let a = c.param-item.result in
    sym (found_here named_of c.args.params.now at.param-index a c.loop-param-test.true c.param-item.is takes_args at.place
    (ap (λ k. are_args (takes_of k)) c.in-Args.is)) ∙ at.invariant.found

pub returns : goal.returns
returns g c =
    let at = c.loop-param in
    sym (found_nowhere named_of c.args.params.now at.param-index takes_args at.place c.loop-param-test.false) ∙ at.invariant.found
