use Rattle.std.proofs.Common.{◌∙◌, ap, sym, arith}
use Rattle.starlark_checks.specs.Parameters.{are_kwargs, named_of, takes_kwargs, takes_of}
use Rattle.starlark_checks.proofs.ParameterForms.{found_here, found_later, found_nowhere, not_kwargs}
use Rattle.starlark_checks.proofs.def.kwargs_place.Goals as goal

pub loop-param-preserved : goal.loop-param-preserved
loop-param-preserved g c =
    let at = c.loop-param in
    let a = c.param-item.result in
    let now = at.invariant.counted in
    record {
      counted = omega arith;
      found = sym (found_later named_of c.args.params.now at.param-index a c.loop-param-test.true c.param-item.is takes_kwargs at.place
          (not_kwargs a.node.kind c.in_default.not-Kwargs)) ∙ at.invariant.found;
    }

pub returns-in-Kwargs : goal.returns-in-Kwargs
returns-in-Kwargs g c =
    let at = c.loop-param in
    let a = c.param-item.result in
    sym (found_here named_of c.args.params.now at.param-index a c.loop-param-test.true c.param-item.is takes_kwargs at.place
    (ap (λ k. are_kwargs (takes_of k)) c.in-Kwargs.is)) ∙ at.invariant.found

pub returns : goal.returns
returns g c =
    let at = c.loop-param in
    sym (found_nowhere named_of c.args.params.now at.param-index takes_kwargs at.place c.loop-param-test.false) ∙ at.invariant.found
