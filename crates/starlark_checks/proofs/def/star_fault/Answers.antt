use Rattle.std.proofs.lemmas.List.{at_drop_all}
use Rattle.std.proofs.Common.{◌+◌, ◌∙◌, ap, option_map, sym, map}
use Rattle.starlark_tree.specs.Views.{parameter_of}
use Rattle.starlark_checks.specs.Parameters.{star_alone, star_fault}
use Rattle.starlark_checks.specs.Walks.Parameters.{fault_of}
use Rattle.starlark_checks.proofs.ParameterForms.{got_at, nothing_made, star_later, star_now}
use Rattle.starlark_checks.proofs.def.star_fault.Goals as goal

pub loop-i-preserved : goal.loop-i-preserved
loop-i-preserved g c =
    let here = c.star_alone.ensures ∙ ap (λ o. star_alone (parameter_of c.index-params-i.result) (option_map parameter_of o))
    (got_at c.get.result c.args.params.now (c.loop-i.i + 1) c.get.ensures.lookup.0 c.get.ensures.lookup.1) in
    sym (star_later c.args.params.now c.loop-i.i c.index-params-i.result c.loop-i-test.true c.index-params-i.is here
    (nothing_made fault_of c.star_alone.result c.in_default.not-Some)) ∙ c.loop-i.invariant

pub returns-in-Some : goal.returns-in-Some
returns-in-Some g c =
    let here = c.star_alone.ensures ∙ ap (λ o. star_alone (parameter_of c.index-params-i.result) (option_map parameter_of o))
    (got_at c.get.result c.args.params.now (c.loop-i.i + 1) c.get.ensures.lookup.0 c.get.ensures.lookup.1) in
    sym (star_now c.args.params.now c.loop-i.i c.index-params-i.result c.loop-i-test.true c.index-params-i.is (ap (option_map fault_of) (sym c.in-Some.is)
    ∙ here)) ∙ c.loop-i.invariant

pub returns : goal.returns
returns g c = sym (at_drop_all (λ es. star_fault (map parameter_of es)) c.args.params.now c.loop-i.i c.loop-i-test.false) ∙ c.loop-i.invariant
