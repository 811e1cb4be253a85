use Rattle.std.proofs.Common.{◌∙◌, ap, sym, arith}
use Rattle.std.specs.Option.{unwrap_or}
use Rattle.starlark_lexer.specs.Tokens.{span_of}
use Rattle.starlark_tree.specs.Views.{parameter_of, parameter_seen}
use Rattle.starlark_checks.specs.Parameters.{is_slash}
use Rattle.starlark_checks.proofs.ParameterForms.{found_here, found_later, found_nowhere, not_slash}
use Rattle.starlark_checks.proofs.def.positional_only.Goals as goal

pub loop-param-preserved : goal.loop-param-preserved
loop-param-preserved g c =
    let at = c.loop-param in
    let a = c.param-item.result in
    let now = at.invariant.counted in
    record {
      counted = omega arith;
      found = sym (found_later parameter_of c.args.params.now at.param-index a c.loop-param-test.true c.param-item.is is_slash at.count
          (not_slash (span_of a.span) a.node c.in_default.not-Slash)) ∙ at.invariant.found;
    }

pub returns-in-Slash : goal.returns-in-Slash
returns-in-Slash g c =
    let at = c.loop-param in
    let a = c.param-item.result in
    ap (λ o. unwrap_or o 0) (sym (found_here parameter_of c.args.params.now at.param-index a c.loop-param-test.true c.param-item.is is_slash at.count
    (ap (λ n. is_slash (parameter_seen (span_of a.span) n)) c.in-Slash.is)) ∙ at.invariant.found)

pub returns : goal.returns
returns g c =
    let at = c.loop-param in
    ap (λ o. unwrap_or o 0)
    (sym (found_nowhere parameter_of c.args.params.now at.param-index is_slash at.count c.loop-param-test.false) ∙ at.invariant.found)
