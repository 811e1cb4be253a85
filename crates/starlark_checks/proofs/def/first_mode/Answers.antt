use Rattle.std.proofs.lemmas.List.{take_all}
use Rattle.std.specs.List.{list_any}
use Rattle.std.proofs.Common.{ap, sym, map, ◌∙◌}
use Rattle.std.specs.Prelude.{if◌then◌else◌}
use Rattle.starlark_lexer.specs.Tokens.{span_of}
use Rattle.starlark_tree.specs.Views.{parameter_seen, parameter_of}
use Rattle.starlark_checks.specs.Parameters.{is_slash}
use Rattle.starlark_checks.specs.declared.def.DefRegularParamMode.TheVariants.{PosOnly, PosOrName}
use Rattle.starlark_checks.proofs.ParameterForms.{any_here, none_here, not_slash}
use Rattle.starlark_checks.proofs.def.first_mode.Goals as goal

pub returns-in-Slash : goal.returns-in-Slash
returns-in-Slash g c =
    let at = c.loop-param in
    let a = c.param-item.result in
    let here = ap (λ n. is_slash (parameter_seen (span_of a.span) n)) c.in-Slash.is in
    sym (ap (λ b. if b then PosOnly else PosOrName) (any_here c.args.params.now at.param-index a c.loop-param-test.true c.param-item.is is_slash here))

pub loop-param-preserved : goal.loop-param-preserved
loop-param-preserved g c =
    let at = c.loop-param in
    let a = c.param-item.result in
    none_here c.args.params.now at.param-index a c.loop-param-test.true c.param-item.is is_slash at.invariant
    (not_slash (span_of a.span) a.node c.in_default.not-Slash)

pub returns : goal.returns
returns g c =
    sym (ap (λ b. if b then PosOnly else PosOrName) (ap (λ es. list_any is_slash (map parameter_of es))
    (sym (take_all c.loop-param.param-index c.args.params.now c.loop-param-test.false)) ∙ c.loop-param.invariant))
