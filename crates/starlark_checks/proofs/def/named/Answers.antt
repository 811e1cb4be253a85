use Rattle.std.proofs.Common.{◌∙◌, ap, sym, map}
use Rattle.std.specs.Prelude.{option_map}
use Rattle.starlark_tree.specs.Views.{parameter_of}
use Rattle.starlark_checks.specs.Parameters.{named, named_of, unmarked}
use Rattle.starlark_checks.proofs.ParameterForms.{all_named, joined_none, joined_some, mode_more}
use Rattle.starlark_checks.proofs.def.named.Goals as goal
use Rattle.starlark_checks.proofs.def.named.Goals.{in-Some+in_ok-push, in_default}

pub loop-param-preserved : goal.loop-param-preserved
loop-param-preserved g c =
    let at = c.loop-param in
    let made = c.unmarked.ensures ∙ ap (λ m. unmarked m (parameter_of c.param-item.result)) c.mode_after-mode.ensures in
    record {
      passed = c.mode_after-mode.ensures ∙ mode_more c.args.params.now at.param-index c.param-item.result c.loop-param-test.true c.param-item.is c.requires
          at.mode at.invariant.passed;
      joined = elim c.match-unmarked.branch [
        | in-Some+in_ok-push w ↦ rw (w.named-is, w.in_ok-push.ensures.items)
            (joined_some c.args.params.now at.param-index c.param-item.result c.loop-param-test.true c.param-item.is c.requires at.mode at.named.items
            w.in-Some.param
            (named (map parameter_of c.args.params.now)) at.invariant.passed (sym (ap (option_map named_of) w.in-Some.is) ∙ made) at.invariant.joined)
        | in_default w ↦ rw w.named-is
            (joined_none c.args.params.now at.param-index c.param-item.result c.loop-param-test.true c.param-item.is c.requires at.mode at.named.items
            (named (map parameter_of c.args.params.now)) at.invariant.passed (sym (ap (option_map named_of) w.in_default.is) ∙ made) at.invariant.joined)
      ];
    }

pub returns : goal.returns
returns g c = all_named c.args.params.now c.loop-param.param-index c.loop-param.named.items (named (map parameter_of c.args.params.now))
    c.loop-param-test.false c.loop-param.invariant.joined
