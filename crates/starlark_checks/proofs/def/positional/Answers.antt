use Rattle.starlark_checks.proofs.PositionalForms.{all_counted, one_within, plain_counted, rest_counted, slash_counted, still_within}
use Rattle.starlark_checks.proofs.def.positional.Goals as goal
use Rattle.starlark_checks.proofs.def.positional.Goals.{in-Normal, in-Slash}

pub loop-param-preserved : goal.loop-param-preserved
loop-param-preserved g c =
    let at = c.loop-param in
    elim c.match-param.branch [
      | in-Normal w ↦
          record {
            within = rw w.count-is (one_within at.count at.param-index at.invariant.within);
            counted = rw w.count-is (plain_counted c.args.params.now at.param-index at.count _ at.invariant.counted c.param-item.result c.loop-param-test.true
                c.param-item.is w.in-Normal.is);
          }
      | in-Slash w ↦
          record {
            within = rw w.count-is (still_within at.count at.param-index at.invariant.within);
            counted = rw w.count-is (slash_counted c.args.params.now at.param-index at.count _ at.invariant.counted c.param-item.result c.loop-param-test.true
                c.param-item.is w.in-Slash.is);
          }
    ]

pub returns : goal.returns
returns g c = all_counted c.args.params.now c.loop-param.param-index c.loop-param.count _ c.loop-param.invariant.counted c.loop-param-test.false

pub returns-in-NoArgs : goal.returns-in-NoArgs
returns-in-NoArgs g c =
    rest_counted c.args.params.now c.loop-param.param-index c.loop-param.count _ c.loop-param.invariant.counted c.param-item.result c.loop-param-test.true
    c.param-item.is c.in-NoArgs.is

pub returns-in-NoArgs-2 : goal.returns-in-NoArgs-2
returns-in-NoArgs-2 g c =
    rest_counted c.args.params.now c.loop-param.param-index c.loop-param.count _ c.loop-param.invariant.counted c.param-item.result c.loop-param-test.true
    c.param-item.is c.in-NoArgs.is

pub returns-in-NoArgs-3 : goal.returns-in-NoArgs-3
returns-in-NoArgs-3 g c =
    rest_counted c.args.params.now c.loop-param.param-index c.loop-param.count _ c.loop-param.invariant.counted c.param-item.result c.loop-param-test.true
    c.param-item.is c.in-NoArgs.is
