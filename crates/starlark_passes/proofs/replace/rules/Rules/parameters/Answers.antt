use Rattle.std.proofs.Common.{arith}
use Rattle.starlark_tree.specs.Views.{parameter_of}
use Rattle.starlark_passes.specs.Replace.Replacing.{table_of}
use Rattle.starlark_passes.proofs.ReplaceLemmas.Entered.{at_next}
use Rattle.starlark_passes.proofs.ReplaceLemmas.Loops.{none_yet, one_more, stops_at, all_done}
use Rattle.starlark_passes.proofs.ReplaceLemmas.PartLaws.{parameter_law}
use Rattle.starlark_passes.proofs.replace.rules.Rules.parameters.Goals as goal

pub loop-parameter-init : goal.loop-parameter-init
loop-parameter-init g c = none_yet (parameter_law (table_of c.args.self.now.replacements.now)) parameter_of c.args.parameters.now

pub parameter-requires : goal.parameter-requires
parameter-requires g c = at_next (parameter_law (table_of c.args.self.now.replacements.now)) parameter_of c.args.parameters.now
    c.loop-parameter.parameter-index c.loop-parameter.parameters c.parameter-item.result (omega arith) c.loop-parameter.invariant c.requires

pub returns-in_err-parameter : goal.returns-in_err-parameter
returns-in_err-parameter g c = stops_at (parameter_law (table_of c.args.self.now.replacements.now)) parameter_of c.args.parameters.now
    c.loop-parameter.parameter-index c.loop-parameter.parameters c.parameter-item.result c.parameter.new.parameter c.from_residual.result
    c.from_residual.ensures.0 (omega arith) c.loop-parameter.invariant c.in_err-parameter.ensures

pub loop-parameter-preserved : goal.loop-parameter-preserved
loop-parameter-preserved g c = one_more (parameter_law (table_of c.args.self.now.replacements.now)) parameter_of c.args.parameters.now
    c.loop-parameter.parameter-index c.loop-parameter.parameters c.parameter-item.result c.parameter.new.parameter c.in_ok-parameter.field-0
    (omega arith) c.loop-parameter.invariant c.in_ok-parameter.ensures

pub returns : goal.returns
returns g c = all_done (parameter_law (table_of c.args.self.now.replacements.now)) parameter_of c.args.parameters.now c.loop-parameter.parameter-index
    c.loop-parameter.parameters tt (omega arith) c.loop-parameter.invariant
