use Rattle.std.proofs.Common.{arith}
use Rattle.starlark_tree.specs.Views.{argument_of}
use Rattle.starlark_passes.specs.Replace.Replacing.{table_of}
use Rattle.starlark_passes.proofs.ReplaceLemmas.Entered.{at_next}
use Rattle.starlark_passes.proofs.ReplaceLemmas.Loops.{none_yet, one_more, stops_at, all_done}
use Rattle.starlark_passes.proofs.ReplaceLemmas.PartLaws.{argument_law}
use Rattle.starlark_passes.proofs.replace.rules.Rules.arguments.Goals as goal

pub loop-argument-init : goal.loop-argument-init
loop-argument-init g c = none_yet (argument_law (table_of c.args.self.now.replacements.now)) argument_of c.args.arguments.now

pub argument-requires : goal.argument-requires
argument-requires g c = at_next (argument_law (table_of c.args.self.now.replacements.now)) argument_of c.args.arguments.now c.loop-argument.argument-index
    c.loop-argument.arguments c.argument-item.result (omega arith) c.loop-argument.invariant c.requires

pub returns-in_err-argument : goal.returns-in_err-argument
returns-in_err-argument g c = stops_at (argument_law (table_of c.args.self.now.replacements.now)) argument_of c.args.arguments.now
    c.loop-argument.argument-index c.loop-argument.arguments c.argument-item.result c.argument.new.argument c.from_residual.result c.from_residual.ensures.0
    (omega arith) c.loop-argument.invariant c.in_err-argument.ensures

pub loop-argument-preserved : goal.loop-argument-preserved
loop-argument-preserved g c = one_more (argument_law (table_of c.args.self.now.replacements.now)) argument_of c.args.arguments.now
    c.loop-argument.argument-index c.loop-argument.arguments c.argument-item.result c.argument.new.argument c.in_ok-argument.field-0
    (omega arith) c.loop-argument.invariant c.in_ok-argument.ensures

pub returns : goal.returns
returns g c = all_done (argument_law (table_of c.args.self.now.replacements.now)) argument_of c.args.arguments.now c.loop-argument.argument-index
    c.loop-argument.arguments tt (omega arith) c.loop-argument.invariant
