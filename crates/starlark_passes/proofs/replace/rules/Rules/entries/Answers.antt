use Rattle.std.proofs.Common.{arith}
use Rattle.starlark_tree.specs.Views.{pair_of}
use Rattle.starlark_passes.specs.Replace.Replacing.{table_of}
use Rattle.starlark_passes.proofs.ReplaceLemmas.Entered.{at_next}
use Rattle.starlark_passes.proofs.ReplaceLemmas.Loops.{none_yet, one_more, stops_at, all_done}
use Rattle.starlark_passes.proofs.ReplaceLemmas.PartLaws.{pair_law}
use Rattle.starlark_passes.proofs.replace.rules.Rules.entries.Goals as goal

pub loop-entry-init : goal.loop-entry-init
loop-entry-init g c = none_yet (pair_law (table_of c.args.self.now.replacements.now)) pair_of c.args.entries.now

pub pair-requires : goal.pair-requires
pair-requires g c = at_next (pair_law (table_of c.args.self.now.replacements.now)) pair_of c.args.entries.now c.loop-entry.entry-index c.loop-entry.entries
    c.entry-item.result (omega arith) c.loop-entry.invariant c.requires

pub returns-in_err-pair : goal.returns-in_err-pair
returns-in_err-pair g c = stops_at (pair_law (table_of c.args.self.now.replacements.now)) pair_of c.args.entries.now c.loop-entry.entry-index
    c.loop-entry.entries c.entry-item.result c.pair.new.parts c.from_residual.result c.from_residual.ensures.0 (omega arith) c.loop-entry.invariant
    c.in_err-pair.ensures

pub loop-entry-preserved : goal.loop-entry-preserved
loop-entry-preserved g c = one_more (pair_law (table_of c.args.self.now.replacements.now)) pair_of c.args.entries.now c.loop-entry.entry-index
    c.loop-entry.entries c.entry-item.result c.pair.new.parts c.in_ok-pair.field-0 (omega arith) c.loop-entry.invariant c.in_ok-pair.ensures

pub returns : goal.returns
returns g c = all_done (pair_law (table_of c.args.self.now.replacements.now)) pair_of c.args.entries.now c.loop-entry.entry-index c.loop-entry.entries tt
    (omega arith) c.loop-entry.invariant
