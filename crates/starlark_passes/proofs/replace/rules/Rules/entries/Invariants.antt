use Rattle.starlark_tree.specs.Views.{pair_of}
use Rattle.starlark_passes.specs.Replace.Replacing.{table_of}
use Rattle.starlark_passes.proofs.ReplaceLemmas.Loops.{SoFar}
use Rattle.starlark_passes.proofs.ReplaceLemmas.PartLaws.{pair_law}
use Rattle.starlark_passes.proofs.replace.rules.Rules.entries.Given as goal

abbrev pub invariant-loop-entry : goal.invariant-loop-entry
invariant-loop-entry g l = SoFar (pair_law (table_of l.self.replacements.now)) pair_of l.fn.entries l.entry-index l.entries
