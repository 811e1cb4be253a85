use Rattle.std.proofs.Common.{◌+◌, map}
use Rattle.starlark_tree.specs.Ast.{targets_of}
use Rattle.starlark_tree.specs.Views.{target_of}
use Rattle.starlark_passes.specs.Replace.Replacing.{table_of}
use Rattle.starlark_passes.proofs.ReplaceLemmas.Loops.{SoFar}
use Rattle.starlark_passes.proofs.ReplaceLemmas.PartLaws.{target_law}
use Rattle.starlark_passes.proofs.ReplaceLemmas.TargetSizes.{target_size, targets_size}
use Rattle.starlark_passes.proofs.replace.rules.Rules.+target.Given as goal

abbrev pub decreases-target : goal.decreases-target
decreases-target g l = target_size (target_of l.target.now)

abbrev pub decreases-targets : goal.decreases-targets
decreases-targets g l = 1 + targets_size (targets_of (map target_of l.targets.now))

abbrev pub invariant-targets-loop-target : goal.invariant-targets-loop-target
invariant-targets-loop-target g l = SoFar (target_law (table_of l.self.replacements.now)) target_of l.fn.targets l.target-index l.targets
