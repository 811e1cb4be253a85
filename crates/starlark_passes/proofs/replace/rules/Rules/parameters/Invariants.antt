use Rattle.starlark_tree.specs.Views.{parameter_of}
use Rattle.starlark_passes.specs.Replace.Replacing.{table_of}
use Rattle.starlark_passes.proofs.ReplaceLemmas.Loops.{SoFar}
use Rattle.starlark_passes.proofs.ReplaceLemmas.PartLaws.{parameter_law}
use Rattle.starlark_passes.proofs.replace.rules.Rules.parameters.Given as goal

abbrev pub invariant-loop-parameter : goal.invariant-loop-parameter
invariant-loop-parameter g l = SoFar (parameter_law (table_of l.self.replacements.now)) parameter_of l.fn.parameters l.parameter-index l.parameters
