use Rattle.starlark_tree.specs.Views.{argument_of}
use Rattle.starlark_passes.specs.Replace.Replacing.{table_of}
use Rattle.starlark_passes.proofs.ReplaceLemmas.Loops.{SoFar}
use Rattle.starlark_passes.proofs.ReplaceLemmas.PartLaws.{argument_law}
use Rattle.starlark_passes.proofs.replace.rules.Rules.arguments.Given as goal

abbrev pub invariant-loop-argument : goal.invariant-loop-argument
invariant-loop-argument g l = SoFar (argument_law (table_of l.self.replacements.now)) argument_of l.fn.arguments l.argument-index l.arguments
