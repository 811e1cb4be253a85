use Rattle.starlark_tree.specs.Views.{clause_seen}
use Rattle.starlark_passes.specs.Replace.Replacing.{table_of}
use Rattle.starlark_passes.proofs.ReplaceLemmas.Loops.{SoFar}
use Rattle.starlark_passes.proofs.ReplaceLemmas.PartLaws.{clause_law}
use Rattle.starlark_passes.proofs.replace.rules.Rules.clauses.Given as goal

abbrev pub invariant-loop-clause : goal.invariant-loop-clause
invariant-loop-clause g l = SoFar (clause_law (table_of l.self.replacements.now)) clause_seen l.fn.clauses l.clause-index l.clauses
