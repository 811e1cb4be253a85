use Rattle.starlark_tree.specs.Views.{statement_of}
use Rattle.starlark_passes.specs.Replace.Replacing.{table_of}
use Rattle.starlark_passes.proofs.ReplaceLemmas.Loops.{SoFar}
use Rattle.starlark_passes.proofs.ReplaceLemmas.PartLaws.{statement_law}
use Rattle.starlark_passes.proofs.replace.statement.Blocks.each.Given as goal

abbrev pub invariant-loop-statement : goal.invariant-loop-statement
invariant-loop-statement g l = SoFar (statement_law (table_of l.self.replacements.now)) statement_of l.fn.statements l.statement-index l.statements
