use Rattle.starlark_tree.specs.Views.{expression_of}
use Rattle.starlark_passes.specs.Replace.Replacing.{table_of}
use Rattle.starlark_passes.proofs.ReplaceLemmas.Loops.{SoFar}
use Rattle.starlark_passes.proofs.ReplaceLemmas.PartLaws.{expression_law}
use Rattle.starlark_passes.proofs.replace.rules.Rules.each.Given as goal

abbrev pub invariant-loop-expr : goal.invariant-loop-expr
invariant-loop-expr g l = SoFar (expression_law (table_of l.self.replacements.now)) expression_of l.fn.exprs l.expr-index l.exprs
