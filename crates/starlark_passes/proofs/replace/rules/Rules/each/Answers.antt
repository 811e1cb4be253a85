use Rattle.std.proofs.Common.{arith}
use Rattle.starlark_tree.specs.Views.{expression_of}
use Rattle.starlark_passes.specs.Replace.Replacing.{table_of}
use Rattle.starlark_passes.proofs.ReplaceLemmas.Entered.{at_next}
use Rattle.starlark_passes.proofs.ReplaceLemmas.Loops.{none_yet, one_more, stops_at, all_done}
use Rattle.starlark_passes.proofs.ReplaceLemmas.PartLaws.{expression_law}
use Rattle.starlark_passes.proofs.replace.rules.Rules.each.Goals as goal

pub loop-expr-init : goal.loop-expr-init
loop-expr-init g c = none_yet (expression_law (table_of c.args.self.now.replacements.now)) expression_of c.args.exprs.now

pub one-requires : goal.one-requires
one-requires g c = at_next (expression_law (table_of c.args.self.now.replacements.now)) expression_of c.args.exprs.now c.loop-expr.expr-index
    c.loop-expr.exprs c.expr-item.result (omega arith) c.loop-expr.invariant c.requires

pub returns-in_err-one : goal.returns-in_err-one
returns-in_err-one g c = stops_at (expression_law (table_of c.args.self.now.replacements.now)) expression_of c.args.exprs.now c.loop-expr.expr-index
    c.loop-expr.exprs c.expr-item.result c.one.new.expr c.from_residual.result c.from_residual.ensures.0 (omega arith) c.loop-expr.invariant
    c.in_err-one.ensures

pub loop-expr-preserved : goal.loop-expr-preserved
loop-expr-preserved g c = one_more (expression_law (table_of c.args.self.now.replacements.now)) expression_of c.args.exprs.now c.loop-expr.expr-index
    c.loop-expr.exprs c.expr-item.result c.one.new.expr c.in_ok-one.field-0 (omega arith) c.loop-expr.invariant c.in_ok-one.ensures

pub returns : goal.returns
returns g c = all_done (expression_law (table_of c.args.self.now.replacements.now)) expression_of c.args.exprs.now c.loop-expr.expr-index c.loop-expr.exprs tt
    (omega arith) c.loop-expr.invariant
