use Rattle.std.proofs.Common.{arith}
use Rattle.starlark_tree.specs.Views.{statement_of}
use Rattle.starlark_passes.specs.Replace.Replacing.{table_of}
use Rattle.starlark_passes.proofs.ReplaceLemmas.Entered.{at_next_statement}
use Rattle.starlark_passes.proofs.ReplaceLemmas.Loops.{none_yet, one_more, stops_at, all_done}
use Rattle.starlark_passes.proofs.ReplaceLemmas.PartLaws.{statement_law}
use Rattle.starlark_passes.proofs.replace.statement.Blocks.each.Goals as goal

pub loop-statement-init : goal.loop-statement-init
loop-statement-init g c = none_yet (statement_law (table_of c.args.self.now.replacements.now)) statement_of c.args.statements.now

pub one-requires : goal.one-requires
one-requires g c = at_next_statement (statement_law (table_of c.args.self.now.replacements.now)) statement_of c.args.statements.now
    c.loop-statement.statement-index c.loop-statement.statements c.statement-item.result (omega arith) c.loop-statement.invariant c.requires

pub returns-in_err-one : goal.returns-in_err-one
returns-in_err-one g c = stops_at (statement_law (table_of c.args.self.now.replacements.now)) statement_of c.args.statements.now
    c.loop-statement.statement-index c.loop-statement.statements c.statement-item.result c.one.new.statement c.from_residual.result c.from_residual.ensures.0
    (omega arith) c.loop-statement.invariant c.in_err-one.ensures

pub loop-statement-preserved : goal.loop-statement-preserved
loop-statement-preserved g c = one_more (statement_law (table_of c.args.self.now.replacements.now)) statement_of c.args.statements.now
    c.loop-statement.statement-index c.loop-statement.statements c.statement-item.result c.one.new.statement c.in_ok-one.field-0
    (omega arith) c.loop-statement.invariant c.in_ok-one.ensures

pub returns : goal.returns
returns g c = all_done (statement_law (table_of c.args.self.now.replacements.now)) statement_of c.args.statements.now c.loop-statement.statement-index
    c.loop-statement.statements tt (omega arith) c.loop-statement.invariant
