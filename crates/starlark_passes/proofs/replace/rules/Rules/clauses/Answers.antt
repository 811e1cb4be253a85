use Rattle.std.proofs.Common.{arith}
use Rattle.starlark_tree.specs.Views.{clause_seen}
use Rattle.starlark_passes.specs.Replace.Replacing.{table_of}
use Rattle.starlark_passes.proofs.ReplaceLemmas.Entered.{at_next}
use Rattle.starlark_passes.proofs.ReplaceLemmas.Loops.{none_yet, one_more, stops_at, all_done}
use Rattle.starlark_passes.proofs.ReplaceLemmas.PartLaws.{clause_law}
use Rattle.starlark_passes.proofs.replace.rules.Rules.clauses.Goals as goal

pub loop-clause-init : goal.loop-clause-init
loop-clause-init g c = none_yet (clause_law (table_of c.args.self.now.replacements.now)) clause_seen c.args.clauses.now

pub clause-requires : goal.clause-requires
clause-requires g c = at_next (clause_law (table_of c.args.self.now.replacements.now)) clause_seen c.args.clauses.now c.loop-clause.clause-index
    c.loop-clause.clauses c.clause-item.result (omega arith) c.loop-clause.invariant c.requires

pub returns-in_err-clause : goal.returns-in_err-clause
returns-in_err-clause g c = stops_at (clause_law (table_of c.args.self.now.replacements.now)) clause_seen c.args.clauses.now c.loop-clause.clause-index
    c.loop-clause.clauses c.clause-item.result c.clause.new.clause c.from_residual.result c.from_residual.ensures.0 (omega arith) c.loop-clause.invariant
    c.in_err-clause.ensures

pub loop-clause-preserved : goal.loop-clause-preserved
loop-clause-preserved g c = one_more (clause_law (table_of c.args.self.now.replacements.now)) clause_seen c.args.clauses.now c.loop-clause.clause-index
    c.loop-clause.clauses c.clause-item.result c.clause.new.clause c.in_ok-clause.field-0 (omega arith) c.loop-clause.invariant c.in_ok-clause.ensures

pub returns : goal.returns
returns g c = all_done (clause_law (table_of c.args.self.now.replacements.now)) clause_seen c.args.clauses.now c.loop-clause.clause-index
    c.loop-clause.clauses tt (omega arith) c.loop-clause.invariant
