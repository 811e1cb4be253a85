use Rattle.starlark_passes.proofs.ReplaceLemmas.PartLaws.{both_law, clause_law, for_law, pair_law}
use Rattle.starlark_passes.proofs.ReplaceLemmas.Loops.{each_lawful}
use Rattle.starlark_passes.proofs.ReplaceLemmas.Steps.{joined, stopped}
use Rattle.starlark_passes.proofs.replace.rules.Rules.dict_comprehension.Goals as goal

pub returns-in_err-for_clause : goal.returns-in_err-for_clause
returns-in_err-for_clause g c = stopped (both_law _ (each_lawful _ _ (clause_law _)) (pair_law _)) c.in_err-for_clause.ensures _ c.from_residual.result
    c.from_residual.ensures.0

pub returns-in_err-clauses : goal.returns-in_err-clauses
returns-in_err-clauses g c = joined (for_law _) c.in_ok-for_clause.ensures
    (stopped (pair_law _) c.in_err-clauses.ensures _ c.from_residual-in_err-clauses.result c.from_residual-in_err-clauses.ensures.0)

pub returns : goal.returns
returns g c = joined (for_law _) c.in_ok-for_clause.ensures (joined (each_lawful _ _ (clause_law _)) c.in_ok-clauses.ensures c.pair.ensures)
