use Rattle.std.proofs.Common.{rules, ◌-◌, ℕ, leb, arith}
use Rattle.std.proofs.lemmas.Bool.{leb-true, leb-false}
use Rattle.std.proofs.lemmas.List.Sorted.{IsPartitionPoint-from_clause, IsPartitionedBy-leb}
use Rattle.starlark_lexer.proofs.codemap.begins_up_to.Goals as goal

pub returns-clause-below : goal.returns-clause-below
returns-clause-below c =
    let point = IsPartitionPoint-from_clause (λ (begin : ℕ). leb begin c.args.at) _ _ c.partition_point.ensures.partitioned
    (IsPartitionedBy-leb (λ (begin : ℕ). begin) c.args.begins.now c.args.at c.requires) (λ a r q k. search rules) in
    λ some. leb-true _ _ (point.0 (c.partition_point.result - 1) 0 (omega arith) (omega (arith, some)))

pub returns-clause-above : goal.returns-clause-above
returns-clause-above c =
    let point = IsPartitionPoint-from_clause (λ (begin : ℕ). leb begin c.args.at) _ _ c.partition_point.ensures.partitioned
    (IsPartitionedBy-leb (λ (begin : ℕ). begin) c.args.begins.now c.args.at c.requires) (λ a r q k. search rules) in
    λ within. leb-false _ _ (point.1 c.partition_point.result 0 (omega arith) within)
