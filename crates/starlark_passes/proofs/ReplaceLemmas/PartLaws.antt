-- What holds for each kind of part.
use Rattle.std.proofs.Common.{◌≡◌, ℕ, ◌-◌, ◌+◌, ◌≤◌, ◌++◌, List, refl, arith}
use Rattle.starlark_passes.specs.Replace.Replacing.{Table, named}
use Rattle.starlark_passes.specs.Replace.Parts.{Part, both, each, an_expression, a_pair, a_maybe, a_type, an_argument, a_parameter, a_for, a_clause, a_target}
use Rattle.starlark_passes.specs.Replace.Parts.{a_statement}
use Rattle.starlark_passes.proofs.ReplaceLemmas.Laws
use Rattle.starlark_passes.proofs.ReplaceLemmas.Laws.{front, back}
use Rattle.starlark_passes.proofs.ReplaceLemmas.Steps.{Lawful}

module _ (table : Table) where
  pub expression_law : Lawful table (an_expression table)
  expression_law = record { none = Laws.none-expression table; same = Laws.same-expression table }

  pub maybe_law : Lawful table (a_maybe table)
  maybe_law = record { none = Laws.none-maybe table; same = Laws.same-maybe table }

  pub type_law : Lawful table (a_type table)
  type_law = record { none = Laws.none-type table; same = Laws.same-type table }

  pub argument_law : Lawful table (an_argument table)
  argument_law = record { none = Laws.none-argument table; same = Laws.same-argument table }

  pub parameter_law : Lawful table (a_parameter table)
  parameter_law = record { none = Laws.none-parameter table; same = Laws.same-parameter table }

  pub for_law : Lawful table (a_for table)
  for_law = record { none = Laws.none-for table; same = Laws.same-for table }

  pub clause_law : Lawful table (a_clause table)
  clause_law = record { none = Laws.none-clause table; same = Laws.same-clause table }

  pub target_law : Lawful table (a_target table)
  target_law = record { none = Laws.none-target table; same = Laws.same-target table }

  pub statement_law : Lawful table (a_statement table)
  statement_law = record { none = Laws.none-statement table; same = Laws.same-statement table }

  pub both_law : {X Y : Type 0} {p : Part X} {q : Part Y} → Lawful table p → Lawful table q → Lawful table (both table p q)
  both_law {p} {q} l m = record {
    none = λ k h x. let less : k - named table (p.inside x.0) ≡ 0 = omega arith in λ i. (l.none k h x.0 i, m.none (k - named table (p.inside x.0)) less x.1 i);
    same =
        λ j k x hj hk. λ i. (
          l.same j k x.0 (front table (p.inside x.0) (q.inside x.1) j hj) (front table (p.inside x.0) (q.inside x.1) k hk) i,
          m.same (j - named table (p.inside x.0)) (k - named table (p.inside x.0)) x.1 (back table (p.inside x.0) (q.inside x.1) j hj)
              (back table (p.inside x.0) (q.inside x.1) k hk) i,
        );
  }

  pub pair_law : Lawful table (a_pair table)
  pair_law = both_law expression_law expression_law
