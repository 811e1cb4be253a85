use Rattle.std.proofs.Common.{◌∙◌, ◌≤◌}
use Rattle.std.proofs.lemmas.List.Elements.{All-pop}
use Rattle.starlark_parse_held.specs.Held.{other_of, statement_of}
use Rattle.starlark_parse.proofs.StmtLemmas.Branches.{chain_more}
use Rattle.starlark_parse.proofs.stmt.compound.chained.Goals as goal

pub chaining-preserved : goal.chaining-preserved
chaining-preserved c = record {
  begins = (All-pop (λ b. b.begin.byte ≤ c.args.end.byte) _ _ _ c.pop.ensures.items c.chaining.invariant.begins).0;
  same = chain_more c.chaining.branches.items c.pop.new.self.items c.in-Some.branch (other_of c.chaining.other) (statement_of c.in_ok-if_statement.field-0)
      c.args.end.byte c.in-Some.ensures.items c.in_ok-if_statement.ensures
      ∙ c.chaining.invariant.same;
}
