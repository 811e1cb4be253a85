use Rattle.std.proofs.Common.{rules, ◌≡◌, ◌≤◌, [], ◌∷◌, ◌++◌, map, refl, ap, arith}
use Rattle.std.proofs.lemmas.List.Elements.{All-nil, All-same, All-push, All-weaker}
use Rattle.starlark_lexer.specs.declared.span.Pos.{Pos}
use Rattle.starlark_parse_cursor.proofs.Paths.{gives_exits, begin_seen}
use Rattle.starlark_parse.specs.Stmt.Statements.{branch_seen}
use Rattle.starlark_parse.proofs.StmtLemmas.Branches.{seen_more, no_branches, branched_as, branch_fails, branch_wants, branched_more, branched_to, last_fails}
use Rattle.starlark_parse.proofs.StmtLemmas.Branches.{rest_wants, rest_found}
use Rattle.starlark_parse.proofs.stmt.compound.Statements.elifs.Goals as goal

pub reading-init : goal.reading-init
reading-init g c = record {
  same_reference = refl;
  ready = c.requires.ready;
  fewer = omega arith;
  later = omega arith;
  begins = All-same (λ b. b.begin.byte ≤ c.args.cursor.now.end.byte) _ [] c.new-branches.ensures.items (All-nil _);
  branched = branched_as (no_branches _) (ap (map branch_seen) c.new-branches.ensures.items);
}

pub returns-in_err-branch-clause-parses : goal.returns-in_err-branch-clause-parses
returns-in_err-branch-clause-parses g c =
    gives_exits _ _ _ _ _ _ c.from_residual.ensures.1 (branch_fails c.reading.invariant.branched c.in-Some.ensures.takes c.in_err-branch.ensures.parses)

pub returns-in_err-push-clause-parses : goal.returns-in_err-push-clause-parses
returns-in_err-push-clause-parses g c =
    gives_exits _ _ _ _ _ _ c.from_residual-in_err-push.ensures.1 (branch_wants c.reading.invariant.branched c.in-Some.ensures.takes c.in_ok-branch.branch
    c.in_ok-branch.ensures.parses)

pub reading-preserved : goal.reading-preserved
reading-preserved g c =
    let far : c.reading.cursor.end.byte ≤ c.branch-self.new.cursor.end.byte =
    omega (arith, c.reading.invariant.ready.later, c.in-Some.ensures.moves.later, c.in-Some.ensures.moves.ready.later, c.in_ok-branch.ensures.moves.later) in
    let begins_so : c.in_ok-branch.branch.begin.byte ≡ c.in-Some.word.begin.byte = ap (λ (p : Pos). p.byte) c.in_ok-branch.ensures.begin in
    let here : c.in_ok-branch.branch.begin.byte ≤ c.branch-self.new.cursor.end.byte =
    omega (
      arith,
      begins_so,
      begin_seen c.in-Some.ensures.takes,
      c.in-Some.ensures.moves.later,
      c.in-Some.ensures.moves.ready.later,
      c.in_ok-branch.ensures.moves.later,
    ) in
    record {
      same_reference = search rules;
      ready = search rules;
      fewer = omega (arith, c.reading.invariant.fewer, c.in-Some.ensures.moves.fewer, c.in_ok-branch.ensures.moves.fewer);
      later = omega (arith, c.reading.invariant.later, far);
      begins = All-same (λ b. b.begin.byte ≤ c.branch-self.new.cursor.end.byte) _ (c.reading.branches.items ++ c.in_ok-branch.branch ∷ [])
          c.in_ok-push.ensures.items
          (All-push (λ b. b.begin.byte ≤ c.branch-self.new.cursor.end.byte) _ _ (All-weaker (λ b. b.begin.byte ≤ c.reading.cursor.end.byte)
          (λ b. b.begin.byte ≤ c.branch-self.new.cursor.end.byte) (λ x h. omega (arith, h, far)) _ c.reading.invariant.begins) here);
      branched = branched_as (branched_more c.reading.invariant.branched c.in-Some.ensures.takes c.in_ok-branch.branch c.in_ok-branch.ensures.parses)
          (seen_more _ _ _ _ c.in_ok-push.ensures.items begins_so);
    }

pub returns-in_err-last-clause-parses : goal.returns-in_err-last-clause-parses
returns-in_err-last-clause-parses g c =
    gives_exits _ _ _ _ _ _ c.from_residual-in_err-last.ensures.1
    (last_fails (branched_to c.reading.invariant.branched c.in_default.ensures.takes.1) c.in_err-last.ensures.parses)

pub returns-in_err-chained-clause-parses : goal.returns-in_err-chained-clause-parses
returns-in_err-chained-clause-parses g c =
    gives_exits _ _ _ _ _ _ c.from_residual-in_err-chained.ensures.1
    (rest_wants (branched_to c.reading.invariant.branched c.in_default.ensures.takes.1) c.in_ok-last.last c.in_ok-last.ensures.parses)

pub returns-clause-parses : goal.returns-clause-parses
returns-clause-parses g c =
    rest_found (branched_to c.reading.invariant.branched c.in_default.ensures.takes.1) c.in_ok-last.last c.in_ok-last.ensures.parses c.in_ok-chained.field-0
    c.in_ok-chained.ensures
