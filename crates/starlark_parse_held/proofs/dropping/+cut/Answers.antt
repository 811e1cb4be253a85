use Rattle.std.proofs.Common.{◌≡◌, ◌≤◌, ◌+◌, sym, ap, ◌∙◌, subst}
use Rattle.std.specs.List.{sum_by}
use Rattle.starlark_parse_held.specs.Weight.{parts_weight, statement_weight, weight}
use Rattle.starlark_parse_held.proofs.Weights.{block_weighs}
use Rattle.starlark_parse_held.proofs.dropping.+cut.Goals as goal

pub cut_parts-returns-in-Statements : goal.cut_parts-returns-in-Statements
cut_parts-returns-in-Statements t c =
    let block : parts_weight c.args.stmt.now ≡ sum_by statement_weight c.in-Statements.parts.items =
    ap parts_weight c.in-Statements.is ∙ block_weighs c.in-Statements.parts in
    let slice : sum_by statement_weight c.in-Statements.parts.items ≡ sum_by statement_weight c.deref_mut.result.now =
    ap (sum_by statement_weight) (sym (c.deref_mut.ensures.value ∙ ap (λ u. u.items) c.in-Statements.parts-is)) in
    subst (λ n. sum_by weight c.cut_each.new.cut_off.items ≤ sum_by weight c.args.cut_off.now.items + n) (sym (block ∙ slice)) c.cut_each.ensures
