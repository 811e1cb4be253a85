use Rattle.std.proofs.Common.{◌∷◌, [], ◌++◌, append_assoc, map, take, ap, ◌∙◌}
use Rattle.starlark_validate.specs.Clean.{placed_of, placed_there}
use Rattle.starlark_validate.proofs.AddedExpressions.{grown_by_one}
use Rattle.starlark_validate.proofs.clean.add_each.Goals as goal

pub loop-statement-preserved : goal.loop-statement-preserved
loop-statement-preserved c =
    let before = map placed_of c.args.found.now.items in
    let last = placed_there c.args.around c.statement-item.result in
    c.in_ok-add_one.ensures
    ∙ ap (λ ys. ys ++ last ∷ []) c.loop-statement.invariant
    ∙ append_assoc before (map (placed_there c.args.around) (take c.loop-statement.statement-index c.args.statements.now)) (last ∷ [])
    ∙ ap (λ ys. before ++ ys) (grown_by_one (placed_there c.args.around) c.args.statements.now c.loop-statement.statement-index c.statement-item.result
    c.loop-statement-test.true c.statement-item.is)
