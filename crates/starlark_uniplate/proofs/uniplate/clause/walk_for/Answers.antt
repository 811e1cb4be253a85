use Rattle.std.proofs.Common.{◌∷◌, [], ◌++◌, ap, sym}
use Rattle.starlark_lexer.specs.Tokens.{span_of}
use Rattle.starlark_tree.specs.Views.{expression_of}
use Rattle.starlark_tree.proofs.Nodes.{anywhere}
use Rattle.starlark_tree.proofs.WalkConversions.{walk_at}
use Rattle.starlark_uniplate.proofs.Turns.{stops_at, then_on}
use Rattle.starlark_uniplate.proofs.uniplate.clause.walk_for.Goals as goal

pub returns-in-Ok : goal.returns-in-Ok
returns-in-Ok g c =
    walk_at (ap (λ ys. ys ++ expression_of c.args.clause.now.over ∷ []) (sym (anywhere (span_of c.args.clause.now.var.span) c.args.clause.now.var.node)))
    (then_on c.in-Ok.is c.walk_target.ensures c.walk_one.ensures)

pub returns-in-Err : goal.returns-in-Err
returns-in-Err g c =
    walk_at (ap (λ ys. ys ++ expression_of c.args.clause.now.over ∷ []) (sym (anywhere (span_of c.args.clause.now.var.span) c.args.clause.now.var.node)))
    (stops_at _ c.in-Err.is c.walk_target.ensures)
