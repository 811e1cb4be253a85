use Rattle.std.proofs.Common.{arith, ap}
use Rattle.starlark_lexer.specs.Tokens.{span_of}
use Rattle.starlark_tree.specs.Ast.{expression}
use Rattle.starlark_tree.specs.Views.{expression_of}
use Rattle.starlark_uniplate.specs.Types.{expr_types}
use Rattle.starlark_uniplate_mut.specs.Types.Types.{at_first, children_of, enters, stops, type_calls, types_in}
use Rattle.starlark_uniplate_mut.proofs.TypesLemmas.TypeWalks.{after_types, into_each, no_more_left, types_parted}
use Rattle.starlark_uniplate_mut.proofs.TypesLemmas.TypeEnters.{may_inside, may_types, seen_written, typed_later}
use Rattle.starlark_uniplate_mut.proofs.types.into.write_and_enter.Goals as goal

pub write_expr_types-requires : goal.write_expr_types-requires
write_expr_types-requires g c = may_types (type_calls g.F.FnMut) (expr_types (expression_of c.args.expr.now)) c.requires.may

pub returns-in-Err : goal.returns-in-Err
returns-in-Err g c = stops (seen_written (type_calls g.F.FnMut) c.args.expr.now c.write_expr_types.new.expr (rw c.in-Err.is at c.write_expr_types.ensures))

pub write_children-requires : goal.write_children-requires
write_children-requires g c =
    let x = expression_of c.args.expr.now in
    let m = expression_of c.write_expr_types.new.expr in
    let own = seen_written (type_calls g.F.FnMut) c.args.expr.now c.write_expr_types.new.expr (rw c.in-Ok.is at c.write_expr_types.ensures) in
    let parted = types_parted x in
    let some = c.requires.some in
    let fewer = no_more_left (type_calls g.F.FnMut) c.args.f.now c.requires.may x m own at_first in
    may_inside (type_calls g.F.FnMut) g.G.AtExprMut.calls (types_in x) (children_of m)
    (typed_later c.requires.typed (after_types (type_calls g.F.FnMut) own at_first) (omega arith)) (omega (arith, parted, some, fewer))

pub returns-in-Ok : goal.returns-in-Ok
returns-in-Ok g c =
    enters (seen_written (type_calls g.F.FnMut) c.args.expr.now c.write_expr_types.new.expr (rw c.in-Ok.is at c.write_expr_types.ensures))
    (ap (expression (span_of c.write_expr_types.new.expr.span)) c.write_children.ensures.rest)
    (into_each (type_calls g.F.FnMut) c.write_children.ensures.calls)
