use Rattle.std.proofs.Common.{ap, refl}
use Rattle.starlark_lexer.specs.Tokens.{span_of}
use Rattle.starlark_tree.specs.Ast.{expression}
use Rattle.starlark_tree.specs.Views.{expression_of}
use Rattle.starlark_uniplate_mut.specs.Types.Types.{enters, type_calls}
use Rattle.starlark_uniplate_mut.proofs.TypesLemmas.TypeEnters.{into_others, no_types}
use Rattle.starlark_uniplate_mut.proofs.types.into.walk_into_by.Goals as goal

pub returns-then-has_types : goal.returns-then-has_types
returns-then-has_types g c = c.requires.typed.promises _ _ _ _ _ c.call.ensures

pub returns-else-has_types : goal.returns-else-has_types
returns-else-has_types g c =
    enters (no_types (type_calls g.F.FnMut) (expression_of c.args.expr.now) (c.if-has_types.ensures.none refl))
    (ap (expression (span_of c.args.expr.now.span)) c.write_children.ensures.rest)
    (into_others (type_calls g.F.FnMut) g.H.AtExprMut.calls c.requires.smaller.promises c.write_children.ensures.calls)
