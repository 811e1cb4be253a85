use Rattle.std.proofs.Common.{Global, ap, ◌∙◌}
use Rattle.std.specs.declared.boxed.Box.{Box}
use Rattle.starlark_lexer.specs.Tokens.{from_to}
use Rattle.starlark_tree.specs.Ast.{statement}
use Rattle.starlark_parse_held.proofs.Meanings.{same_statement}
use Rattle.starlark_parse_build.proofs.Rows.{CodeStatement, definition_seen}
use Rattle.starlark_parse_build.proofs.statement.definition.Goals as goal

pub returns : goal.returns
returns c =
    same_statement c.spanned.result _ _
    (ap (statement (from_to c.args.begin.byte c.args.end.byte))
    (definition_seen (from_to c.args.begin.byte c.args.end.byte) c.assigned.result c.type_tree.result _ _ c.assigned.ensures c.type_tree.ensures
    c.into_trees.result c.args.params.trees.items c.into_box.result c.args.body.tree.value c.into_trees.ensures
    (ap (λ (b : Box CodeStatement Global). b.value) c.into_box.ensures)))
    c.spanned.ensures
