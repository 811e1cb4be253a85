use Rattle.std.proofs.Common.{sym, ap, ◌∙◌}
use Rattle.std.proofs.lemmas.Bool.{true≢false}
use Rattle.starlark_lexer.specs.Tokens.{span_of}
use Rattle.starlark_tree.specs.Ast.{expression}
use Rattle.starlark_tree.specs.Views.{shape_seen}
use Rattle.starlark_parse_build.specs.Suffixes.{is_name}
use Rattle.starlark_parse_build.proofs.Rows.{CodeExpression, no_identifier}
use Rattle.starlark_parse_build.proofs.expression.name_in.Goals as goal

pub unreachable-requires : goal.unreachable-requires
unreachable-requires c =
    let e = c.into_tree-node.result in
    let place = span_of e.span in
    true≢false
    (sym (c.if-not-is_identifier.ensures place)
    ∙ ap (λ (x : CodeExpression). is_name (expression place (shape_seen x.node))) (c.deref.ensures ∙ sym c.into_tree-node.ensures)
    ∙ no_identifier e.node place c.in_default.not-Identifier)
