use Rattle.std.proofs.Common.{ap}
use Rattle.starlark_lexer.specs.Tokens.{from_to}
use Rattle.starlark_tree.specs.Ast.{statement}
use Rattle.starlark_parse_held.proofs.Meanings.{same_statement}
use Rattle.starlark_parse_build.proofs.Rows.{block_seen}
use Rattle.starlark_parse_build.proofs.statement.block.Goals as goal

pub returns : goal.returns
returns c =
    same_statement c.spanned.result _ _
    (ap (statement (from_to c.args.begin.byte c.args.end.byte)) (block_seen c.into_trees.result c.args.statements.trees.items c.into_trees.ensures))
    c.spanned.ensures
