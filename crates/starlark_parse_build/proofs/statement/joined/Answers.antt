use Rattle.std.proofs.Common.{sym, ap, ◌∙◌}
use Rattle.starlark_lexer.specs.Tokens.{from_to}
use Rattle.starlark_tree.specs.Ast.{statement, Block, statements_of}
use Rattle.starlark_spec.specs.Trees.{one_or_block}
use Rattle.starlark_parse_held.proofs.Meanings.{same_statement, statement_held}
use Rattle.starlark_parse_build.proofs.Rows.{block_of}
use Rattle.starlark_parse_build.proofs.statement.joined.Goals as goal

pub returns-in-Ok : goal.returns-in-Ok
returns-in-Ok c = statement_held c.new.result _ _ (sym (ap (one_or_block (from_to c.args.begin.byte c.args.end.byte)) c.in-Ok.ensures.one)) c.new.ensures

pub returns-in-Err : goal.returns-in-Err
returns-in-Err c =
    same_statement c.block.result _ _
    (ap (λ ss. statement (from_to c.args.begin.byte c.args.end.byte) (Block (statements_of ss))) c.in-Err.ensures.all ∙ block_of _ _ c.in-Err.ensures.not_one)
    c.block.ensures
