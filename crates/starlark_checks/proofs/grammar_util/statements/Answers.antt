use Rattle.std.proofs.Common.{map, ap, ◌∙◌}
use Rattle.starlark_tree.specs.Views.{statement_of}
use Rattle.starlark_checks.proofs.GrammarUtil.StatementLemmas.{several}
use Rattle.starlark_checks.proofs.grammar_util.statements.Goals as goal

pub returns-in-Err : goal.returns-in-Err
returns-in-Err c =
    several c.ast.result c.into_trees.result (map statement_of c.args.xs.items) c.args.begin c.args.end c.ast.ensures.node c.ast.ensures.begin c.ast.ensures.end
    (ap (map statement_of) c.into_trees.ensures ∙ c.in-Err.ensures.all) c.in-Err.ensures.not_one
