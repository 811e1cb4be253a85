use Rattle.starlark_tree.specs.Views.{statement_of}
use Rattle.starlark_passes.proofs.ReplaceLemmas.Unnamed.{empty_names_none, unnamed}
use Rattle.starlark_passes.proofs.replace.replace_binary_operators.Goals as goal

pub returns-clause-unnamed : goal.returns-clause-unnamed
returns-clause-unnamed c = unnamed _ c.replace_statement.result _ _ c.replace_statement.ensures

pub returns-clause-empty : goal.returns-clause-empty
returns-clause-empty c =
    λ empty. unnamed _ c.replace_statement.result _ _ c.replace_statement.ensures
    (empty_names_none c.args.replacements.now empty (statement_of c.args.statement.now))
