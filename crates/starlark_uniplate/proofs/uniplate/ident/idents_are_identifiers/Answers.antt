use Rattle.starlark_tree.specs.Views.{form_seen}
use Rattle.starlark_uniplate.proofs.Identifiers.{every_identifier}
use Rattle.starlark_uniplate.proofs.uniplate.ident.idents_are_identifiers.Goals as goal

pub returns : goal.returns
returns g c = every_identifier (form_seen c.args.stmt.now)
