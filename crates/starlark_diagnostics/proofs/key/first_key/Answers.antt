use Rattle.std.proofs.Common.{rules}
use Rattle.starlark_tree.proofs.Callers.{may_always}
use Rattle.starlark_diagnostics.proofs.key.first_key.Goals as goal

pub visit_all_exprs-requires : goal.visit_all_exprs-requires
visit_all_exprs-requires c = search (rules, may_always)
