use Rattle.starlark_checks.proofs.RefusalLemmas.{only_memory}
use Rattle.starlark_checks.proofs.type_expr.TypeExprUnpackP.unpack.Goals as goal

pub returns-clause-only_memory : goal.returns-clause-only_memory
returns-clause-only_memory g c = only_memory _ _ _ c.unpack.ensures.err
