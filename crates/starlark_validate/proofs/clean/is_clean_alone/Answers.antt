use Rattle.std.proofs.Common.{map}
use Rattle.starlark_lexer.specs.Tokens.{span_of}
use Rattle.starlark_tree.specs.Views.{parameter_of}
use Rattle.starlark_spec.specs.Faults.{rule_fault as fault, Dialect as of_dialect}
use Rattle.starlark_spec.specs.declared.error.DialectError.TheVariants as dialects
use Rattle.starlark_validate.proofs.EntryClashes.{none_listed}
use Rattle.starlark_validate.proofs.FaultlessParts.{both}
use Rattle.starlark_validate.proofs.NodeParts.{list_of_parameters}
use Rattle.starlark_validate.proofs.clean.is_clean_alone.Goals as goal

pub returns-then-tests-clause-own : goal.returns-then-tests-clause-own
returns-then-tests-clause-own c = λ h.
    rw (c.in-Def.is, list_of_parameters (map parameter_of c.in-Def.def.params.items))
    (both (none_listed c.args.tests.now.dialect.enable_def (fault (of_dialect dialects.Def) (span_of c.args.statement.now.span)) c.if-tests.true)
    (rw c.deref.ensures.value at (c.are_clean_parameters.ensures h)))
