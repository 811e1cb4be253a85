use Rattle.starlark_spec.proofs.Constructors.{not_none}
use Rattle.std.proofs.Common.{◌∙◌, ap, sym, map, length}
use Rattle.std.specs.Prelude.{option_map}
use Rattle.std.proofs.lemmas.List.{length-map}
use Rattle.starlark_tree.specs.Views.{parameter_of}
use Rattle.starlark_checks.specs.Faults.{RefusesOutcome.by_fault}
use Rattle.starlark_checks.specs.Parameters.{named_of}
use Rattle.starlark_checks.specs.Walks.Parameters.{fault_of}
use Rattle.starlark_checks.proofs.ParameterFaults.{entries_fit, refused_by}
use Rattle.starlark_checks.proofs.ParameterParts.{parts_seen}
use Rattle.starlark_checks.proofs.def.DefParams.unpack.Goals as goal

pub returns-in-Some-clause-err : goal.returns-in-Some-clause-err
returns-in-Some-clause-err g c =
    by_fault _ (refused_by (map parameter_of c.args.params.now) (fault_of c.in-Some.fault) (sym (ap (option_map fault_of) c.in-Some.is)
    ∙ c.in_ok-fault.ensures)) c.in_ok-params_error.ensures

pub returns-clause-parts : goal.returns-clause-parts
returns-clause-parts g c =
    parts_seen (map parameter_of c.args.params.now) (entries_fit (map parameter_of c.args.params.now) (sym c.in_ok-fault.ensures
    ∙ ap (option_map fault_of) c.in_default.is))
    c.indices-indices.result (length c.in_ok-named.named.items) c.indices-indices.ensures (sym (length-map c.in_ok-named.named.items named_of)
    ∙ ap length c.in_ok-named.ensures)

pub returns-clause-params : goal.returns-clause-params
returns-clause-params g c = c.in_ok-named.ensures

pub returns-clause-indices : goal.returns-clause-indices
returns-clause-indices g c = c.indices-indices.ensures

pub returns-clause-faultless : goal.returns-clause-faultless
returns-clause-faultless g c = sym c.in_ok-fault.ensures ∙ ap (option_map fault_of) c.in_default.is

pub returns-clause-err : goal.returns-clause-err
returns-clause-err g c = tt

pub returns-clause-only_memory : goal.returns-clause-only_memory
returns-clause-only_memory g c = tt

pub returns-in-Some-clause-params : goal.returns-in-Some-clause-params
returns-in-Some-clause-params g c = tt

pub returns-in-Some-clause-indices : goal.returns-in-Some-clause-indices
returns-in-Some-clause-indices g c = tt

pub returns-in-Some-clause-parts : goal.returns-in-Some-clause-parts
returns-in-Some-clause-parts g c = tt

pub returns-in-Some-clause-faultless : goal.returns-in-Some-clause-faultless
returns-in-Some-clause-faultless g c = tt

pub returns-in-Some-clause-only_memory : goal.returns-in-Some-clause-only_memory
returns-in-Some-clause-only_memory g c = λ none. not_none (ap (option_map fault_of) (sym c.in-Some.is) ∙ c.in_ok-fault.ensures ∙ none)
