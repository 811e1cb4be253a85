use Rattle.std.proofs.Common.{◌++◌, ap, sym, ◌∙◌}
use Rattle.std.specs.List.{flat_map}
use Rattle.starlark_tree.specs.Places.{exprs_in_parameter, type_exprs}
use Rattle.starlark_tree.specs.Views.{boxed_type_of}
use Rattle.starlark_tree.proofs.Statements.{def_own}
use Rattle.starlark_uniplate.specs.Types.{types_in_parameter, types_of}
use Rattle.starlark_uniplate.proofs.TypesOf.{def_types}
use Rattle.starlark_uniplate.proofs.uniplate.listed.def_parameters.Goals as goal

pub returns-clause-exprs : goal.returns-clause-exprs
returns-clause-exprs g c =
    def_own c.args.def.now ∙ sym (ap (λ v. flat_map (λ p. exprs_in_parameter p.node) v ++ type_exprs (boxed_type_of c.args.def.now.return_type))
    c.deref.ensures.value)

pub returns-clause-types : goal.returns-clause-types
returns-clause-types g c =
    def_types c.args.def.now ∙ sym (ap (λ v. flat_map (λ p. types_in_parameter p.node) v ++ types_of (boxed_type_of c.args.def.now.return_type))
    c.deref.ensures.value)
