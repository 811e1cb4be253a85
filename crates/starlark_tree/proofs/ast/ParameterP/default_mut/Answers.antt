use denote.Param.{param}
use denote.Enum.Declared.{Record}
use borrow.Enum.Known.{ValuesAt}
use Rattle.std.proofs.Common.{refl, ◌∙◌, option_map}
use Rattle.std.specs.Option.{ghost_name_of}
use Rattle.starlark_tree.specs.contracts.ast.ParameterP.{enum}
use Rattle.starlark_tree.specs.declared.ast.ParameterP
use Rattle.starlark_tree.specs.Parts.{parameter_default, with_default, with_value}
use Rattle.starlark_tree.proofs.ParameterBoxes.{expression_held, default_put}
use Rattle.starlark_tree.proofs.LentParts.{inner_ends, part_is}
use Rattle.starlark_tree.proofs.ast.ParameterP.default_mut.Given as given
use Rattle.starlark_tree.proofs.ast.ParameterP.default_mut.Goals as goal

abbrev parameters : given.Over → Record
parameters g = enum (param 0 g.row.P) (param 1 g.row.P-LoadPayload) (param 2 g.row.P-IdentPayload) (param 3 g.row.P-IdentAssignPayload)
    (param 4 g.row.P-DefPayload) (param 5 g.row.P-TypeExprPayload)

pub returns-in-Normal : goal.returns-in-Normal
returns-in-Normal g c =
    let v : ValuesAt (parameters g).parts 1 = (c.in-Normal.field-0, (c.in-Normal.field-1, (c.in-Normal.default, tt))) in (
      inner_ends (parameters g) 1 (λ v y. ParameterP.Normal v.0 v.1.0 y) (λ v. v.1.1.0) with_value with_default (ghost_name_of c.held_mut.result)
          c.args.self.now v c.in-Normal.is
          (default_put c.in-Normal.field-0 c.in-Normal.field-1 c.in-Normal.default) refl,
      record {
        writes_back = tt;
        value = c.held_mut.ensures.value ∙ part_is (parameters g) 1 (λ v. option_map (λ b. b.value) v.1.1.0) parameter_default
            c.args.self.now v c.in-Normal.is (expression_held c.in-Normal.default);
      },
    )
