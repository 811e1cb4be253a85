use denote.Param.{param}
use denote.Enum.Declared.{Record}
use borrow.Enum.Known.{ValuesAt}
use Rattle.std.proofs.Common.{refl, ◌∙◌, option_map}
use Rattle.std.specs.Option.{ghost_name_of}
use Rattle.starlark_tree.specs.contracts.ast.ParameterP.{enum}
use Rattle.starlark_tree.specs.declared.ast.ParameterP
use Rattle.starlark_tree.specs.Parts.{parameter_type, with_type, with_value}
use Rattle.starlark_tree.proofs.ParameterBoxes.{type_held, normal_type_put, args_type_put, kwargs_type_put}
use Rattle.starlark_tree.proofs.LentParts.{inner_ends, part_is}
use Rattle.starlark_tree.proofs.ast.ParameterP.type_mut.Given as given
use Rattle.starlark_tree.proofs.ast.ParameterP.type_mut.Goals as goal

abbrev parameters : given.Over → Record
parameters g = enum (param 0 g.row.P) (param 1 g.row.P-LoadPayload) (param 2 g.row.P-IdentPayload) (param 3 g.row.P-IdentAssignPayload)
    (param 4 g.row.P-DefPayload) (param 5 g.row.P-TypeExprPayload)

pub returns-in-Normal : goal.returns-in-Normal
returns-in-Normal g c =
    let v : ValuesAt (parameters g).parts 1 = (c.in-Normal.field-0, (c.in-Normal.ty, (c.in-Normal.field-2, tt))) in (
      inner_ends (parameters g) 1 (λ v y. ParameterP.Normal v.0 y v.1.1.0) (λ v. v.1.0) with_value with_type (ghost_name_of c.held_mut.result) c.args.self.now
          v c.in-Normal.is
          (normal_type_put c.in-Normal.field-0 c.in-Normal.ty c.in-Normal.field-2) refl,
      record {
        writes_back = tt;
        value = c.held_mut.ensures.value ∙ part_is (parameters g) 1 (λ v. option_map (λ b. b.value) v.1.0) parameter_type
            c.args.self.now v c.in-Normal.is (type_held c.in-Normal.ty);
      },
    )

pub returns-in-Args : goal.returns-in-Args
returns-in-Args g c =
    let v : ValuesAt (parameters g).parts 3 = (c.in-Args.field-0, (c.in-Args.ty, tt)) in (
      inner_ends (parameters g) 3 (λ v y. ParameterP.Args v.0 y) (λ v. v.1.0) with_value with_type (ghost_name_of c.held_mut-in-Args.result) c.args.self.now v
          c.in-Args.is
          (args_type_put c.in-Args.field-0 c.in-Args.ty) refl,
      record {
        writes_back = tt;
        value = c.held_mut-in-Args.ensures.value ∙ part_is (parameters g) 3 (λ v. option_map (λ b. b.value) v.1.0) parameter_type
            c.args.self.now v c.in-Args.is (type_held c.in-Args.ty);
      },
    )

pub returns-in-KwArgs : goal.returns-in-KwArgs
returns-in-KwArgs g c =
    let v : ValuesAt (parameters g).parts 4 = (c.in-KwArgs.field-0, (c.in-KwArgs.ty, tt)) in (
      inner_ends (parameters g) 4 (λ v y. ParameterP.KwArgs v.0 y) (λ v. v.1.0) with_value with_type (ghost_name_of c.held_mut-in-KwArgs.result)
          c.args.self.now v c.in-KwArgs.is
          (kwargs_type_put c.in-KwArgs.field-0 c.in-KwArgs.ty) refl,
      record {
        writes_back = tt;
        value = c.held_mut-in-KwArgs.ensures.value ∙ part_is (parameters g) 4 (λ v. option_map (λ b. b.value) v.1.0) parameter_type
            c.args.self.now v c.in-KwArgs.is (type_held c.in-KwArgs.ty);
      },
    )
