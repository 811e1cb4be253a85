use denote.Param.{param}
use denote.Enum.Declared.{Record}
use borrow.Enum.Known.{ValuesAt}
use Rattle.std.proofs.Common.{Some, refl}
use Rattle.starlark_tree.specs.contracts.ast.ParameterP.{enum}
use Rattle.starlark_tree.specs.declared.ast.ParameterP
use Rattle.starlark_tree.specs.Parts.{parameter_name, with_name}
use Rattle.starlark_tree.proofs.LentParts.{part_ends, part_is}
use Rattle.starlark_tree.proofs.ast.ParameterP.ident_mut.Given as given
use Rattle.starlark_tree.proofs.ast.ParameterP.ident_mut.Goals as goal

abbrev parameters : given.Over → Record
parameters g = enum (param 0 g.row.P) (param 1 g.row.P-LoadPayload) (param 2 g.row.P-IdentPayload) (param 3 g.row.P-IdentAssignPayload)
    (param 4 g.row.P-DefPayload) (param 5 g.row.P-TypeExprPayload)

pub returns-in-Normal : goal.returns-in-Normal
returns-in-Normal g c =
    let v : ValuesAt (parameters g).parts 1 = (c.in-Normal.x, (c.in-Normal.field-1, (c.in-Normal.field-2, tt))) in (
      part_ends (parameters g) 1 (λ v x. ParameterP.Normal x v.1.0 v.1.1.0) with_name _ c.args.self.now v c.in-Normal.is (λ x. refl),
      record { writes_back = tt; value = part_is (parameters g) 1 (λ v. Some v.0) parameter_name c.args.self.now v c.in-Normal.is refl },
    )

pub returns-in-Args : goal.returns-in-Args
returns-in-Args g c =
    let v : ValuesAt (parameters g).parts 3 = (c.in-Args.x, (c.in-Args.field-1, tt)) in (
      part_ends (parameters g) 3 (λ v x. ParameterP.Args x v.1.0) with_name _ c.args.self.now v c.in-Args.is (λ x. refl),
      record { writes_back = tt; value = part_is (parameters g) 3 (λ v. Some v.0) parameter_name c.args.self.now v c.in-Args.is refl },
    )

pub returns-in-KwArgs : goal.returns-in-KwArgs
returns-in-KwArgs g c =
    let v : ValuesAt (parameters g).parts 4 = (c.in-KwArgs.x, (c.in-KwArgs.field-1, tt)) in (
      part_ends (parameters g) 4 (λ v x. ParameterP.KwArgs x v.1.0) with_name _ c.args.self.now v c.in-KwArgs.is (λ x. refl),
      record { writes_back = tt; value = part_is (parameters g) 4 (λ v. Some v.0) parameter_name c.args.self.now v c.in-KwArgs.is refl },
    )
