use denote.Param.{param}
use denote.Enum.Declared.{Record}
use borrow.Enum.Known.{ValuesAt}
use Rattle.std.proofs.Common.{refl, ap}
use Rattle.starlark_tree.specs.contracts.ast.ParameterP.{enum}
use Rattle.starlark_tree.specs.declared.ast.ParameterP
use Rattle.starlark_tree.specs.Views.{boxed_type_of}
use Rattle.starlark_tree.specs.Walks.{WritesIn}
use Rattle.starlark_tree.proofs.LentParts.{left_in}
use Rattle.starlark_uniplate.specs.Types.{types_in_parameter, types_of}
use Rattle.starlark_uniplate_mut.specs.Types.Types.{type_calls, untyped_of}
use Rattle.starlark_uniplate_mut.proofs.TypesLemmas.ParameterTypes.{args_written, kwargs_written, normal_written}
use Rattle.starlark_uniplate_mut.proofs.Writing.{write_at, written_from}
use Rattle.starlark_uniplate_mut.proofs.types.types.write_parameter_type.Given as given
use Rattle.starlark_uniplate_mut.proofs.types.types.write_parameter_type.Goals as goal

abbrev parameters : given.Over → Record
parameters g = enum (param 0 g.row.P) (param 3 g.row.P-LoadPayload) (param 4 g.row.P-IdentPayload) (param 5 g.row.P-IdentAssignPayload)
    (param 6 g.row.P-DefPayload) (param 7 g.row.P-TypeExprPayload)

pub returns-in-Normal : goal.returns-in-Normal
returns-in-Normal g c =
    let v : ValuesAt (parameters g).parts 1 = (c.in-Normal.field-0, (c.in-Normal.ty, (c.in-Normal.field-2, tt))) in
    left_in (parameters g) 1 (λ v y. ParameterP.Normal v.0 y v.1.1.0) (λ v. v.1.0) (λ o. c.write_type_if_there.new.ty)
    (λ e. WritesIn types_in_parameter untyped_of (type_calls g.F.FnMut) c.args.f.now c.args.parameter.now e c.write_type_if_there.result
    c.write_type_if_there.new.f) c.args.parameter.now v c.in-Normal.is
    (written_from c.in-Normal.is (normal_written c.in-Normal.field-0 c.in-Normal.ty c.write_type_if_there.new.ty c.in-Normal.field-2
    (write_at (ap (λ o. types_of (boxed_type_of o)) c.in-Normal.ty-is) refl c.write_type_if_there.ensures)))

pub returns-in-Args : goal.returns-in-Args
returns-in-Args g c =
    let v : ValuesAt (parameters g).parts 3 = (c.in-Args.field-0, (c.in-Args.ty, tt)) in
    left_in (parameters g) 3 (λ v y. ParameterP.Args v.0 y) (λ v. v.1.0) (λ o. c.write_type_if_there-in-Args.new.ty)
    (λ e. WritesIn types_in_parameter untyped_of (type_calls g.F.FnMut) c.args.f.now c.args.parameter.now e c.write_type_if_there-in-Args.result
    c.write_type_if_there-in-Args.new.f) c.args.parameter.now v c.in-Args.is
    (written_from c.in-Args.is (args_written c.in-Args.field-0 c.in-Args.ty c.write_type_if_there-in-Args.new.ty
    (write_at (ap (λ o. types_of (boxed_type_of o)) c.in-Args.ty-is) refl c.write_type_if_there-in-Args.ensures)))

pub returns-in-KwArgs : goal.returns-in-KwArgs
returns-in-KwArgs g c =
    let v : ValuesAt (parameters g).parts 4 = (c.in-KwArgs.field-0, (c.in-KwArgs.ty, tt)) in
    left_in (parameters g) 4 (λ v y. ParameterP.KwArgs v.0 y) (λ v. v.1.0) (λ o. c.write_type_if_there-in-KwArgs.new.ty)
    (λ e. WritesIn types_in_parameter untyped_of (type_calls g.F.FnMut) c.args.f.now c.args.parameter.now e c.write_type_if_there-in-KwArgs.result
    c.write_type_if_there-in-KwArgs.new.f) c.args.parameter.now v c.in-KwArgs.is
    (written_from c.in-KwArgs.is (kwargs_written c.in-KwArgs.field-0 c.in-KwArgs.ty c.write_type_if_there-in-KwArgs.new.ty
    (write_at (ap (λ o. types_of (boxed_type_of o)) c.in-KwArgs.ty-is) refl c.write_type_if_there-in-KwArgs.ensures)))
