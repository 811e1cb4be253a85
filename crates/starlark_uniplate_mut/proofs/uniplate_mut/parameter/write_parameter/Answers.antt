use denote.Param.{param}
use denote.Enum.Declared.{Record}
use borrow.Enum.Known.{ValuesAt}
use Rattle.std.proofs.Common.{refl, sym, ap, ◌∙◌}
use Rattle.starlark_tree.specs.contracts.ast.ParameterP.{enum}
use Rattle.starlark_tree.specs.declared.ast.ParameterP
use Rattle.starlark_uniplate_mut.specs.Frames.{maybe_frame, parameter_frame_of, type_frame}
use Rattle.starlark_tree.specs.Places.{exprs_in_parameter, maybe_exprs, type_exprs}
use Rattle.starlark_tree.specs.Views.{boxed_type_of, maybe_of}
use Rattle.starlark_tree.specs.Walks.{WritesIn}
use Rattle.starlark_tree.proofs.LentParts.{kept_in, left_in}
use Rattle.starlark_uniplate_mut.proofs.Framed.{args_written, kwargs_written, normal_written}
use Rattle.starlark_uniplate_mut.proofs.Writing.{both_lists, write_at, written_from}
use Rattle.starlark_uniplate_mut.proofs.uniplate_mut.parameter.write_parameter.Given as given
use Rattle.starlark_uniplate_mut.proofs.uniplate_mut.parameter.write_parameter.Goals as goal

abbrev parameters : given.Over → Record
parameters g = enum (param 0 g.row.P) (param 4 g.row.P-LoadPayload) (param 5 g.row.P-IdentPayload) (param 6 g.row.P-IdentAssignPayload)
    (param 7 g.row.P-DefPayload) (param 8 g.row.P-TypeExprPayload)

pub returns-in-Normal : goal.returns-in-Normal
returns-in-Normal g c =
    let v : ValuesAt (parameters g).parts 1 = (c.in-Normal.field-0, (c.in-Normal.ty, (c.in-Normal.default, tt))) in
    kept_in (parameters g) 1 (λ w. ParameterP.Normal w.0 c.write_normal.new.ty c.write_normal.new.default)
    (λ e. WritesIn exprs_in_parameter parameter_frame_of g.G.AtExprMut.calls c.args.state.now c.args.parameter.now e c.write_normal.result
    c.write_normal.new.state) c.args.parameter.now v c.in-Normal.is
    (written_from c.in-Normal.is
    (normal_written c.in-Normal.field-0 c.in-Normal.ty c.write_normal.new.ty c.in-Normal.default c.write_normal.new.default
    (write_at (both_lists (ap (λ o. type_exprs (boxed_type_of o)) c.in-Normal.ty-is) (ap (λ o. maybe_exprs (maybe_of o)) c.in-Normal.default-is)) refl
    c.write_normal.ensures.calls)
    (c.write_normal.ensures.ty ∙ ap (λ o. type_frame (boxed_type_of o)) c.in-Normal.ty-is)
    (c.write_normal.ensures.default ∙ ap (λ o. maybe_frame (maybe_of o)) c.in-Normal.default-is)))

pub returns-in-Args : goal.returns-in-Args
returns-in-Args g c =
    let v : ValuesAt (parameters g).parts 3 = (c.in-Args.field-0, (c.in-Args.ty, tt)) in
    left_in (parameters g) 3 (λ v y. ParameterP.Args v.0 y) (λ v. v.1.0) (λ o. c.write_type.new.ty)
    (λ e. WritesIn exprs_in_parameter parameter_frame_of g.G.AtExprMut.calls c.args.state.now c.args.parameter.now e c.write_type.result
    c.write_type.new.state) c.args.parameter.now v c.in-Args.is
    (written_from c.in-Args.is (args_written c.in-Args.field-0 c.in-Args.ty c.write_type.new.ty (written_from (sym c.in-Args.ty-is) c.write_type.ensures)))

pub returns-in-KwArgs : goal.returns-in-KwArgs
returns-in-KwArgs g c =
    let v : ValuesAt (parameters g).parts 4 = (c.in-KwArgs.field-0, (c.in-KwArgs.ty, tt)) in
    left_in (parameters g) 4 (λ v y. ParameterP.KwArgs v.0 y) (λ v. v.1.0) (λ o. c.write_type-in-KwArgs.new.ty)
    (λ e. WritesIn exprs_in_parameter parameter_frame_of g.G.AtExprMut.calls c.args.state.now c.args.parameter.now e c.write_type-in-KwArgs.result
    c.write_type-in-KwArgs.new.state) c.args.parameter.now v c.in-KwArgs.is
    (written_from c.in-KwArgs.is
    (kwargs_written c.in-KwArgs.field-0 c.in-KwArgs.ty c.write_type-in-KwArgs.new.ty (written_from (sym c.in-KwArgs.ty-is) c.write_type-in-KwArgs.ensures)))
