use Rattle.starlark_source.proofs.PageLemmas.{wrote_append}
use Rattle.starlark_source.proofs.ExpressionLemmas.{args_parameter_drafted, kwargs_parameter_drafted, normal_drafted, slash_drafted, star_drafted}
use Rattle.starlark_source.proofs.expression.write_parameter.Goals as goal

pub returns-in-Slash : goal.returns-in-Slash
returns-in-Slash c =
    rw (slash_drafted c.args.p.now c.in-Slash.is) c.put.ensures

pub returns-in-Normal : goal.returns-in-Normal
returns-in-Normal c =
    rw (c.in-Normal.is, normal_drafted c.in-Normal.name c.in-Normal.ty c.in-Normal.default)
    (wrote_append _ _ _ _ _ (rw c.as_str.ensures.value at c.write_name.ensures)
    (wrote_append _ _ _ _ _ c.write_type_if_there.ensures c.write_if_there.ensures))

pub returns-in-NoArgs : goal.returns-in-NoArgs
returns-in-NoArgs c =
    rw (star_drafted c.args.p.now c.in-NoArgs.is) c.put-in-NoArgs.ensures

pub returns-in-Args : goal.returns-in-Args
returns-in-Args c =
    rw (c.in-Args.is, args_parameter_drafted c.in-Args.name c.in-Args.ty)
    (wrote_append _ _ _ _ _ c.put-in-Args.ensures (wrote_append _ _ _ _ _ (rw c.as_str-in-Args.ensures.value at c.write_name-in-Args.ensures)
    c.write_type_if_there-in-Args.ensures))

pub returns-in-KwArgs : goal.returns-in-KwArgs
returns-in-KwArgs c =
    rw (c.in-KwArgs.is, kwargs_parameter_drafted c.in-KwArgs.name c.in-KwArgs.ty)
    (wrote_append _ _ _ _ _ c.put-in-KwArgs.ensures (wrote_append _ _ _ _ _ (rw c.as_str-in-KwArgs.ensures.value at c.write_name-in-KwArgs.ensures)
    c.write_type_if_there-in-KwArgs.ensures))
