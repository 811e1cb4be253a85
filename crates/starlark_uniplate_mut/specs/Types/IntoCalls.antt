-- Walking into an expression as what is done at it.
use Rattle.std.specs.Prelude.{◌<◌, length}
use Rattle.starlark_tree.specs.Ast as t
use Rattle.starlark_tree.specs.Walks.{Writing}
use Rattle.starlark_uniplate.specs.Types.{TypeExpression, expr_types}
use Rattle.starlark_uniplate_mut.specs.Types.Types.{IntoExpr, MayWriteTypes}

abbrev pub into_calls : {P : t.Payloads} {F E : Type 0} → Writing F (TypeExpression P) E → Writing F (t.Expression P) E
into_calls calls = record { may = λ f x. MayWriteTypes calls f; call = IntoExpr calls }

-- the same for expressions that have types of their own
abbrev pub typed_calls : {P : t.Payloads} {F E : Type 0} → Writing F (TypeExpression P) E → Writing F (t.Expression P) E
typed_calls calls = record { may = λ f x. MayWriteTypes calls f × (0 < length (expr_types x)); call = IntoExpr calls }
