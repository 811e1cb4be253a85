-- The expressions of a statement in terms of a mutable walk over statements.
use Rattle.starlark_tree.specs.Ast as t
use Rattle.starlark_tree.specs.Children.{own_exprs}
use Rattle.starlark_tree.specs.Walks.{MayWriteBy, Writing, WritesIn}
use Rattle.starlark_uniplate_mut.specs.FormFrames.{exprs_frame}

module _ {P : t.Payloads} {S E : Type 0} (by : Writing S (t.Expression P) E) where
  -- what is done at each expression of a statement, as what is done at the statement
  abbrev pub own_expr_calls : Writing S (t.Form P) E
  own_expr_calls = record { may = λ s x. MayWriteBy by s (own_exprs x); call = WritesIn own_exprs exprs_frame by }
