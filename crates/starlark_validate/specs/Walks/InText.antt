-- The children of a node in the order of the text.
use Rattle.std.specs.Prelude.{List as Seq, [], ◌∷◌, ◌++◌, option_to_list}
use Rattle.starlark_lexer.specs.declared.dialect.Dialect.{Dialect}
use Rattle.starlark_tree.specs.Ast as t
use Rattle.starlark_tree.specs.Ast.{Payloads, argument_list}
use Rattle.starlark_tree.specs.Places.{clauses_exprs, expr_children, for_exprs, parameters_exprs, target_exprs, type_exprs}
use Rattle.starlark_spec.specs.Faults.{Fault}
use Rattle.starlark_validate.specs.KeptTreeFaults.{call_faults, f_string_faults}

-- The value of a conditional expression is before its condition, and the element of a comprehension before its clauses.
abbrev pub children_in_text : {P : Payloads} → t.Shape P → Seq (t.Expression P)
children_in_text (t.If c v w) = v ∷ c ∷ w ∷ []
children_in_text (t.ListComprehension e for cs) = e ∷ (for_exprs for ++ clauses_exprs cs)
children_in_text (t.DictComprehension k v for cs) = k ∷ v ∷ (for_exprs for ++ clauses_exprs cs)
children_in_text shape = expr_children shape

-- the expressions directly in a statement, all of which are before the statements in it
abbrev pub form_exprs : {P : Payloads} → t.Form P → Seq (t.Expression P)
form_exprs (t.Return e) = option_to_list e
form_exprs (t.Evaluate e) = e ∷ []
form_exprs (t.Assign x ty e) = target_exprs x ++ (type_exprs ty ++ e ∷ [])
form_exprs (t.AssignModify x op e) = target_exprs x ++ e ∷ []
form_exprs (t.IfThen e s) = e ∷ []
form_exprs (t.IfElse e s other) = e ∷ []
form_exprs (t.For x e s) = target_exprs x ++ e ∷ []
form_exprs (t.Def w p ps ty s q) = parameters_exprs ps ++ type_exprs ty
form_exprs form = []

-- the faults of an expression itself
abbrev pub own_kept : {P : Payloads} → Dialect → t.Shape P → Seq Fault
own_kept d (t.Call e passed) = call_faults (argument_list passed)
own_kept d (t.FString s w es) = f_string_faults d s
own_kept d shape = []
