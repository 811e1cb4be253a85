-- A statement by its parts: what is directly in it, where these parts are, and what is refused in it alone.
use Rattle.std.specs.Prelude.{List as Seq, [], ◌++◌, not, ◌&&◌}
use Rattle.starlark_lexer.specs.Tokens.{Span}
use Rattle.starlark_lexer.specs.declared.dialect.Dialect.{Dialect}
use Rattle.starlark_tree.specs.Ast as t
use Rattle.starlark_tree.specs.Ast.{Payloads, parameter_list}
use Rattle.starlark_spec.specs.Faults.{Fault, rule_fault as fault, Dialect as of_dialect, Place}
use Rattle.starlark_spec.specs.declared.error.DialectError.TheVariants as dialects
use Rattle.starlark_spec.specs.declared.error.PlaceError.TheVariants as places
use Rattle.starlark_spec.specs.declared.error.PlaceError.{PlaceError}
use Rattle.starlark_validate.specs.KeptTreeFaults.{listed_if}
use Rattle.starlark_validate.specs.Validity.{Around, in_body_of_def, in_body_of_for, in_branch, params_faults}
use Rattle.starlark_validate.specs.declared.statements.Around.{Around as CodeAround}

-- a statement that is not allowed at the top
abbrev pub top_faults : Dialect → Around → PlaceError → Span → Seq Fault
top_faults d a error s = listed_if (a.at_top && not d.enable_top_level_stmt) (fault (Place error) s)

module _ {P : Payloads} where
  -- where the statements directly in a statement are
  abbrev pub around_in : Around → t.Form P → Around
  around_in a (t.IfThen e s) = in_branch a
  around_in a (t.IfElse e s other) = in_branch a
  around_in a (t.For x e s) = in_body_of_for a
  around_in a (t.Def w p ps ty s q) = in_body_of_def
  around_in a _ = a

  -- the faults of a statement alone
  abbrev pub own_form_faults : Dialect → Around → Span → t.Form P → Seq Fault
  own_form_faults d a s t.Break = listed_if (not a.in_for) (fault (Place places.BreakOutsideFor) s)
  own_form_faults d a s t.Continue = listed_if (not a.in_for) (fault (Place places.ContinueOutsideFor) s)
  own_form_faults d a s (t.Return e) = listed_if (not a.in_def) (fault (Place places.ReturnOutsideDef) s)
  own_form_faults d a s (t.IfThen e body) = top_faults d a places.IfAtTop s
  own_form_faults d a s (t.IfElse e body other) = top_faults d a places.IfAtTop s
  own_form_faults d a s (t.For x e body) = top_faults d a places.ForAtTop s
  own_form_faults d a s (t.Def w p ps ty body q) = listed_if (not d.enable_def) (fault (of_dialect dialects.Def) s) ++ params_faults d (parameter_list ps)
  own_form_faults d a s (t.Load path names p) =
      listed_if (not a.at_top) (fault (Place places.LoadNotAtTop) s) ++ listed_if (not d.enable_load) (fault (of_dialect dialects.Load) s)
  own_form_faults d a s _ = []

  abbrev pub own_statement_faults : Dialect → Around → t.Statement P → Seq Fault
  own_statement_faults d a (t.statement s form) = own_form_faults d a s form

abbrev pub around_of : CodeAround → Around
around_of a = record { at_top = a.at_top; in_for = a.in_for; in_def = a.in_def }
