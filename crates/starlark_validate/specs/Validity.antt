-- The faults of a tree under a dialect: those of its statements, and those of its expressions.
use Rattle.std.specs.Prelude.{List as Seq, [], ◌++◌, Bool, true, false, not, ◌&&◌, option_to_list}
use Rattle.std.specs.List.{flat_map}
use Rattle.starlark_lexer.specs.declared.dialect.Dialect.{Dialect}
use Rattle.starlark_lexer.specs.declared.dialect.DialectTypes.{DialectTypes}
use Rattle.starlark_lexer.specs.declared.dialect.DialectTypes.TheVariants.{Disable}
use Rattle.starlark_tree.specs.Ast as t
use Rattle.starlark_tree.specs.Ast.{Payloads, Parameter, parameter_list, parameter_span}
use Rattle.starlark_spec.specs.Faults.{Fault, rule_fault as fault, Dialect as of_dialect, Place}
use Rattle.starlark_checks.specs.Parameters.{params_fault, is_slash}
use Rattle.starlark_spec.specs.declared.error.DialectError.TheVariants as dialects
use Rattle.starlark_spec.specs.declared.error.PlaceError.TheVariants as places
use Rattle.starlark_validate.specs.KeptTreeFaults.{listed_if}
use Rattle.starlark_tree.specs.Inside.{inside_statement}

-- where a statement is
pub record Around : Type 0 where
  pub at_top : Bool
  pub in_for : Bool
  pub in_def : Bool

abbrev pub top : Around
top = record { at_top = true; in_for = false; in_def = false }

abbrev pub in_body_of_def : Around
in_body_of_def = record { at_top = false; in_for = false; in_def = true }

abbrev pub in_body_of_for : Around → Around
in_body_of_for a = record a { at_top = false; in_for = true }

abbrev pub in_branch : Around → Around
in_branch a = record a { at_top = false }

module _ {P : Payloads} where
  abbrev pub is_star : Parameter P → Bool
  is_star (t.NoArgs s) = true
  is_star _ = false

  -- a `*` if they are off
  abbrev pub star_faults : Dialect → Parameter P → Seq Fault
  star_faults d p = listed_if (is_star p && not d.enable_keyword_only_arguments) (fault (of_dialect dialects.KeywordOnly) (parameter_span p))

  -- a `/` if they are off
  abbrev pub slash_faults : Dialect → Parameter P → Seq Fault
  slash_faults d p = listed_if (is_slash p && not d.enable_positional_only_arguments) (fault (of_dialect dialects.PositionalOnly) (parameter_span p))

  -- each `*`, then each `/`, then the first entry that is not allowed where it is
  abbrev pub params_faults : Dialect → Seq (Parameter P) → Seq Fault
  params_faults d ps = flat_map (star_faults d) ps ++ (flat_map (slash_faults d) ps ++ option_to_list (params_fault ps))

abbrev pub are_disabled : DialectTypes → Bool
are_disabled Disable = true
are_disabled _ = false

-- the faults of statements, each before what it contains
abbrev mutual
  pub statement_faults : {P : Payloads} → Dialect → Around → t.Statement P → Seq Fault
  statement_faults d a (t.statement s t.Break) = listed_if (not a.in_for) (fault (Place places.BreakOutsideFor) s)
  statement_faults d a (t.statement s t.Continue) = listed_if (not a.in_for) (fault (Place places.ContinueOutsideFor) s)
  statement_faults d a (t.statement s t.Pass) = []
  statement_faults d a (t.statement s (t.Return e)) = listed_if (not a.in_def) (fault (Place places.ReturnOutsideDef) s)
  statement_faults d a (t.statement s (t.Evaluate e)) = []
  statement_faults d a (t.statement s (t.Assign x ty e)) = []
  statement_faults d a (t.statement s (t.AssignModify x op e)) = []
  statement_faults d a (t.statement s (t.Block ss)) = statements_faults d a ss
  statement_faults d a (t.statement s (t.IfThen e body)) =
      listed_if (a.at_top && not d.enable_top_level_stmt) (fault (Place places.IfAtTop) s) ++ statement_faults d (in_branch a) body
  statement_faults d a (t.statement s (t.IfElse e body other)) =
      listed_if (a.at_top && not d.enable_top_level_stmt) (fault (Place places.IfAtTop) s)
      ++ (statement_faults d (in_branch a) body ++ statement_faults d (in_branch a) other)
  statement_faults d a (t.statement s (t.For x e body)) =
      listed_if (a.at_top && not d.enable_top_level_stmt) (fault (Place places.ForAtTop) s) ++ statement_faults d (in_body_of_for a) body
  statement_faults d a (t.statement s (t.Def w p ps ty body q)) =
      listed_if (not d.enable_def) (fault (of_dialect dialects.Def) s) ++ (params_faults d (parameter_list ps) ++ statement_faults d in_body_of_def body)
  statement_faults d a (t.statement s (t.Load path names p)) =
      listed_if (not a.at_top) (fault (Place places.LoadNotAtTop) s) ++ listed_if (not d.enable_load) (fault (of_dialect dialects.Load) s)

  pub statements_faults : {P : Payloads} → Dialect → Around → t.Statements P → Seq Fault
  statements_faults d a t.no_statements = []
  statements_faults d a (t.statements s ss) = statement_faults d a s ++ statements_faults d a ss

module _ {P : Payloads} where
  -- the faults of one expression
  abbrev pub own_faults : Dialect → t.Expression P → Seq Fault
  own_faults d (t.expression s (t.Constant t.Ellipsis)) = listed_if (are_disabled d.enable_types) (fault (of_dialect dialects.Ellipsis) s)
  own_faults d (t.expression s (t.Lambda ps e p)) =
      listed_if (not d.enable_lambda) (fault (of_dialect dialects.Lambda) s) ++ params_faults d (parameter_list ps)
  own_faults d (t.expression s _) = []

  -- the faults of expressions, each before what it contains
  abbrev pub expression_faults : Dialect → t.Statement P → Seq Fault
  expression_faults d s = flat_map (own_faults d) (inside_statement s)

  -- the statements' first, then the expressions'
  abbrev pub tree_faults : Dialect → t.Statement P → Seq Fault
  tree_faults d s = statement_faults d top s ++ expression_faults d s
