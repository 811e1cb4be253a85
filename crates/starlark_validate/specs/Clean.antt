-- All faults in a part of a module, in any order; and which entries of a list clash.
use Rattle.std.specs.Prelude.{List as Seq, [], ◌++◌, map, Bool, not, ◌||◌, ◌&&◌}
use Rattle.std.specs.List.{flat_map}
use Rattle.starlark_lexer.specs.Tokens.{Text}
use Rattle.starlark_lexer.specs.declared.dialect.Dialect.{Dialect}
use Rattle.starlark_lexer.specs.declared.span.Spanned.{Spanned}
use Rattle.starlark_tree.specs.Ast as t
use Rattle.starlark_tree.specs.Ast.{Payloads, no_payload}
use Rattle.starlark_tree.specs.Inside.{inside}
use Rattle.starlark_tree.specs.Views.{payloads, statement_of}
use Rattle.starlark_tree.specs.declared.ast.StmtP.{StmtP}
use Rattle.starlark_checks.specs.Calls as calls
use Rattle.starlark_spec.specs.Faults.{Fault}
use Rattle.starlark_checks.specs.Parameters as parameters
use Rattle.starlark_validate.specs.KeptTreeFaults.{in_expression, in_statement, load_faults}
use Rattle.starlark_validate.specs.Validity.{Around, expression_faults, own_faults, statement_faults}
use Rattle.starlark_tree.specs.Children.{own_stmts}
use Rattle.starlark_validate.specs.Walks.Statements.{around_in, around_of}
use Rattle.starlark_validate.specs.declared.clean.Placed.{Placed as CodePlaced}
use Rattle.starlark_validate.specs.declared.statements.Around.{Around as CodeAround}

-- a statement, and where it is
pub record Placed (P : Payloads) : Type 0 where
  pub around : Around
  pub statement : t.Statement P

module _ {P : Payloads} where
  -- the faults of an expression and of all inside it
  abbrev pub all_in : Dialect → t.Expression P → Seq Fault
  all_in d e = in_expression d e ++ flat_map (own_faults d) (inside e)

  -- the faults of a statement at a position, and of all inside it
  abbrev pub all_in_placed : Dialect → Placed P → Seq Fault
  all_in_placed d p = in_statement d p.statement ++ (statement_faults d p.around p.statement ++ expression_faults d p.statement)

  -- the fault of a load that names nothing
  abbrev pub own_load : t.Form P → Seq Fault
  own_load (t.Load path names p) = load_faults path names
  own_load form = []

  abbrev pub placed_at : Around → t.Statement P → Placed P
  placed_at a s = record { around = a; statement = s }

  -- the statements directly in a statement, and where they are
  abbrev pub form_parts : Around → t.Form P → Seq (Placed P)
  form_parts a form = map (placed_at (around_in a form)) (own_stmts form)

  -- an argument that is not allowed after this one: it must precede it, or has its name
  abbrev pub clashes : t.Argument P → t.Argument P → Bool
  clashes (t.Positional s e) before = not (calls.is_positional before)
  clashes (t.Named s w e) before = calls.is_unpacked before || calls.has_name w.text before
  clashes (t.Star s e) before = calls.is_unpacked before
  clashes (t.StarStar s e) before = calls.is_star_star before

  -- a plain parameter of this name, with a default value or not, is not allowed after this entry
  abbrev pub misfits : Text → Bool → t.Parameter P → Bool
  misfits name given before = parameters.has_name name before || (parameters.is_kwargs before || (not given && parameters.has_default before))

abbrev pub placed_of : CodePlaced → Placed no_payload
placed_of p = placed_at (around_of p.around) (statement_of p.statement.now)

-- a statement in memory, at a position
abbrev pub placed_there : {P A B C D E : Type 0} → CodeAround → Spanned (StmtP P A B C D E) → Placed (payloads A B C D E)
placed_there a s = placed_at (around_of a) (statement_of s)
