-- The trees of held values.
use Rattle.std.specs.Prelude.{List, [], ◌∷◌, map, Option, Some, None, option_map}
use Rattle.std.specs.Vec.Iter.{into_iter_items}
use Rattle.starlark_lexer.specs.Tokens.{Span}
use Rattle.starlark_tree.specs.Ast.{Word, LoadArg, ForIn, Clause, Target, MaybeType, no_type, Expression}
use Rattle.starlark_tree.specs.Ast.{Argument, Parameter, Statement, Maybe, absent, present, no_payload}
use Rattle.starlark_tree.specs.Views as tree
use Rattle.starlark_parse_held.specs.declared.annotation.HeldType.{HeldType}
use Rattle.starlark_parse_held.specs.declared.argument.HeldArgument.{HeldArgument}
use Rattle.starlark_parse_held.specs.declared.argument.HeldArguments.{HeldArguments}
use Rattle.starlark_parse_held.specs.declared.argument.HeldEntries.{HeldEntries}
use Rattle.starlark_parse_held.specs.declared.clause.HeldForClause.{HeldForClause}
use Rattle.starlark_parse_held.specs.declared.clause.HeldClauses.{HeldClauses}
use Rattle.starlark_parse_held.specs.declared.expression.HeldExpr.{HeldExpr}
use Rattle.starlark_parse_held.specs.declared.expression.HeldExprs.{HeldExprs}
use Rattle.starlark_parse_held.specs.declared.expression.HeldRest.{HeldRest}
use Rattle.starlark_parse_held.specs.declared.expression.HeldTree.{HeldTree}
use Rattle.starlark_parse_held.specs.declared.load.HeldSymbol.{HeldSymbol}
use Rattle.starlark_parse_held.specs.declared.load.HeldSymbols.{HeldSymbols}
use Rattle.starlark_parse_held.specs.declared.parameter.HeldParameter.{HeldParameter}
use Rattle.starlark_parse_held.specs.declared.parameter.HeldParameters.{HeldParameters}
use Rattle.starlark_parse_held.specs.declared.statement.HeldStmt.{HeldStmt}
use Rattle.starlark_parse_held.specs.declared.statement.HeldStmts.{HeldStmts}
use Rattle.starlark_parse_held.specs.declared.target.HeldTarget.{HeldTarget}
use Rattle.starlark_parse_held.specs.declared.target.HeldTargets.{HeldTargets}

abbrev pub expression_of : HeldExpr → Expression no_payload
expression_of e = tree.expression_of e.tree.value

-- the expression by value
abbrev pub unboxed_of : HeldTree → Expression no_payload
unboxed_of e = tree.expression_of e.tree

abbrev pub expressions_in : HeldExprs → List (Expression no_payload)
expressions_in es = map tree.expression_of es.trees.items

-- the rest of expressions that are returned one by one
abbrev pub rest_of : HeldRest → List (Expression no_payload)
rest_of es = map tree.expression_of (into_iter_items es.trees)

abbrev pub maybe_of : Option HeldExpr → Maybe no_payload
maybe_of None = absent
maybe_of (Some e) = present (expression_of e)

abbrev pub pair_of : HeldExpr × HeldExpr → Expression no_payload × Expression no_payload
pair_of p = (expression_of p.0, expression_of p.1)

abbrev pub entries_in : HeldEntries → List (Expression no_payload × Expression no_payload)
entries_in ps = map tree.pair_of ps.trees.items

abbrev pub argument_of : HeldArgument → Argument no_payload
argument_of a = tree.argument_of a.tree

abbrev pub arguments_in : HeldArguments → List (Argument no_payload)
arguments_in xs = map tree.argument_of xs.trees.items

abbrev pub parameter_of : HeldParameter → Parameter no_payload
parameter_of p = tree.parameter_of p.tree

abbrev pub parameters_in : HeldParameters → List (Parameter no_payload)
parameters_in ps = map tree.parameter_of ps.trees.items

abbrev pub target_of : HeldTarget → Target no_payload
target_of x = tree.target_of x.tree

abbrev pub targets_in : HeldTargets → List (Target no_payload)
targets_in xs = map tree.target_of xs.trees.items

abbrev pub for_in_of : HeldForClause → ForIn no_payload
for_in_of c = tree.for_in_of c.tree

-- the first clause of a comprehension, and the others
abbrev pub clauses_in : HeldClauses → ForIn no_payload × List (Clause no_payload)
clauses_in cs = (tree.for_in_of cs.first.value, map tree.clause_seen cs.rest.items)

abbrev pub type_of : HeldType → MaybeType no_payload
type_of x = tree.type_of x.tree.value

abbrev pub annotation_of : Option HeldType → MaybeType no_payload
annotation_of None = no_type
annotation_of (Some x) = type_of x

abbrev pub symbol_of : HeldSymbol → Word × Word
symbol_of s = (tree.word s.local, tree.word s.their)

abbrev pub load_arg : Word × Word → Option Span → LoadArg no_payload
load_arg names comma = record { local = names.0; payload = tt; their = names.1; comma = comma }

abbrev pub load_args_in : HeldSymbols → List (LoadArg no_payload)
load_args_in ss = map tree.load_arg_of ss.trees.items

abbrev pub statement_of : HeldStmt → Statement no_payload
statement_of s = tree.statement_of s.tree.value

abbrev pub statements_in : HeldStmts → List (Statement no_payload)
statements_in ss = map tree.statement_of ss.trees.items

-- the statement after an `else`, or from an `elif` on
abbrev pub other_of : Option HeldStmt → Option (Statement no_payload)
other_of s = option_map statement_of s
