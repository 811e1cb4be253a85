-- The tokens of the JSON of what the code holds.
use Rattle.std.specs.Prelude.{ℕ, List as Seq, [], ◌∷◌, ◌++◌, codes, decimal, Option, option_map}
use Rattle.std.specs.Global.{Global}
use Rattle.std.specs.declared.boxed.Box.{Box}
use Rattle.json.specs.Token.{Token, begin_object, end_object, begin_array, end_array, key, string, number}
use Rattle.json.specs.Tree.{json_tokens}
use Rattle.starlark_lexer.specs.Tokens.{Span, Text, span_of}
use Rattle.starlark_lexer.specs.declared.span.Spanned.{Spanned}
use Rattle.starlark_tree.specs.Ast.{Word}
use Rattle.starlark_tree.specs.Views.{shape_seen, argument_seen, parameter_seen, clause_seen, for_in_of, target_seen, maybe_of}
use Rattle.starlark_tree.specs.Views.{boxed_type_of, maybe_type_of, load_arg_of, comma_span, expression_of, form_seen}
use Rattle.starlark_tree.specs.declared.ast.ArgumentP.{ArgumentP}
use Rattle.starlark_tree.specs.declared.ast.AssignTargetP.{AssignTargetP}
use Rattle.starlark_tree.specs.declared.ast.ClauseP.{ClauseP}
use Rattle.starlark_tree.specs.declared.ast.Comma.{Comma}
use Rattle.starlark_tree.specs.declared.ast.ExprP.{ExprP}
use Rattle.starlark_tree.specs.declared.ast.ForClauseP.{ForClauseP}
use Rattle.starlark_tree.specs.declared.ast.LoadArgP.{LoadArgP}
use Rattle.starlark_tree.specs.declared.ast.ParameterP.{ParameterP}
use Rattle.starlark_tree.specs.declared.ast.StmtP.{StmtP}
use Rattle.starlark_tree.specs.declared.ast.TypeExprP.{TypeExprP}
use Rattle.starlark_json.specs.Tree.Fields.{span_json, word_json}
use Rattle.starlark_json.specs.Tree.Trees.{shape_json, argument_json, parameter_json, clause_json, for_json, target_json, maybe_json}
use Rattle.starlark_json.specs.Tree.Trees.{maybe_type_json, load_arg_json, comma_json, value_json, form_json}

-- the start of a node, up to its own fields
abbrev pub head : Text → Text → Span → Seq Token
head family kind s = begin_object ∷ key family ∷ string kind ∷ key (codes "span") ∷ json_tokens (span_json s)

abbrev pub closing : Seq Token
closing = end_object ∷ []

abbrev pub text_field : Text → Text → Seq Token
text_field name text = key name ∷ string text ∷ []

abbrev pub word_field : Text → Word → Seq Token
word_field name w = key name ∷ json_tokens (word_json w)

-- the start of a clause
abbrev pub key_head : Text → Text → Seq Token
key_head family kind = begin_object ∷ key family ∷ string kind ∷ []

-- the start of a type, up to its expression
abbrev pub type_head : Span → Seq Token
type_head s = begin_object ∷ key (codes "span") ∷ json_tokens (span_json s)

abbrev pub number_tokens : ℕ → Seq Token
number_tokens n = number (decimal n) ∷ []

-- an array, by the tokens of its items
abbrev pub array_field : Text → Seq Token → Seq Token
array_field name items = key name ∷ begin_array ∷ (items ++ end_array ∷ [])

unfoldable pub comma_tokens : Option (Spanned Comma) → Seq Token
comma_tokens comma = json_tokens (comma_json (option_map comma_span comma))

module _ {P A B C D E : Type 0} where
  unfoldable pub expr_tokens : ExprP P A B C D E → Span → Seq Token
  expr_tokens e s = json_tokens (shape_json s (shape_seen e))

  unfoldable pub argument_tokens : ArgumentP P A B C D E → Span → Seq Token
  argument_tokens a s = json_tokens (argument_json (argument_seen s a))

  unfoldable pub parameter_tokens : ParameterP P A B C D E → Span → Seq Token
  parameter_tokens p s = json_tokens (parameter_json (parameter_seen s p))

  unfoldable pub target_tokens : AssignTargetP P A B C D E → Span → Seq Token
  target_tokens x s = json_tokens (target_json (target_seen s x))

  unfoldable pub for_tokens : ForClauseP P A B C D E → Seq Token
  for_tokens c = json_tokens (for_json (for_in_of c))

  unfoldable pub clause_tokens : ClauseP P A B C D E → Seq Token
  clause_tokens c = json_tokens (clause_json (clause_seen c))

  unfoldable pub maybe_tokens : Option (Box (Spanned (ExprP P A B C D E)) Global) → Seq Token
  maybe_tokens e = json_tokens (maybe_json (maybe_of e))

  unfoldable pub boxed_type_tokens : Option (Box (Spanned (TypeExprP P A B C D E)) Global) → Seq Token
  boxed_type_tokens ty = json_tokens (maybe_type_json (boxed_type_of ty))

  unfoldable pub maybe_type_tokens : Option (Spanned (TypeExprP P A B C D E)) → Seq Token
  maybe_type_tokens ty = json_tokens (maybe_type_json (maybe_type_of ty))

  unfoldable pub returned_tokens : Option (Spanned (ExprP P A B C D E)) → Seq Token
  returned_tokens value = json_tokens (value_json (option_map expression_of value))

  unfoldable pub load_arg_tokens : LoadArgP P A B C D E → Seq Token
  load_arg_tokens a = json_tokens (load_arg_json (load_arg_of a))

  unfoldable pub stmt_tokens : StmtP P A B C D E → Span → Seq Token
  stmt_tokens s at = json_tokens (form_json at (form_seen s))

  -- the tokens of what is at its own span
  abbrev pub expression_tokens : Spanned (ExprP P A B C D E) → Seq Token
  expression_tokens e = expr_tokens e.node (span_of e.span)

  abbrev pub expression_field : Text → Spanned (ExprP P A B C D E) → Seq Token
  expression_field name e = key name ∷ expression_tokens e

  abbrev pub pair_tokens : Spanned (ExprP P A B C D E) × Spanned (ExprP P A B C D E) → Seq Token
  pair_tokens p = begin_array ∷ (expression_tokens p.0 ++ (expression_tokens p.1 ++ end_array ∷ []))

  -- the clauses of a comprehension, up to the first
  abbrev pub first_clause : ForClauseP P A B C D E → Seq Token
  first_clause c = key (codes "clauses") ∷ begin_array ∷ for_tokens c

  abbrev pub spanned_argument_tokens : Spanned (ArgumentP P A B C D E) → Seq Token
  spanned_argument_tokens a = argument_tokens a.node (span_of a.span)

  abbrev pub spanned_parameter_tokens : Spanned (ParameterP P A B C D E) → Seq Token
  spanned_parameter_tokens p = parameter_tokens p.node (span_of p.span)

  abbrev pub spanned_target_tokens : Spanned (AssignTargetP P A B C D E) → Seq Token
  spanned_target_tokens x = target_tokens x.node (span_of x.span)

  abbrev pub statement_tokens : Spanned (StmtP P A B C D E) → Seq Token
  statement_tokens s = stmt_tokens s.node (span_of s.span)

  abbrev pub statement_field : Text → Spanned (StmtP P A B C D E) → Seq Token
  statement_field name s = key name ∷ statement_tokens s
