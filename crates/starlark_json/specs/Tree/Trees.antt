-- The JSON of a tree.
use Rattle.std.specs.Prelude.{List as Seq, [], ◌∷◌, codes, Option, Some, None}
use Rattle.json.specs.Json.{Json, null, string, array, object, Items, no_items, item, no_members, member}
use Rattle.starlark_lexer.specs.Tokens.{Span, Text}
use Rattle.starlark_tree.specs.Ast as t
use Rattle.starlark_tree.specs.Ast.{Payloads}
use Rattle.starlark_json.specs.Tree.Fields.{span_json, word_json, node, literal_fields, operator_name, assign_operator_name}

-- the families of nodes
abbrev pub expr : Text
expr = codes "expr"

abbrev pub argument : Text
argument = codes "argument"

abbrev pub parameter : Text
parameter = codes "parameter"

abbrev pub target : Text
target = codes "target"

abbrev pub clause : Text
clause = codes "clause"

abbrev pub stmt : Text
stmt = codes "stmt"

abbrev mutual
  pub expression_json : {P : Payloads} → t.Expression P → Json
  expression_json (t.expression s shape) = shape_json s shape

  -- an expression of this shape, which is here
  pub shape_json : {P : Payloads} → Span → t.Shape P → Json
  shape_json s (t.Tuple es) = node expr (codes "Tuple") s (member (codes "items") (array (expressions_json es)) no_members)
  shape_json s (t.Dot e w) = node expr (codes "Dot") s (member (codes "object") (expression_json e) (member (codes "attribute") (word_json w) no_members))
  shape_json s (t.Call f xs) =
      node expr (codes "Call") s (member (codes "callee") (expression_json f) (member (codes "args") (array (arguments_json xs)) no_members))
  shape_json s (t.Index a i) =
      node expr (codes "Index") s (member (codes "array") (expression_json a) (member (codes "index") (expression_json i) no_members))
  shape_json s (t.Index2 a i j) =
      node expr (codes "Index2") s
      (member (codes "array") (expression_json a) (member (codes "index0") (expression_json i) (member (codes "index1") (expression_json j) no_members)))
  shape_json s (t.Slice a start stop step) =
      node expr (codes "Slice") s
      (member (codes "array") (expression_json a)
      (member (codes "start") (maybe_json start) (member (codes "stop") (maybe_json stop) (member (codes "step") (maybe_json step) no_members))))
  shape_json s (t.Identifier w p) = node expr (codes "Identifier") s (member (codes "name") (string w.text) no_members)
  shape_json s (t.Lambda ps e p) =
      node expr (codes "Lambda") s (member (codes "params") (array (parameters_json ps)) (member (codes "body") (expression_json e) no_members))
  shape_json s (t.Constant x) = node expr (codes "Literal") s (literal_fields x)
  shape_json s (t.Not e) = node expr (codes "Not") s (member (codes "operand") (expression_json e) no_members)
  shape_json s (t.Minus e) = node expr (codes "Minus") s (member (codes "operand") (expression_json e) no_members)
  shape_json s (t.Plus e) = node expr (codes "Plus") s (member (codes "operand") (expression_json e) no_members)
  shape_json s (t.BitNot e) = node expr (codes "BitNot") s (member (codes "operand") (expression_json e) no_members)
  shape_json s (t.Op l operator r) =
      node expr (codes "Op") s
      (member (codes "op") (string (operator_name operator))
      (member (codes "left") (expression_json l) (member (codes "right") (expression_json r) no_members)))
  shape_json s (t.If c a b) =
      node expr (codes "If") s
      (member (codes "condition") (expression_json c) (member (codes "then") (expression_json a) (member (codes "else") (expression_json b) no_members)))
  shape_json s (t.List es) = node expr (codes "List") s (member (codes "items") (array (expressions_json es)) no_members)
  shape_json s (t.Dict ps) = node expr (codes "Dict") s (member (codes "entries") (array (pairs_json ps)) no_members)
  shape_json s (t.ListComprehension e first cs) =
      node expr (codes "ListComprehension") s
      (member (codes "element") (expression_json e) (member (codes "clauses") (array (item (for_json first) (clauses_json cs))) no_members))
  shape_json s (t.DictComprehension k v first cs) =
      node expr (codes "DictComprehension") s
      (member (codes "key") (expression_json k)
      (member (codes "value") (expression_json v) (member (codes "clauses") (array (item (for_json first) (clauses_json cs))) no_members)))
  shape_json s (t.FString at format es) =
      node expr (codes "FString") s (member (codes "format") (word_json format) (member (codes "expressions") (array (expressions_json es)) no_members))

  pub expressions_json : {P : Payloads} → t.Expressions P → Items
  expressions_json t.no_expressions = no_items
  expressions_json (t.expressions e es) = item (expression_json e) (expressions_json es)

  pub maybe_json : {P : Payloads} → t.Maybe P → Json
  maybe_json t.absent = null
  maybe_json (t.present e) = expression_json e

  pub maybe_type_json : {P : Payloads} → t.MaybeType P → Json
  maybe_type_json t.no_type = null
  maybe_type_json (t.typed s e p) = object (member (codes "span") (span_json s) (member (codes "expr") (expression_json e) no_members))

  -- each entry is an array of its key and its value
  pub pairs_json : {P : Payloads} → t.Pairs P → Items
  pairs_json t.no_pairs = no_items
  pairs_json (t.pairs k v ps) = item (array (item (expression_json k) (item (expression_json v) no_items))) (pairs_json ps)

  pub argument_json : {P : Payloads} → t.Argument P → Json
  argument_json (t.Positional s e) = node argument (codes "Positional") s (member (codes "value") (expression_json e) no_members)
  argument_json (t.Named s w e) =
      node argument (codes "Named") s (member (codes "name") (word_json w) (member (codes "value") (expression_json e) no_members))
  argument_json (t.Star s e) = node argument (codes "Args") s (member (codes "value") (expression_json e) no_members)
  argument_json (t.StarStar s e) = node argument (codes "KwArgs") s (member (codes "value") (expression_json e) no_members)

  pub arguments_json : {P : Payloads} → t.Arguments P → Items
  arguments_json t.no_arguments = no_items
  arguments_json (t.arguments a rest) = item (argument_json a) (arguments_json rest)

  pub parameter_json : {P : Payloads} → t.Parameter P → Json
  parameter_json (t.Slash s) = node parameter (codes "Slash") s no_members
  parameter_json (t.Normal s w p ty value) =
      node parameter (codes "Normal") s
      (member (codes "name") (word_json w) (member (codes "type") (maybe_type_json ty) (member (codes "default") (maybe_json value) no_members)))
  parameter_json (t.NoArgs s) = node parameter (codes "NoArgs") s no_members
  parameter_json (t.Args s w p ty) =
      node parameter (codes "Args") s (member (codes "name") (word_json w) (member (codes "type") (maybe_type_json ty) no_members))
  parameter_json (t.KwArgs s w p ty) =
      node parameter (codes "KwArgs") s (member (codes "name") (word_json w) (member (codes "type") (maybe_type_json ty) no_members))

  pub parameters_json : {P : Payloads} → t.Parameters P → Items
  parameters_json t.no_parameters = no_items
  parameters_json (t.parameters p ps) = item (parameter_json p) (parameters_json ps)

  pub for_json : {P : Payloads} → t.ForIn P → Json
  for_json (t.for_in x e) =
      object (member clause (string (codes "For")) (member (codes "var") (target_json x) (member (codes "over") (expression_json e) no_members)))

  pub clause_json : {P : Payloads} → t.Clause P → Json
  clause_json (t.for_clause c) = for_json c
  clause_json (t.if_clause e) = object (member clause (string (codes "If")) (member (codes "condition") (expression_json e) no_members))

  pub clauses_json : {P : Payloads} → t.Clauses P → Items
  clauses_json t.no_clauses = no_items
  clauses_json (t.clauses c cs) = item (clause_json c) (clauses_json cs)

  pub target_json : {P : Payloads} → t.Target P → Json
  target_json (t.TupleTarget s xs) = node target (codes "Tuple") s (member (codes "items") (array (targets_json xs)) no_members)
  target_json (t.IndexTarget s a i) =
      node target (codes "Index") s (member (codes "array") (expression_json a) (member (codes "index") (expression_json i) no_members))
  target_json (t.DotTarget s e w) =
      node target (codes "Dot") s (member (codes "object") (expression_json e) (member (codes "attribute") (word_json w) no_members))
  target_json (t.NameTarget s w p) = node target (codes "Identifier") s (member (codes "name") (string w.text) no_members)

  pub targets_json : {P : Payloads} → t.Targets P → Items
  targets_json t.no_targets = no_items
  targets_json (t.targets x xs) = item (target_json x) (targets_json xs)

abbrev pub value_json : {P : Payloads} → Option (t.Expression P) → Json
value_json None = null
value_json (Some e) = expression_json e

abbrev pub comma_json : Option Span → Json
comma_json None = null
comma_json (Some s) = span_json s

abbrev pub load_arg_json : {P : Payloads} → t.LoadArg P → Json
load_arg_json a =
    object (member (codes "local") (word_json a.local) (member (codes "their") (word_json a.their) (member (codes "comma") (comma_json a.comma) no_members)))

abbrev pub load_args_json : {P : Payloads} → Seq (t.LoadArg P) → Items
load_args_json [] = no_items
load_args_json (a ∷ rest) = item (load_arg_json a) (load_args_json rest)

abbrev mutual
  pub statement_json : {P : Payloads} → t.Statement P → Json
  statement_json (t.statement s form) = form_json s form

  -- a statement of this form, which is here
  pub form_json : {P : Payloads} → Span → t.Form P → Json
  form_json s t.Break = node stmt (codes "Break") s no_members
  form_json s t.Continue = node stmt (codes "Continue") s no_members
  form_json s t.Pass = node stmt (codes "Pass") s no_members
  form_json s (t.Return value) = node stmt (codes "Return") s (member (codes "value") (value_json value) no_members)
  form_json s (t.Evaluate e) = node stmt (codes "Expression") s (member (codes "value") (expression_json e) no_members)
  form_json s (t.Assign x ty e) =
      node stmt (codes "Assign") s
      (member (codes "lhs") (target_json x) (member (codes "type") (maybe_type_json ty) (member (codes "rhs") (expression_json e) no_members)))
  form_json s (t.AssignModify x operator e) =
      node stmt (codes "AssignModify") s
      (member (codes "lhs") (target_json x)
      (member (codes "op") (string (assign_operator_name operator)) (member (codes "rhs") (expression_json e) no_members)))
  form_json s (t.Block ss) = node stmt (codes "Statements") s (member (codes "statements") (array (statements_json ss)) no_members)
  form_json s (t.IfThen e body) =
      node stmt (codes "If") s (member (codes "condition") (expression_json e) (member (codes "then") (statement_json body) no_members))
  form_json s (t.IfElse e body other) =
      node stmt (codes "IfElse") s
      (member (codes "condition") (expression_json e)
      (member (codes "then") (statement_json body) (member (codes "else") (statement_json other) no_members)))
  form_json s (t.For x over body) =
      node stmt (codes "For") s
      (member (codes "var") (target_json x) (member (codes "over") (expression_json over) (member (codes "body") (statement_json body) no_members)))
  form_json s (t.Def w p ps ty body q) =
      node stmt (codes "Def") s
      (member (codes "name") (word_json w)
      (member (codes "params") (array (parameters_json ps))
      (member (codes "return_type") (maybe_type_json ty) (member (codes "body") (statement_json body) no_members))))
  form_json s (t.Load w args p) =
      node stmt (codes "Load") s (member (codes "module") (word_json w) (member (codes "args") (array (load_args_json args)) no_members))

  pub statements_json : {P : Payloads} → t.Statements P → Items
  statements_json t.no_statements = no_items
  statements_json (t.statements s ss) = item (statement_json s) (statements_json ss)
