-- The displayed text of a tree.
use Rattle.std.specs.Prelude.{ℕ, ◌+◌, ◌*◌, List as Seq, [], ◌∷◌, ◌++◌, codes, Some, None, replicate}
use Rattle.starlark_lexer.specs.Tokens.{Text}
use Rattle.starlark_tree.specs.Ast as t
use Rattle.starlark_tree.specs.Ast.{Payloads}
use Rattle.starlark_tree.specs.Joined.{comma_separated, listed, in_tuple}
use Rattle.starlark_tree.specs.Literals.{literal_text, quoted}
use Rattle.starlark_tree.specs.Operators.{operator_text, assign_operator_text}

abbrev mutual
  pub expression_text : {P : Payloads} → t.Expression P → Text
  expression_text (t.expression s shape) = shape_text shape

  pub shape_text : {P : Payloads} → t.Shape P → Text
  shape_text (t.Tuple es) = codes "(" ++ in_tuple (expression_texts es) ++ codes ")"
  shape_text (t.Dot e w) = expression_text e ++ codes "." ++ w.text
  shape_text (t.Call f xs) = expression_text f ++ codes "(" ++ listed (argument_texts xs) ++ codes ")"
  shape_text (t.Index a i) = expression_text a ++ codes "[" ++ expression_text i ++ codes "]"
  shape_text (t.Index2 a i j) = expression_text a ++ codes "[" ++ expression_text i ++ codes ", " ++ expression_text j ++ codes "]"
  shape_text (t.Slice a start stop step) =
      expression_text a ++ codes "[]" ++ maybe_text [] start ++ codes ":" ++ maybe_text [] stop ++ maybe_text (codes ":") step
  shape_text (t.Identifier w p) = w.text
  shape_text (t.Lambda ps e p) = codes "(lambda " ++ listed (parameter_texts ps) ++ codes ": " ++ expression_text e ++ codes ")"
  shape_text (t.Constant literal) = literal_text literal
  shape_text (t.Not e) = codes "(not " ++ expression_text e ++ codes ")"
  shape_text (t.Minus e) = codes "-" ++ expression_text e
  shape_text (t.Plus e) = codes "+" ++ expression_text e
  shape_text (t.BitNot e) = codes "~" ++ expression_text e
  shape_text (t.Op l operator r) = codes "(" ++ expression_text l ++ operator_text operator ++ expression_text r ++ codes ")"
  shape_text (t.If c a b) = codes "(" ++ expression_text a ++ codes " if " ++ expression_text c ++ codes " else " ++ expression_text b ++ codes ")"
  shape_text (t.List es) = codes "[" ++ listed (expression_texts es) ++ codes "]"
  shape_text (t.Dict ps) = codes "{" ++ listed (pair_texts ps) ++ codes "}"
  shape_text (t.ListComprehension e first cs) = codes "[" ++ expression_text e ++ for_text first ++ clauses_text cs ++ codes "]"
  shape_text (t.DictComprehension k v first cs) =
      codes "{" ++ expression_text k ++ codes ": " ++ expression_text v ++ for_text first ++ clauses_text cs ++ codes "}"
  shape_text (t.FString s format es) = format.text ++ codes ".format(" ++ listed (expression_texts es) ++ codes ")"

  pub expression_texts : {P : Payloads} → t.Expressions P → Seq Text
  expression_texts t.no_expressions = []
  expression_texts (t.expressions e es) = expression_text e ∷ expression_texts es

  -- what is before it, and the expression, if there is one
  pub maybe_text : {P : Payloads} → Text → t.Maybe P → Text
  maybe_text before t.absent = []
  maybe_text before (t.present e) = before ++ expression_text e

  pub maybe_type_text : {P : Payloads} → Text → t.MaybeType P → Text
  maybe_type_text before t.no_type = []
  maybe_type_text before (t.typed s e p) = before ++ expression_text e

  pub pair_texts : {P : Payloads} → t.Pairs P → Seq Text
  pair_texts t.no_pairs = []
  pair_texts (t.pairs k v ps) = (expression_text k ++ codes ": " ++ expression_text v) ∷ pair_texts ps

  pub argument_text : {P : Payloads} → t.Argument P → Text
  argument_text (t.Positional s e) = expression_text e
  argument_text (t.Named s w e) = w.text ++ codes " = " ++ expression_text e
  argument_text (t.Star s e) = codes "*" ++ expression_text e
  argument_text (t.StarStar s e) = codes "**" ++ expression_text e

  pub argument_texts : {P : Payloads} → t.Arguments P → Seq Text
  argument_texts t.no_arguments = []
  argument_texts (t.arguments a rest) = argument_text a ∷ argument_texts rest

  pub parameter_text : {P : Payloads} → t.Parameter P → Text
  parameter_text (t.Slash s) = codes "/"
  parameter_text (t.Normal s w p ty value) = w.text ++ maybe_type_text (codes ": ") ty ++ maybe_text (codes " = ") value
  parameter_text (t.NoArgs s) = codes "*"
  parameter_text (t.Args s w p ty) = codes "*" ++ w.text ++ maybe_type_text (codes ": ") ty
  parameter_text (t.KwArgs s w p ty) = codes "**" ++ w.text ++ maybe_type_text (codes ": ") ty

  pub parameter_texts : {P : Payloads} → t.Parameters P → Seq Text
  parameter_texts t.no_parameters = []
  parameter_texts (t.parameters p ps) = parameter_text p ∷ parameter_texts ps

  pub for_text : {P : Payloads} → t.ForIn P → Text
  for_text (t.for_in target over) = codes " for " ++ target_text target ++ codes " in " ++ expression_text over

  pub clause_text : {P : Payloads} → t.Clause P → Text
  clause_text (t.for_clause c) = for_text c
  clause_text (t.if_clause e) = codes " if " ++ expression_text e

  pub clauses_text : {P : Payloads} → t.Clauses P → Text
  clauses_text t.no_clauses = []
  clauses_text (t.clauses c cs) = clause_text c ++ clauses_text cs

  pub target_text : {P : Payloads} → t.Target P → Text
  target_text (t.TupleTarget s ts) = codes "(" ++ in_tuple (target_texts ts) ++ codes ")"
  target_text (t.IndexTarget s a i) = expression_text a ++ codes "[" ++ expression_text i ++ codes "]"
  target_text (t.DotTarget s e w) = expression_text e ++ codes "." ++ w.text
  target_text (t.NameTarget s w p) = w.text

  pub target_texts : {P : Payloads} → t.Targets P → Seq Text
  target_texts t.no_targets = []
  target_texts (t.targets x xs) = target_text x ∷ target_texts xs

abbrev pub load_arg_text : {P : Payloads} → t.LoadArg P → Text
load_arg_text a = a.local.text ++ codes " = " ++ quoted a.their.text

-- two spaces for each block around it
abbrev pub indent : ℕ → Text
indent depth = replicate (2 * depth) 32

abbrev pub line : ℕ → Text → Text
line depth text = indent depth ++ text ++ codes "\n"

-- the parameters and the return type of a definition
abbrev pub signature_text : {P : Payloads} → t.Parameters P → t.MaybeType P → Text
signature_text ps ty = codes "(" ++ listed (parameter_texts ps) ++ codes ")" ++ maybe_type_text (codes " -> ") ty

abbrev mutual
  pub statement_text : {P : Payloads} → ℕ → t.Statement P → Text
  statement_text depth (t.statement s form) = form_text depth form

  pub form_text : {P : Payloads} → ℕ → t.Form P → Text
  form_text depth t.Break = line depth (codes "break")
  form_text depth t.Continue = line depth (codes "continue")
  form_text depth t.Pass = line depth (codes "pass")
  form_text depth (t.Return None) = line depth (codes "return")
  form_text depth (t.Return (Some e)) = line depth (codes "return " ++ expression_text e)
  form_text depth (t.Evaluate e) = line depth (expression_text e)
  form_text depth (t.Assign target ty e) = line depth (target_text target ++ maybe_type_text (codes " : ") ty ++ codes " = " ++ expression_text e)
  form_text depth (t.AssignModify target operator e) = line depth (target_text target ++ assign_operator_text operator ++ expression_text e)
  form_text depth (t.Block ss) = statements_text depth ss
  form_text depth (t.IfThen e body) = line depth (codes "if " ++ expression_text e ++ codes ":") ++ statement_text (depth + 1) body
  form_text depth (t.IfElse e body other) =
      line depth (codes "if " ++ expression_text e ++ codes ":") ++ statement_text (depth + 1) body
      ++ line depth (codes "else:") ++ statement_text (depth + 1) other
  form_text depth (t.For target over body) =
      line depth (codes "for " ++ target_text target ++ codes " in " ++ expression_text over ++ codes ":") ++ statement_text (depth + 1) body
  form_text depth (t.Def w p ps ty body q) =
      line depth (codes "def " ++ w.text ++ signature_text ps ty ++ codes ":")
      ++ statement_text (depth + 1) body
  form_text depth (t.Load w args p) = line depth (codes "load(" ++ quoted w.text ++ codes ", " ++ comma_separated load_arg_text args ++ codes ")")

  pub statements_text : {P : Payloads} → ℕ → t.Statements P → Text
  statements_text depth t.no_statements = []
  statements_text depth (t.statements s ss) = statement_text depth s ++ statements_text depth ss
