-- The bytes of a tree: of each node after those of its parts.
use Rattle.std.specs.Prelude.{ℕ, suc, [], ◌++◌, flat_map, length, Option, Some, None}
use Rattle.std.specs.Int.{cast_unsigned}
use mir.Syntax.{w32}
use Rattle.starlark_lexer.specs.Tokens.{Number, Span, Text}
use Rattle.starlark_lexer.specs.Tokens as tokens
use Rattle.starlark_tree.specs.Ast as t
use Rattle.starlark_tree.specs.Ast.{Payloads, argument_list, clause_list, expression_list, parameter_list, statement_list, target_list}
use Rattle.starlark_compact.specs.Bytes.{number, count, sized, span_bytes, word_bytes, mark, node}
use Rattle.starlark_compact.specs.Kinds.{operator_number, assign_operator_number}
use Rattle.starlark_compact.specs.declared.kind.Kind.TheVariants as kind

abbrev pub number_bytes : Span → Number → Text
number_bytes s (tokens.small n) = node kind.Int s ++ number (cast_unsigned w32 n)
number_bytes s (tokens.large text) = node kind.BigInt s ++ sized text

-- of a literal whose node is here
abbrev pub literal_bytes : Span → t.Literal → Text
literal_bytes s (t.Int at n) = number_bytes s n
literal_bytes s (t.Float w) = node kind.Float s ++ sized w.text
literal_bytes s (t.String w) = node kind.String s ++ sized w.text
literal_bytes s (t.Bytes w) = node kind.Bytes s ++ sized w.text
literal_bytes s t.Ellipsis = node kind.Ellipsis s

abbrev pub pair_count : {P : Payloads} → t.Pairs P → ℕ
pair_count t.no_pairs = 0
pair_count (t.pairs k v ps) = suc (pair_count ps)

abbrev mutual
  pub expression_bytes : {P : Payloads} → t.Expression P → Text
  expression_bytes (t.expression s shape) = shape_bytes s shape

  -- an expression of this shape, which is here
  pub shape_bytes : {P : Payloads} → Span → t.Shape P → Text
  shape_bytes s (t.Tuple es) = expressions_bytes es ++ (node kind.Tuple s ++ count (length (expression_list es)))
  shape_bytes s (t.Dot e w) = expression_bytes e ++ (node kind.Dot s ++ word_bytes w)
  shape_bytes s (t.Call f xs) = expression_bytes f ++ (arguments_bytes xs ++ (node kind.Call s ++ count (length (argument_list xs))))
  shape_bytes s (t.Index a i) = expression_bytes a ++ (expression_bytes i ++ node kind.Index s)
  shape_bytes s (t.Index2 a i j) = expression_bytes a ++ (expression_bytes i ++ (expression_bytes j ++ node kind.Index2 s))
  shape_bytes s (t.Slice a start stop step) =
      expression_bytes a ++ (maybe_bytes start ++ (maybe_bytes stop ++ (maybe_bytes step ++ node kind.Slice s)))
  shape_bytes s (t.Identifier w p) = node kind.Identifier s ++ sized w.text
  shape_bytes s (t.Lambda ps e p) = parameters_bytes ps ++ (expression_bytes e ++ (node kind.Lambda s ++ count (length (parameter_list ps))))
  shape_bytes s (t.Constant x) = literal_bytes s x
  shape_bytes s (t.Not e) = expression_bytes e ++ node kind.Not s
  shape_bytes s (t.Minus e) = expression_bytes e ++ node kind.Minus s
  shape_bytes s (t.Plus e) = expression_bytes e ++ node kind.Plus s
  shape_bytes s (t.BitNot e) = expression_bytes e ++ node kind.BitNot s
  shape_bytes s (t.Op l operator r) = expression_bytes l ++ (expression_bytes r ++ (node kind.Op s ++ number (operator_number operator)))
  shape_bytes s (t.If c a b) = expression_bytes c ++ (expression_bytes a ++ (expression_bytes b ++ node kind.Conditional s))
  shape_bytes s (t.List es) = expressions_bytes es ++ (node kind.List s ++ count (length (expression_list es)))
  shape_bytes s (t.Dict ps) = pairs_bytes ps ++ (node kind.Dict s ++ count (pair_count ps))
  shape_bytes s (t.ListComprehension e first cs) =
      expression_bytes e ++ (for_bytes first ++ (clauses_bytes cs ++ (node kind.ListComprehension s ++ count (length (clause_list cs)))))
  shape_bytes s (t.DictComprehension k v first cs) =
      expression_bytes k ++ (expression_bytes v
      ++ (for_bytes first ++ (clauses_bytes cs ++ (node kind.DictComprehension s ++ count (length (clause_list cs))))))
  shape_bytes s (t.FString at format es) =
      expressions_bytes es ++ ((node kind.FString s ++ word_bytes format) ++ count (length (expression_list es)))

  pub expressions_bytes : {P : Payloads} → t.Expressions P → Text
  expressions_bytes t.no_expressions = []
  expressions_bytes (t.expressions e es) = expression_bytes e ++ expressions_bytes es

  pub maybe_bytes : {P : Payloads} → t.Maybe P → Text
  maybe_bytes t.absent = mark kind.Absent
  maybe_bytes (t.present e) = expression_bytes e ++ mark kind.Present

  pub maybe_type_bytes : {P : Payloads} → t.MaybeType P → Text
  maybe_type_bytes t.no_type = mark kind.NoType
  maybe_type_bytes (t.typed s e p) = expression_bytes e ++ node kind.TypeExpr s

  -- each key before its value
  pub pairs_bytes : {P : Payloads} → t.Pairs P → Text
  pairs_bytes t.no_pairs = []
  pairs_bytes (t.pairs k v ps) = (expression_bytes k ++ expression_bytes v) ++ pairs_bytes ps

  pub argument_bytes : {P : Payloads} → t.Argument P → Text
  argument_bytes (t.Positional s e) = expression_bytes e ++ node kind.Positional s
  argument_bytes (t.Named s w e) = expression_bytes e ++ (node kind.Named s ++ word_bytes w)
  argument_bytes (t.Star s e) = expression_bytes e ++ node kind.Args s
  argument_bytes (t.StarStar s e) = expression_bytes e ++ node kind.KwArgs s

  pub arguments_bytes : {P : Payloads} → t.Arguments P → Text
  arguments_bytes t.no_arguments = []
  arguments_bytes (t.arguments a rest) = argument_bytes a ++ arguments_bytes rest

  pub parameter_bytes : {P : Payloads} → t.Parameter P → Text
  parameter_bytes (t.Slash s) = node kind.Slash s
  parameter_bytes (t.Normal s w p ty value) = maybe_type_bytes ty ++ (maybe_bytes value ++ (node kind.Normal s ++ word_bytes w))
  parameter_bytes (t.NoArgs s) = node kind.NoArgs s
  parameter_bytes (t.Args s w p ty) = maybe_type_bytes ty ++ (node kind.ArgsParameter s ++ word_bytes w)
  parameter_bytes (t.KwArgs s w p ty) = maybe_type_bytes ty ++ (node kind.KwArgsParameter s ++ word_bytes w)

  pub parameters_bytes : {P : Payloads} → t.Parameters P → Text
  parameters_bytes t.no_parameters = []
  parameters_bytes (t.parameters p ps) = parameter_bytes p ++ parameters_bytes ps

  pub for_bytes : {P : Payloads} → t.ForIn P → Text
  for_bytes (t.for_in x e) = target_bytes x ++ (expression_bytes e ++ mark kind.ForClause)

  pub clause_bytes : {P : Payloads} → t.Clause P → Text
  clause_bytes (t.for_clause c) = for_bytes c
  clause_bytes (t.if_clause e) = expression_bytes e ++ mark kind.IfClause

  pub clauses_bytes : {P : Payloads} → t.Clauses P → Text
  clauses_bytes t.no_clauses = []
  clauses_bytes (t.clauses c cs) = clause_bytes c ++ clauses_bytes cs

  pub target_bytes : {P : Payloads} → t.Target P → Text
  target_bytes (t.TupleTarget s xs) = targets_bytes xs ++ (node kind.TupleTarget s ++ count (length (target_list xs)))
  target_bytes (t.IndexTarget s a i) = expression_bytes a ++ (expression_bytes i ++ node kind.IndexTarget s)
  target_bytes (t.DotTarget s e w) = expression_bytes e ++ (node kind.DotTarget s ++ word_bytes w)
  target_bytes (t.NameTarget s w p) = node kind.IdentifierTarget s ++ sized w.text

  pub targets_bytes : {P : Payloads} → t.Targets P → Text
  targets_bytes t.no_targets = []
  targets_bytes (t.targets x xs) = target_bytes x ++ targets_bytes xs

abbrev pub value_bytes : {P : Payloads} → Option (t.Expression P) → Text
value_bytes None = mark kind.Absent
value_bytes (Some e) = expression_bytes e ++ mark kind.Present

-- 1 and the span of a comma, or 0
abbrev pub comma_bytes : Option Span → Text
comma_bytes None = number 0
comma_bytes (Some s) = number 1 ++ span_bytes s

abbrev pub load_arg_bytes : {P : Payloads} → t.LoadArg P → Text
load_arg_bytes a = word_bytes a.local ++ (word_bytes a.their ++ comma_bytes a.comma)

abbrev mutual
  pub statement_bytes : {P : Payloads} → t.Statement P → Text
  statement_bytes (t.statement s form) = form_bytes s form

  -- a statement of this form, which is here
  pub form_bytes : {P : Payloads} → Span → t.Form P → Text
  form_bytes s t.Break = node kind.Break s
  form_bytes s t.Continue = node kind.Continue s
  form_bytes s t.Pass = node kind.Pass s
  form_bytes s (t.Return value) = value_bytes value ++ node kind.Return s
  form_bytes s (t.Evaluate e) = expression_bytes e ++ node kind.Expression s
  form_bytes s (t.Assign x ty e) = target_bytes x ++ (maybe_type_bytes ty ++ (expression_bytes e ++ node kind.Assign s))
  form_bytes s (t.AssignModify x operator e) =
      target_bytes x ++ (expression_bytes e ++ (node kind.AssignModify s ++ number (assign_operator_number operator)))
  form_bytes s (t.Block ss) = statements_bytes ss ++ (node kind.Statements s ++ count (length (statement_list ss)))
  form_bytes s (t.IfThen e body) = expression_bytes e ++ (statement_bytes body ++ node kind.If s)
  form_bytes s (t.IfElse e body other) = expression_bytes e ++ (statement_bytes body ++ (statement_bytes other ++ node kind.IfElse s))
  form_bytes s (t.For x over body) = target_bytes x ++ (expression_bytes over ++ (statement_bytes body ++ node kind.For s))
  form_bytes s (t.Def w p ps ty body q) =
      parameters_bytes ps ++ (maybe_type_bytes ty
      ++ (statement_bytes body ++ ((node kind.Def s ++ word_bytes w) ++ count (length (parameter_list ps)))))
  form_bytes s (t.Load w args p) = (node kind.Load s ++ word_bytes w) ++ (count (length args) ++ flat_map load_arg_bytes args)

  pub statements_bytes : {P : Payloads} → t.Statements P → Text
  statements_bytes t.no_statements = []
  statements_bytes (t.statements s ss) = statement_bytes s ++ statements_bytes ss
