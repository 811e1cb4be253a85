-- The tree in which the first operators that a table names are calls.
use Rattle.std.specs.Prelude.{ℕ, zero, suc, ◌-◌, List as Seq, [], ◌∷◌, Bool, true, false, cond, codes}
use Rattle.std.specs.Prelude.{Option, Some, None, is_some, option_map, string_bytes, String}
use Rattle.std.specs.HashMap.{HashMap, get_by_text}
use Rattle.std.specs.List.{count_by}
use Rattle.starlark_lexer.specs.Tokens.{Span, Text}
use Rattle.starlark_tree.specs.Ast as t
use Rattle.starlark_tree.specs.Ast.{no_payload, expression_span}
use Rattle.starlark_tree.specs.Inside.{inside, maybe_inside, type_inside, argument_inside, parameter_inside, parameters_inside}
use Rattle.starlark_tree.specs.Inside.{for_inside, clause_inside, clauses_inside, target_inside, inside_statement}
use Rattle.starlark_tree.specs.declared.ast.operator.BinOp.{BinOp}
use Rattle.starlark_tree.specs.declared.ast.operator.BinOp.TheVariants as op

-- an operator as it is written, without the spaces around it
abbrev pub operator_name : BinOp → Text
operator_name op.Or = codes "or"
operator_name op.And = codes "and"
operator_name op.Equal = codes "=="
operator_name op.NotEqual = codes "!="
operator_name op.Less = codes "<"
operator_name op.Greater = codes ">"
operator_name op.LessOrEqual = codes "<="
operator_name op.GreaterOrEqual = codes ">="
operator_name op.In = codes "in"
operator_name op.NotIn = codes "not in"
operator_name op.Subtract = codes "-"
operator_name op.Add = codes "+"
operator_name op.Multiply = codes "*"
operator_name op.Percent = codes "%"
operator_name op.Divide = codes "/"
operator_name op.FloorDivide = codes "//"
operator_name op.BitAnd = codes "&"
operator_name op.BitOr = codes "|"
operator_name op.BitXor = codes "^"
operator_name op.LeftShift = codes "<<"
operator_name op.RightShift = codes ">>"

-- the function that replaces an operator, by the operator's name
abbrev pub Table : Type 0
Table = Text → Option Text

abbrev pub table_of : {A B S : Type 0} → HashMap (String A) (String B) S → Table
table_of m name = option_map string_bytes (get_by_text m name)

-- whether an expression is an operation, and the table names its operator
abbrev pub is_named : Table → t.Expression no_payload → Bool
is_named table (t.expression s (t.Op l op r)) = is_some (table (operator_name op))
is_named table (t.expression s _) = false

-- how many of the expressions are such operations
abbrev pub named : Table → Seq (t.Expression no_payload) → ℕ
named table es = count_by (is_named table) es

abbrev pub one_if_some : Option Text → ℕ
one_if_some function = cond (is_some function) 1 0

-- an operand as an argument
abbrev pub operand : t.Expression no_payload → t.Argument no_payload
operand e = t.Positional (expression_span e) e

-- a call of a function, whose name has the span of the operation
abbrev pub call_of : Text → Span → t.Expression no_payload → t.Expression no_payload → t.Shape no_payload
call_of f s l r =
    t.Call (t.expression s (t.Identifier (record { text = f; span = s }) tt)) (t.arguments (operand l) (t.arguments (operand r) t.no_arguments))

-- the call if there is a function, and operators are left to replace
abbrev pub call_or_op : Option Text → ℕ → Span → t.Expression no_payload → BinOp → t.Expression no_payload → t.Shape no_payload
call_or_op (Some f) (suc k) s l op r = call_of f s l r
call_or_op (Some f) zero s l op r = t.Op l op r
call_or_op None k s l op r = t.Op l op r

-- The first k operators that the table names, in the order of a walk, are replaced: an operation before its operands, and after
-- a part as many as the part leaves.
abbrev mutual
  pub replaced : Table → ℕ → t.Expression no_payload → t.Expression no_payload
  replaced table k (t.expression s shape) = t.expression s (shape_replaced table k s shape)

  pub shape_replaced : Table → ℕ → Span → t.Shape no_payload → t.Shape no_payload
  shape_replaced table k s (t.Tuple es) = t.Tuple (expressions_replaced table k es)
  shape_replaced table k s (t.Dot e w) = t.Dot (replaced table k e) w
  shape_replaced table k s (t.Call f passed) = t.Call (replaced table k f) (arguments_replaced table (k - named table (inside f)) passed)
  shape_replaced table k s (t.Index a i) = t.Index (replaced table k a) (replaced table (k - named table (inside a)) i)
  shape_replaced table k s (t.Index2 a i j) =
      t.Index2 (replaced table k a) (replaced table (k - named table (inside a)) i)
      (replaced table (k - named table (inside a) - named table (inside i)) j)
  shape_replaced table k s (t.Slice a start stop step) =
      t.Slice (replaced table k a) (maybe_replaced table (k - named table (inside a)) start)
      (maybe_replaced table (k - named table (inside a) - named table (maybe_inside start)) stop)
      (maybe_replaced table (k - named table (inside a) - named table (maybe_inside start) - named table (maybe_inside stop)) step)
  shape_replaced table k s (t.Identifier w p) = t.Identifier w p
  shape_replaced table k s (t.Lambda ps e p) =
      t.Lambda (parameters_replaced table k ps) (replaced table (k - named table (parameters_inside ps)) e) p
  shape_replaced table k s (t.Constant literal) = t.Constant literal
  shape_replaced table k s (t.Not e) = t.Not (replaced table k e)
  shape_replaced table k s (t.Minus e) = t.Minus (replaced table k e)
  shape_replaced table k s (t.Plus e) = t.Plus (replaced table k e)
  shape_replaced table k s (t.BitNot e) = t.BitNot (replaced table k e)
  shape_replaced table k s (t.Op l op r) =
      call_or_op (table (operator_name op)) k s
      (replaced table (k - one_if_some (table (operator_name op))) l) op
      (replaced table (k - one_if_some (table (operator_name op)) - named table (inside l)) r)
  shape_replaced table k s (t.If c v w) =
      t.If (replaced table k c) (replaced table (k - named table (inside c)) v)
      (replaced table (k - named table (inside c) - named table (inside v)) w)
  shape_replaced table k s (t.List es) = t.List (expressions_replaced table k es)
  shape_replaced table k s (t.Dict ps) = t.Dict (pairs_replaced table k ps)
  shape_replaced table k s (t.ListComprehension e first cs) =
      t.ListComprehension (replaced table (k - named table (for_inside first) - named table (clauses_inside cs)) e)
      (for_replaced table k first) (clauses_replaced table (k - named table (for_inside first)) cs)
  shape_replaced table k s (t.DictComprehension key v first cs) =
      t.DictComprehension (replaced table (k - named table (for_inside first) - named table (clauses_inside cs)) key)
      (replaced table (k - named table (for_inside first) - named table (clauses_inside cs) - named table (inside key)) v)
      (for_replaced table k first) (clauses_replaced table (k - named table (for_inside first)) cs)
  shape_replaced table k s (t.FString at w es) = t.FString at w (expressions_replaced table k es)

  pub expressions_replaced : Table → ℕ → t.Expressions no_payload → t.Expressions no_payload
  expressions_replaced table k t.no_expressions = t.no_expressions
  expressions_replaced table k (t.expressions e es) =
      t.expressions (replaced table k e) (expressions_replaced table (k - named table (inside e)) es)

  pub maybe_replaced : Table → ℕ → t.Maybe no_payload → t.Maybe no_payload
  maybe_replaced table k t.absent = t.absent
  maybe_replaced table k (t.present e) = t.present (replaced table k e)

  pub type_replaced : Table → ℕ → t.MaybeType no_payload → t.MaybeType no_payload
  type_replaced table k t.no_type = t.no_type
  type_replaced table k (t.typed s e p) = t.typed s (replaced table k e) p

  pub pairs_replaced : Table → ℕ → t.Pairs no_payload → t.Pairs no_payload
  pairs_replaced table k t.no_pairs = t.no_pairs
  pairs_replaced table k (t.pairs key v ps) =
      t.pairs (replaced table k key) (replaced table (k - named table (inside key)) v)
      (pairs_replaced table (k - named table (inside key) - named table (inside v)) ps)

  pub arguments_replaced : Table → ℕ → t.Arguments no_payload → t.Arguments no_payload
  arguments_replaced table k t.no_arguments = t.no_arguments
  arguments_replaced table k (t.arguments a rest) =
      t.arguments (argument_replaced table k a) (arguments_replaced table (k - named table (argument_inside a)) rest)

  pub argument_replaced : Table → ℕ → t.Argument no_payload → t.Argument no_payload
  argument_replaced table k (t.Positional s e) = t.Positional s (replaced table k e)
  argument_replaced table k (t.Named s w e) = t.Named s w (replaced table k e)
  argument_replaced table k (t.Star s e) = t.Star s (replaced table k e)
  argument_replaced table k (t.StarStar s e) = t.StarStar s (replaced table k e)

  pub parameters_replaced : Table → ℕ → t.Parameters no_payload → t.Parameters no_payload
  parameters_replaced table k t.no_parameters = t.no_parameters
  parameters_replaced table k (t.parameters p ps) =
      t.parameters (parameter_replaced table k p) (parameters_replaced table (k - named table (parameter_inside p)) ps)

  pub parameter_replaced : Table → ℕ → t.Parameter no_payload → t.Parameter no_payload
  parameter_replaced table k (t.Slash s) = t.Slash s
  parameter_replaced table k (t.Normal s w p ty v) =
      t.Normal s w p (type_replaced table k ty) (maybe_replaced table (k - named table (type_inside ty)) v)
  parameter_replaced table k (t.NoArgs s) = t.NoArgs s
  parameter_replaced table k (t.Args s w p ty) = t.Args s w p (type_replaced table k ty)
  parameter_replaced table k (t.KwArgs s w p ty) = t.KwArgs s w p (type_replaced table k ty)

  pub for_replaced : Table → ℕ → t.ForIn no_payload → t.ForIn no_payload
  for_replaced table k (t.for_in x over) =
      t.for_in (target_replaced table k x) (replaced table (k - named table (target_inside x)) over)

  pub clauses_replaced : Table → ℕ → t.Clauses no_payload → t.Clauses no_payload
  clauses_replaced table k t.no_clauses = t.no_clauses
  clauses_replaced table k (t.clauses c cs) =
      t.clauses (clause_replaced table k c) (clauses_replaced table (k - named table (clause_inside c)) cs)

  pub clause_replaced : Table → ℕ → t.Clause no_payload → t.Clause no_payload
  clause_replaced table k (t.for_clause for) = t.for_clause (for_replaced table k for)
  clause_replaced table k (t.if_clause e) = t.if_clause (replaced table k e)

  pub target_replaced : Table → ℕ → t.Target no_payload → t.Target no_payload
  target_replaced table k (t.TupleTarget s xs) = t.TupleTarget s (targets_replaced table k xs)
  target_replaced table k (t.IndexTarget s a i) =
      t.IndexTarget s (replaced table k a) (replaced table (k - named table (inside a)) i)
  target_replaced table k (t.DotTarget s e w) = t.DotTarget s (replaced table k e) w
  target_replaced table k (t.NameTarget s w p) = t.NameTarget s w p

  pub targets_replaced : Table → ℕ → t.Targets no_payload → t.Targets no_payload
  targets_replaced table k t.no_targets = t.no_targets
  targets_replaced table k (t.targets x xs) =
      t.targets (target_replaced table k x) (targets_replaced table (k - named table (target_inside x)) xs)

-- the operator of an augmented assignment is unchanged
abbrev mutual
  pub statement_replaced : Table → ℕ → t.Statement no_payload → t.Statement no_payload
  statement_replaced table k (t.statement s form) = t.statement s (form_replaced table k form)

  pub form_replaced : Table → ℕ → t.Form no_payload → t.Form no_payload
  form_replaced table k t.Break = t.Break
  form_replaced table k t.Continue = t.Continue
  form_replaced table k t.Pass = t.Pass
  form_replaced table k (t.Return e) = t.Return (option_map (replaced table k) e)
  form_replaced table k (t.Evaluate e) = t.Evaluate (replaced table k e)
  form_replaced table k (t.Assign x ty e) =
      t.Assign (target_replaced table k x) (type_replaced table (k - named table (target_inside x)) ty)
      (replaced table (k - named table (target_inside x) - named table (type_inside ty)) e)
  form_replaced table k (t.AssignModify x op e) =
      t.AssignModify (target_replaced table k x) op (replaced table (k - named table (target_inside x)) e)
  form_replaced table k (t.Block ss) = t.Block (statements_replaced table k ss)
  form_replaced table k (t.IfThen e body) =
      t.IfThen (replaced table k e) (statement_replaced table (k - named table (inside e)) body)
  form_replaced table k (t.IfElse e body other) =
      t.IfElse (replaced table k e) (statement_replaced table (k - named table (inside e)) body)
      (statement_replaced table (k - named table (inside e) - named table (inside_statement body)) other)
  form_replaced table k (t.For x over body) =
      t.For (target_replaced table k x) (replaced table (k - named table (target_inside x)) over)
      (statement_replaced table (k - named table (target_inside x) - named table (inside over)) body)
  form_replaced table k (t.Def w p ps ty body q) =
      t.Def w p (parameters_replaced table k ps) (type_replaced table (k - named table (parameters_inside ps)) ty)
      (statement_replaced table (k - named table (parameters_inside ps) - named table (type_inside ty)) body) q
  form_replaced table k (t.Load path names p) = t.Load path names p

  pub statements_replaced : Table → ℕ → t.Statements no_payload → t.Statements no_payload
  statements_replaced table k t.no_statements = t.no_statements
  statements_replaced table k (t.statements s ss) =
      t.statements (statement_replaced table k s) (statements_replaced table (k - named table (inside_statement s)) ss)

-- how many operators of a statement the table names
abbrev pub operators : Table → t.Statement no_payload → ℕ
operators table s = named table (inside_statement s)

-- with the first k operators replaced, and with all of them
abbrev pub with_replaced : Table → ℕ → t.Statement no_payload → t.Statement no_payload
with_replaced = statement_replaced

abbrev pub all_operators_replaced : Table → t.Statement no_payload → t.Statement no_payload
all_operators_replaced table s = with_replaced table (operators table s) s
