-- The JSON of what fits has numbers that JSON has, so a text of it is read as it.
use Rattle.std.proofs.Common.{ℕ, ℤ, pos, negsuc, List as Seq, [], ◌∷◌, Some, None, arith}
use Rattle.std.specs.Prelude.{Option}
use Rattle.std.specs.Int.RustNames.{FitsSigned}
use Rattle.std.specs.Fmt.{signed_decimal}
use mir.Syntax.{w64}
use Rattle.json.specs.Print.{IsNumber}
use Rattle.json.specs.Tree.{HasNumbers, ItemsHaveNumbers, MembersHaveNumbers}
use Rattle.json.proofs.Printed.Decimals.{IsNumber-decimal, IsNumber-signed_decimal}
use Rattle.starlark_lexer.specs.Tokens.{Span}
use Rattle.starlark_lexer.specs.Tokens as tokens
use Rattle.starlark_tree.specs.Ast as t
use Rattle.starlark_tree.specs.Ast.{Word, no_payload}
use Rattle.starlark_json.specs.Tree.Fields.{span_json, word_json, numbers_json, literal_fields}
use Rattle.starlark_json.specs.Tree.Trees.{expression_json, shape_json, expressions_json, maybe_json, maybe_type_json, pairs_json, argument_json}
use Rattle.starlark_json.specs.Tree.Trees.{arguments_json, parameter_json, parameters_json, for_json, clause_json, clauses_json, target_json, targets_json}
use Rattle.starlark_json.specs.Tree.Trees.{value_json, comma_json, load_args_json, statement_json, form_json, statements_json}
use Rattle.starlark_json.specs.Tree.Fitting.{SpanFits, BytesFit, LiteralFits, ExpressionFits, ShapeFits, ExpressionsFit, MaybeFits, MaybeTypeFits, PairsFit}
use Rattle.starlark_json.specs.Tree.Fitting.{ArgumentFits, ArgumentsFit, ParameterFits, ParametersFit, ForFits, ClauseFits, ClausesFit, TargetFits, TargetsFit}
use Rattle.starlark_json.specs.Tree.Fitting.{ValueFits, CommaFits, LoadArgsFit, StatementFits, FormFits, StatementsFit}

pub span_numbers : (s : Span) → SpanFits s → HasNumbers (span_json s)
span_numbers s h = (IsNumber-decimal s.begin h.begin, (IsNumber-decimal s.end h.end, tt))

word_numbers : (w : Word) → SpanFits w.span → HasNumbers (word_json w)
word_numbers w h = (span_numbers w.span h, (tt, tt))

int_number : (z : ℤ) → FitsSigned w64 z → IsNumber (signed_decimal z)
int_number (pos n) h = IsNumber-signed_decimal (pos n) (omega (arith, h))
int_number (negsuc n) h = IsNumber-signed_decimal (negsuc n) (omega (arith, h))

bytes_numbers : (bytes : Seq ℕ) → BytesFit bytes → ItemsHaveNumbers (numbers_json bytes)
bytes_numbers [] h = tt
bytes_numbers (n ∷ ns) h = (IsNumber-decimal n h.0, bytes_numbers ns h.1)

literal_numbers : (s : Span) (x : t.Literal) → LiteralFits s x → MembersHaveNumbers (literal_fields x)
literal_numbers s (t.Int at (tokens.small n)) h = (tt, (int_number n h.1, tt))
literal_numbers s (t.Int at (tokens.large text)) h = (tt, (tt, tt))
literal_numbers s (t.Float w) h = (tt, (tt, tt))
literal_numbers s (t.String w) h = (tt, (tt, tt))
literal_numbers s (t.Bytes w) h = (tt, (bytes_numbers w.text h.1, tt))
literal_numbers s t.Ellipsis h = (tt, tt)

mutual
  expression_numbers : (e : t.Expression no_payload) → ExpressionFits e → HasNumbers (expression_json e)
  expression_numbers (t.expression s shape) h = shape_numbers s shape h.0 h.1

  shape_numbers : (s : Span) (shape : t.Shape no_payload) → SpanFits s → ShapeFits s shape → HasNumbers (shape_json s shape)
  shape_numbers s (t.Tuple es) k h = (tt, (span_numbers s k, (expressions_numbers es h, tt)))
  shape_numbers s (t.Dot e w) k h = (tt, (span_numbers s k, (expression_numbers e h.0, (word_numbers w h.1, tt))))
  shape_numbers s (t.Call f xs) k h = (tt, (span_numbers s k, (expression_numbers f h.0, (arguments_numbers xs h.1, tt))))
  shape_numbers s (t.Index a i) k h = (tt, (span_numbers s k, (expression_numbers a h.0, (expression_numbers i h.1, tt))))
  shape_numbers s (t.Index2 a i j) k h =
      (tt, (span_numbers s k, (expression_numbers a h.0, (expression_numbers i h.1, (expression_numbers j h.2, tt)))))
  shape_numbers s (t.Slice a start stop step) k h =
      (tt, (span_numbers s k, (expression_numbers a h.0, (maybe_numbers start h.1, (maybe_numbers stop h.2, (maybe_numbers step h.3, tt))))))
  shape_numbers s (t.Identifier w p) k h = (tt, (span_numbers s k, (tt, tt)))
  shape_numbers s (t.Lambda ps e p) k h = (tt, (span_numbers s k, (parameters_numbers ps h.0, (expression_numbers e h.1, tt))))
  shape_numbers s (t.Constant x) k h = (tt, (span_numbers s k, literal_numbers s x h))
  shape_numbers s (t.Not e) k h = (tt, (span_numbers s k, (expression_numbers e h, tt)))
  shape_numbers s (t.Minus e) k h = (tt, (span_numbers s k, (expression_numbers e h, tt)))
  shape_numbers s (t.Plus e) k h = (tt, (span_numbers s k, (expression_numbers e h, tt)))
  shape_numbers s (t.BitNot e) k h = (tt, (span_numbers s k, (expression_numbers e h, tt)))
  shape_numbers s (t.Op l o r) k h = (tt, (span_numbers s k, (tt, (expression_numbers l h.0, (expression_numbers r h.1, tt)))))
  shape_numbers s (t.If c a b) k h =
      (tt, (span_numbers s k, (expression_numbers c h.0, (expression_numbers a h.1, (expression_numbers b h.2, tt)))))
  shape_numbers s (t.List es) k h = (tt, (span_numbers s k, (expressions_numbers es h, tt)))
  shape_numbers s (t.Dict ps) k h = (tt, (span_numbers s k, (pairs_numbers ps h, tt)))
  shape_numbers s (t.ListComprehension e first cs) k h =
      (tt, (span_numbers s k, (expression_numbers e h.0, ((for_numbers first h.1, clauses_numbers cs h.2), tt))))
  shape_numbers s (t.DictComprehension key v first cs) k h =
      (tt, (span_numbers s k, (expression_numbers key h.0, (expression_numbers v h.1, ((for_numbers first h.2, clauses_numbers cs h.3), tt)))))
  shape_numbers s (t.FString at w es) k h = (tt, (span_numbers s k, (word_numbers w h.1, (expressions_numbers es h.2, tt))))

  expressions_numbers : (es : t.Expressions no_payload) → ExpressionsFit es → ItemsHaveNumbers (expressions_json es)
  expressions_numbers t.no_expressions h = tt
  expressions_numbers (t.expressions e es) h = (expression_numbers e h.0, expressions_numbers es h.1)

  maybe_numbers : (m : t.Maybe no_payload) → MaybeFits m → HasNumbers (maybe_json m)
  maybe_numbers t.absent h = tt
  maybe_numbers (t.present e) h = expression_numbers e h

  type_numbers : (ty : t.MaybeType no_payload) → MaybeTypeFits ty → HasNumbers (maybe_type_json ty)
  type_numbers t.no_type h = tt
  type_numbers (t.typed s e p) h = (span_numbers s h.0, (expression_numbers e h.1, tt))

  pairs_numbers : (ps : t.Pairs no_payload) → PairsFit ps → ItemsHaveNumbers (pairs_json ps)
  pairs_numbers t.no_pairs h = tt
  pairs_numbers (t.pairs k v ps) h = ((expression_numbers k h.0, (expression_numbers v h.1, tt)), pairs_numbers ps h.2)

  argument_numbers : (a : t.Argument no_payload) → ArgumentFits a → HasNumbers (argument_json a)
  argument_numbers (t.Positional s e) h = (tt, (span_numbers s h.0, (expression_numbers e h.1, tt)))
  argument_numbers (t.Named s w e) h = (tt, (span_numbers s h.0, (word_numbers w h.1, (expression_numbers e h.2, tt))))
  argument_numbers (t.Star s e) h = (tt, (span_numbers s h.0, (expression_numbers e h.1, tt)))
  argument_numbers (t.StarStar s e) h = (tt, (span_numbers s h.0, (expression_numbers e h.1, tt)))

  arguments_numbers : (xs : t.Arguments no_payload) → ArgumentsFit xs → ItemsHaveNumbers (arguments_json xs)
  arguments_numbers t.no_arguments h = tt
  arguments_numbers (t.arguments a rest) h = (argument_numbers a h.0, arguments_numbers rest h.1)

  parameter_numbers : (p : t.Parameter no_payload) → ParameterFits p → HasNumbers (parameter_json p)
  parameter_numbers (t.Slash s) h = (tt, (span_numbers s h, tt))
  parameter_numbers (t.Normal s w p ty value) h =
      (tt, (span_numbers s h.0, (word_numbers w h.1, (type_numbers ty h.2, (maybe_numbers value h.3, tt)))))
  parameter_numbers (t.NoArgs s) h = (tt, (span_numbers s h, tt))
  parameter_numbers (t.Args s w p ty) h = (tt, (span_numbers s h.0, (word_numbers w h.1, (type_numbers ty h.2, tt))))
  parameter_numbers (t.KwArgs s w p ty) h = (tt, (span_numbers s h.0, (word_numbers w h.1, (type_numbers ty h.2, tt))))

  parameters_numbers : (ps : t.Parameters no_payload) → ParametersFit ps → ItemsHaveNumbers (parameters_json ps)
  parameters_numbers t.no_parameters h = tt
  parameters_numbers (t.parameters p ps) h = (parameter_numbers p h.0, parameters_numbers ps h.1)

  for_numbers : (c : t.ForIn no_payload) → ForFits c → HasNumbers (for_json c)
  for_numbers (t.for_in x e) h = (tt, (target_numbers x h.0, (expression_numbers e h.1, tt)))

  clause_numbers : (c : t.Clause no_payload) → ClauseFits c → HasNumbers (clause_json c)
  clause_numbers (t.for_clause c) h = for_numbers c h
  clause_numbers (t.if_clause e) h = (tt, (expression_numbers e h, tt))

  clauses_numbers : (cs : t.Clauses no_payload) → ClausesFit cs → ItemsHaveNumbers (clauses_json cs)
  clauses_numbers t.no_clauses h = tt
  clauses_numbers (t.clauses c cs) h = (clause_numbers c h.0, clauses_numbers cs h.1)

  target_numbers : (x : t.Target no_payload) → TargetFits x → HasNumbers (target_json x)
  target_numbers (t.TupleTarget s xs) h = (tt, (span_numbers s h.0, (targets_numbers xs h.1, tt)))
  target_numbers (t.IndexTarget s a i) h = (tt, (span_numbers s h.0, (expression_numbers a h.1, (expression_numbers i h.2, tt))))
  target_numbers (t.DotTarget s e w) h = (tt, (span_numbers s h.0, (expression_numbers e h.1, (word_numbers w h.2, tt))))
  target_numbers (t.NameTarget s w p) h = (tt, (span_numbers s h.0, (tt, tt)))

  targets_numbers : (xs : t.Targets no_payload) → TargetsFit xs → ItemsHaveNumbers (targets_json xs)
  targets_numbers t.no_targets h = tt
  targets_numbers (t.targets x xs) h = (target_numbers x h.0, targets_numbers xs h.1)

value_numbers : (value : Option (t.Expression no_payload)) → ValueFits value → HasNumbers (value_json value)
value_numbers None h = tt
value_numbers (Some e) h = expression_numbers e h

comma_numbers : (comma : Option Span) → CommaFits comma → HasNumbers (comma_json comma)
comma_numbers None h = tt
comma_numbers (Some s) h = span_numbers s h

loads_numbers : (args : Seq (t.LoadArg no_payload)) → LoadArgsFit args → ItemsHaveNumbers (load_args_json args)
loads_numbers [] h = tt
loads_numbers (a ∷ rest) h = ((word_numbers a.local h.0, (word_numbers a.their h.1, (comma_numbers a.comma h.2, tt))), loads_numbers rest h.3)

mutual
  pub statement_numbers : (s : t.Statement no_payload) → StatementFits s → HasNumbers (statement_json s)
  statement_numbers (t.statement s form) h = form_numbers s form h.0 h.1

  form_numbers : (s : Span) (form : t.Form no_payload) → SpanFits s → FormFits form → HasNumbers (form_json s form)
  form_numbers s t.Break k h = (tt, (span_numbers s k, tt))
  form_numbers s t.Continue k h = (tt, (span_numbers s k, tt))
  form_numbers s t.Pass k h = (tt, (span_numbers s k, tt))
  form_numbers s (t.Return value) k h = (tt, (span_numbers s k, (value_numbers value h, tt)))
  form_numbers s (t.Evaluate e) k h = (tt, (span_numbers s k, (expression_numbers e h, tt)))
  form_numbers s (t.Assign x ty e) k h = (tt, (span_numbers s k, (target_numbers x h.0, (type_numbers ty h.1, (expression_numbers e h.2, tt)))))
  form_numbers s (t.AssignModify x o e) k h = (tt, (span_numbers s k, (target_numbers x h.0, (tt, (expression_numbers e h.1, tt)))))
  form_numbers s (t.Block ss) k h = (tt, (span_numbers s k, (statements_numbers ss h, tt)))
  form_numbers s (t.IfThen e body) k h = (tt, (span_numbers s k, (expression_numbers e h.0, (statement_numbers body h.1, tt))))
  form_numbers s (t.IfElse e body other) k h =
      (tt, (span_numbers s k, (expression_numbers e h.0, (statement_numbers body h.1, (statement_numbers other h.2, tt)))))
  form_numbers s (t.For x over body) k h =
      (tt, (span_numbers s k, (target_numbers x h.0, (expression_numbers over h.1, (statement_numbers body h.2, tt)))))
  form_numbers s (t.Def w p ps ty body q) k h =
      (tt, (span_numbers s k, (word_numbers w h.0, (parameters_numbers ps h.1, (type_numbers ty h.2, (statement_numbers body h.3, tt))))))
  form_numbers s (t.Load w args p) k h = (tt, (span_numbers s k, (word_numbers w h.0, (loads_numbers args h.1, tt))))

  statements_numbers : (ss : t.Statements no_payload) → StatementsFit ss → ItemsHaveNumbers (statements_json ss)
  statements_numbers t.no_statements h = tt
  statements_numbers (t.statements s ss) h = (statement_numbers s h.0, statements_numbers ss h.1)
