-- The reader gives each tree back.
use Rattle.std.proofs.Common.{◌≡◌, ℕ, suc, ◌^◌, ◌<◌, ℤ, pos, negsuc, neg_ℤ, List as Seq, [], ◌∷◌, Option, Some, None, decimal, refl, ap, sym, ◌∙◌, arith, rules}
use Rattle.std.specs.Prelude.{option_map}
use Rattle.std.specs.Str.Parse.{AllDigits, digits_value, signed_digits_value}
use Rattle.std.specs.Fmt.{signed_decimal}
use Rattle.std.specs.Int.RustNames.{FitsSigned}
use Rattle.std.proofs.lemmas.Str.Parse.{digit_from_value}
use Rattle.std.proofs.lemmas.Fmt.{decimal_is_IsNumeral}
use mir.Syntax.{w64}
use Rattle.starlark_lexer.specs.Tokens.{Span, from_to}
use Rattle.starlark_lexer.specs.Tokens as tokens
use Rattle.starlark_tree.specs.Ast as t
use Rattle.starlark_tree.specs.Ast.{Word, no_payload}
use Rattle.starlark_tree.specs.Views.{word_at}
use Rattle.starlark_tree.specs.declared.ast.operator.BinOp.{BinOp}
use Rattle.starlark_tree.specs.declared.ast.operator.BinOp.TheVariants as op
use Rattle.starlark_tree.specs.declared.ast.operator.AssignOp.{AssignOp}
use Rattle.starlark_tree.specs.declared.ast.operator.AssignOp.TheVariants as assign
use Rattle.starlark_json.specs.Tree.Fields.{span_json, word_json, numbers_json, operator_name, assign_operator_name}
use Rattle.starlark_json.specs.Tree.Trees.{shape_json, expression_json, expressions_json, maybe_json, maybe_type_json, pairs_json, argument_json}
use Rattle.starlark_json.specs.Tree.Trees.{arguments_json, parameter_json, parameters_json, for_json, clause_json, clauses_json, target_json, targets_json}
use Rattle.starlark_json.specs.Tree.Trees.{value_json, comma_json, load_args_json, statement_json, statements_json}
use Rattle.starlark_json.specs.Tree.Reading.{of_two, of_three, of_four, or_null, or_absent, read_span, read_word, read_numbers, read_operator}
use Rattle.starlark_json.specs.Tree.Reading.{read_assign_operator, read_expression, each_expression, read_type, each_pair, read_argument, each_argument}
use Rattle.starlark_json.specs.Tree.Reading.{read_parameter, each_parameter, read_for, read_clause, each_clause, read_target, each_target, each_load_arg}
use Rattle.starlark_json.specs.Tree.Reading.{read_statement, each_statement}
use Rattle.starlark_json.specs.Tree.Fitting.{SpanFits, BytesFit, ExpressionFits, ExpressionsFit, MaybeFits, MaybeTypeFits, PairsFit, ArgumentFits}
use Rattle.starlark_json.specs.Tree.Fitting.{ArgumentsFit, ParameterFits, ParametersFit, ForFits, ClauseFits, ClausesFit, TargetFits, TargetsFit, ValueFits}
use Rattle.starlark_json.specs.Tree.Fitting.{CommaFits, LoadArgsFit, StatementFits, StatementsFit}

number_back : (n : ℕ) → n < 2 ^ 64 → digits_value 10 (decimal n) ≡ n
number_back n h = (decimal_is_IsNumeral n h).1

no_sign : (ds : Seq ℕ) → AllDigits 10 ds → signed_digits_value 10 ds ≡ pos (digits_value 10 ds)
no_sign [] all = refl
no_sign (c ∷ cs) all = grind (arith, rules, digit_from_value c all.0)

signed_back : (z : ℤ) → FitsSigned w64 z → signed_digits_value 10 (signed_decimal z) ≡ z
signed_back (pos n) h =
    let small : n < 2 ^ 64 = omega (arith, h) in
    no_sign (decimal n) (decimal_is_IsNumeral n small).0.1 ∙ ap pos (number_back n small)
signed_back (negsuc n) h = ap (λ m. neg_ℤ (pos m)) (number_back (suc n) (omega (arith, h)))

place_back : (s : Span) → SpanFits s → from_to (digits_value 10 (decimal s.begin)) (digits_value 10 (decimal s.end)) ≡ s
place_back s fits = λ i. from_to (number_back s.begin fits.begin i) (number_back s.end fits.end i)

pub span_back : (s : Span) → SpanFits s → read_span (span_json s) ≡ Some s
span_back s fits = λ i. Some (place_back s fits i)

word_back : (w : Word) → SpanFits w.span → read_word (word_json w) ≡ Some w
word_back w fits = λ i. Some (word_at w.text (place_back w.span fits i))

-- the span of a node, as that of a part of it
part_back : (s p : Span) → SpanFits s → p ≡ s → from_to (digits_value 10 (decimal s.begin)) (digits_value 10 (decimal s.end)) ≡ p
part_back s p fits here = place_back s fits ∙ sym here

bytes_back : (ns : Seq ℕ) → BytesFit ns → read_numbers (numbers_json ns) ≡ Some ns
bytes_back [] fits = refl
bytes_back (n ∷ ns) fits = λ i. option_map (λ ms. number_back n fits.0 i ∷ ms) (bytes_back ns fits.1 i)

operator_back : (o : BinOp) → read_operator (operator_name o) ≡ Some o
operator_back op.Or = refl
operator_back op.And = refl
operator_back op.Equal = refl
operator_back op.NotEqual = refl
operator_back op.Less = refl
operator_back op.Greater = refl
operator_back op.LessOrEqual = refl
operator_back op.GreaterOrEqual = refl
operator_back op.In = refl
operator_back op.NotIn = refl
operator_back op.Subtract = refl
operator_back op.Add = refl
operator_back op.Multiply = refl
operator_back op.Percent = refl
operator_back op.Divide = refl
operator_back op.FloorDivide = refl
operator_back op.BitAnd = refl
operator_back op.BitOr = refl
operator_back op.BitXor = refl
operator_back op.LeftShift = refl
operator_back op.RightShift = refl

assign_operator_back : (o : AssignOp) → read_assign_operator (assign_operator_name o) ≡ Some o
assign_operator_back assign.Add = refl
assign_operator_back assign.Subtract = refl
assign_operator_back assign.Multiply = refl
assign_operator_back assign.Divide = refl
assign_operator_back assign.FloorDivide = refl
assign_operator_back assign.Percent = refl
assign_operator_back assign.BitAnd = refl
assign_operator_back assign.BitOr = refl
assign_operator_back assign.BitXor = refl
assign_operator_back assign.LeftShift = refl
assign_operator_back assign.RightShift = refl

-- an expression is not null
not_null : {A : Type 0} (nothing : A) (read : Option A) (s : Span) (x : t.Shape no_payload) → or_null nothing (shape_json s x) read ≡ read
not_null nothing read s (t.Tuple es) = refl
not_null nothing read s (t.Dot e w) = refl
not_null nothing read s (t.Call f xs) = refl
not_null nothing read s (t.Index a k) = refl
not_null nothing read s (t.Index2 a k l) = refl
not_null nothing read s (t.Slice a start stop step) = refl
not_null nothing read s (t.Identifier w p) = refl
not_null nothing read s (t.Lambda ps e p) = refl
not_null nothing read s (t.Constant x) = refl
not_null nothing read s (t.Not e) = refl
not_null nothing read s (t.Minus e) = refl
not_null nothing read s (t.Plus e) = refl
not_null nothing read s (t.BitNot e) = refl
not_null nothing read s (t.Op l o r) = refl
not_null nothing read s (t.If c a b) = refl
not_null nothing read s (t.List es) = refl
not_null nothing read s (t.Dict ps) = refl
not_null nothing read s (t.ListComprehension e first cs) = refl
not_null nothing read s (t.DictComprehension k v first cs) = refl
not_null nothing read s (t.FString at w es) = refl

abbrev Clauses : Type 0
Clauses = t.ForIn no_payload × t.Clauses no_payload

mutual
  pub expression_back : (e : t.Expression no_payload) → ExpressionFits e → read_expression (expression_json e) ≡ Some e
  expression_back (t.expression s (t.Tuple es)) fits = λ i. option_map (t.expression (place_back s fits.0 i))
      (option_map t.Tuple (expressions_back es fits.1 i))
  expression_back (t.expression s (t.Dot e w)) fits =
      λ i. option_map (t.expression (place_back s fits.0 i)) (of_two t.Dot (expression_back e fits.1.0 i) (word_back w fits.1.1 i))
  expression_back (t.expression s (t.Call f xs)) fits =
      λ i. option_map (t.expression (place_back s fits.0 i)) (of_two t.Call (expression_back f fits.1.0 i) (arguments_back xs fits.1.1 i))
  expression_back (t.expression s (t.Index a k)) fits =
      λ i. option_map (t.expression (place_back s fits.0 i)) (of_two t.Index (expression_back a fits.1.0 i) (expression_back k fits.1.1 i))
  expression_back (t.expression s (t.Index2 a k l)) fits =
      λ i. option_map (t.expression (place_back s fits.0 i))
      (of_three t.Index2 (expression_back a fits.1.0 i) (expression_back k fits.1.1 i) (expression_back l fits.1.2 i))
  expression_back (t.expression s (t.Slice a start stop step)) fits =
      λ i. option_map (t.expression (place_back s fits.0 i))
      (of_four t.Slice (expression_back a fits.1.0 i) (maybe_back start fits.1.1 i) (maybe_back stop fits.1.2 i) (maybe_back step fits.1.3 i))
  expression_back (t.expression s (t.Identifier w p)) fits =
      λ i. Some (t.expression (place_back s fits.0 i) (t.Identifier (word_at w.text (part_back s w.span fits.0 fits.1 i)) tt))
  expression_back (t.expression s (t.Lambda ps e p)) fits =
      λ i. option_map (t.expression (place_back s fits.0 i)) (of_two (λ xs b. t.Lambda xs b tt) (parameters_back ps fits.1.0 i) (expression_back e fits.1.1 i))
  expression_back (t.expression s (t.Constant (t.Int at (tokens.small n)))) fits =
      λ i. Some (t.expression (place_back s fits.0 i) (t.Constant (t.Int (part_back s at fits.0 fits.1.0 i) (tokens.small (signed_back n fits.1.1 i)))))
  expression_back (t.expression s (t.Constant (t.Int at (tokens.large text)))) fits =
      λ i. Some (t.expression (place_back s fits.0 i) (t.Constant (t.Int (part_back s at fits.0 fits.1.0 i) (tokens.large text))))
  expression_back (t.expression s (t.Constant (t.Float w))) fits =
      λ i. Some (t.expression (place_back s fits.0 i) (t.Constant (t.Float (word_at w.text (part_back s w.span fits.0 fits.1 i)))))
  expression_back (t.expression s (t.Constant (t.String w))) fits =
      λ i. Some (t.expression (place_back s fits.0 i) (t.Constant (t.String (word_at w.text (part_back s w.span fits.0 fits.1 i)))))
  expression_back (t.expression s (t.Constant (t.Bytes w))) fits =
      λ i. option_map (t.expression (place_back s fits.0 i))
      (option_map t.Constant (option_map (λ bytes. t.Bytes (word_at bytes (part_back s w.span fits.0 fits.1.0 i))) (bytes_back w.text fits.1.1 i)))
  expression_back (t.expression s (t.Constant t.Ellipsis)) fits = λ i. Some (t.expression (place_back s fits.0 i) (t.Constant t.Ellipsis))
  expression_back (t.expression s (t.Not e)) fits = λ i. option_map (t.expression (place_back s fits.0 i)) (option_map t.Not (expression_back e fits.1 i))
  expression_back (t.expression s (t.Minus e)) fits = λ i. option_map (t.expression (place_back s fits.0 i)) (option_map t.Minus (expression_back e fits.1 i))
  expression_back (t.expression s (t.Plus e)) fits = λ i. option_map (t.expression (place_back s fits.0 i)) (option_map t.Plus (expression_back e fits.1 i))
  expression_back (t.expression s (t.BitNot e)) fits = λ i. option_map (t.expression (place_back s fits.0 i)) (option_map t.BitNot (expression_back e fits.1 i))
  expression_back (t.expression s (t.Op l o r)) fits =
      λ i. option_map (t.expression (place_back s fits.0 i))
      (of_three (λ o l r. t.Op l o r) (operator_back o i) (expression_back l fits.1.0 i) (expression_back r fits.1.1 i))
  expression_back (t.expression s (t.If c a b)) fits =
      λ i. option_map (t.expression (place_back s fits.0 i))
      (of_three t.If (expression_back c fits.1.0 i) (expression_back a fits.1.1 i) (expression_back b fits.1.2 i))
  expression_back (t.expression s (t.List es)) fits = λ i. option_map (t.expression (place_back s fits.0 i)) (option_map t.List (expressions_back es fits.1 i))
  expression_back (t.expression s (t.Dict ps)) fits = λ i. option_map (t.expression (place_back s fits.0 i)) (option_map t.Dict (pairs_back ps fits.1 i))
  expression_back (t.expression s (t.ListComprehension e first cs)) fits =
      λ i. option_map (t.expression (place_back s fits.0 i))
      (of_two (λ x (rest : Clauses). t.ListComprehension x rest.0 rest.1) (expression_back e fits.1.0 i)
      (of_two (λ c more. (c, more)) (for_back first fits.1.1 i) (clauses_back cs fits.1.2 i)))
  expression_back (t.expression s (t.DictComprehension k v first cs)) fits =
      λ i. option_map (t.expression (place_back s fits.0 i))
      (of_three (λ x y (rest : Clauses). t.DictComprehension x y rest.0 rest.1) (expression_back k fits.1.0 i) (expression_back v fits.1.1 i)
      (of_two (λ c more. (c, more)) (for_back first fits.1.2 i) (clauses_back cs fits.1.3 i)))
  expression_back (t.expression s (t.FString at w es)) fits =
      λ i. option_map (t.expression (place_back s fits.0 i))
      (of_two (t.FString (part_back s at fits.0 fits.1.0 i)) (word_back w fits.1.1 i) (expressions_back es fits.1.2 i))

  expressions_back : (es : t.Expressions no_payload) → ExpressionsFit es → each_expression (expressions_json es) ≡ Some es
  expressions_back t.no_expressions fits = refl
  expressions_back (t.expressions e es) fits = λ i. of_two t.expressions (expression_back e fits.0 i) (expressions_back es fits.1 i)

  maybe_back : (m : t.Maybe no_payload) → MaybeFits m → or_absent (maybe_json m) (read_expression (maybe_json m)) ≡ Some m
  maybe_back t.absent fits = refl
  maybe_back (t.present (t.expression s x)) fits =
      not_null t.absent (option_map t.present (read_expression (shape_json s x))) s x ∙ ap (option_map t.present) (expression_back (t.expression s x) fits)

  maybe_type_back : (ty : t.MaybeType no_payload) → MaybeTypeFits ty → read_type (maybe_type_json ty) ≡ Some ty
  maybe_type_back t.no_type fits = refl
  maybe_type_back (t.typed s e p) fits = λ i. option_map (λ x. t.typed (place_back s fits.0 i) x tt) (expression_back e fits.1 i)

  pairs_back : (ps : t.Pairs no_payload) → PairsFit ps → each_pair (pairs_json ps) ≡ Some ps
  pairs_back t.no_pairs fits = refl
  pairs_back (t.pairs k v ps) fits = λ i. of_three t.pairs (expression_back k fits.0 i) (expression_back v fits.1 i) (pairs_back ps fits.2 i)

  argument_back : (a : t.Argument no_payload) → ArgumentFits a → read_argument (argument_json a) ≡ Some a
  argument_back (t.Positional s e) fits = λ i. option_map (t.Positional (place_back s fits.0 i)) (expression_back e fits.1 i)
  argument_back (t.Named s w e) fits = λ i. of_three t.Named (span_back s fits.0 i) (word_back w fits.1 i) (expression_back e fits.2 i)
  argument_back (t.Star s e) fits = λ i. option_map (t.Star (place_back s fits.0 i)) (expression_back e fits.1 i)
  argument_back (t.StarStar s e) fits = λ i. option_map (t.StarStar (place_back s fits.0 i)) (expression_back e fits.1 i)

  arguments_back : (xs : t.Arguments no_payload) → ArgumentsFit xs → each_argument (arguments_json xs) ≡ Some xs
  arguments_back t.no_arguments fits = refl
  arguments_back (t.arguments a rest) fits = λ i. of_two t.arguments (argument_back a fits.0 i) (arguments_back rest fits.1 i)

  parameter_back : (p : t.Parameter no_payload) → ParameterFits p → read_parameter (parameter_json p) ≡ Some p
  parameter_back (t.Slash s) fits = λ i. Some (t.Slash (place_back s fits i))
  parameter_back (t.Normal s w p ty value) fits =
      λ i. of_four (λ s name type default. t.Normal s name tt type default) (span_back s fits.0 i) (word_back w fits.1 i) (maybe_type_back ty fits.2 i)
      (maybe_back value fits.3 i)
  parameter_back (t.NoArgs s) fits = λ i. Some (t.NoArgs (place_back s fits i))
  parameter_back (t.Args s w p ty) fits =
      λ i. of_two (λ name type. t.Args (place_back s fits.0 i) name tt type) (word_back w fits.1 i) (maybe_type_back ty fits.2 i)
  parameter_back (t.KwArgs s w p ty) fits =
      λ i. of_two (λ name type. t.KwArgs (place_back s fits.0 i) name tt type) (word_back w fits.1 i) (maybe_type_back ty fits.2 i)

  parameters_back : (ps : t.Parameters no_payload) → ParametersFit ps → each_parameter (parameters_json ps) ≡ Some ps
  parameters_back t.no_parameters fits = refl
  parameters_back (t.parameters p ps) fits = λ i. of_two t.parameters (parameter_back p fits.0 i) (parameters_back ps fits.1 i)

  for_back : (c : t.ForIn no_payload) → ForFits c → read_for (for_json c) ≡ Some c
  for_back (t.for_in x e) fits = λ i. of_two t.for_in (target_back x fits.0 i) (expression_back e fits.1 i)

  clause_back : (c : t.Clause no_payload) → ClauseFits c → read_clause (clause_json c) ≡ Some c
  clause_back (t.for_clause (t.for_in x e)) fits = λ i. option_map t.for_clause (of_two t.for_in (target_back x fits.0 i) (expression_back e fits.1 i))
  clause_back (t.if_clause e) fits = λ i. option_map t.if_clause (expression_back e fits i)

  clauses_back : (cs : t.Clauses no_payload) → ClausesFit cs → each_clause (clauses_json cs) ≡ Some cs
  clauses_back t.no_clauses fits = refl
  clauses_back (t.clauses c cs) fits = λ i. of_two t.clauses (clause_back c fits.0 i) (clauses_back cs fits.1 i)

  target_back : (x : t.Target no_payload) → TargetFits x → read_target (target_json x) ≡ Some x
  target_back (t.TupleTarget s xs) fits = λ i. option_map (t.TupleTarget (place_back s fits.0 i)) (targets_back xs fits.1 i)
  target_back (t.IndexTarget s a k) fits = λ i. of_two (t.IndexTarget (place_back s fits.0 i)) (expression_back a fits.1 i) (expression_back k fits.2 i)
  target_back (t.DotTarget s e w) fits = λ i. of_two (t.DotTarget (place_back s fits.0 i)) (expression_back e fits.1 i) (word_back w fits.2 i)
  target_back (t.NameTarget s w p) fits = λ i. Some (t.NameTarget (place_back s fits.0 i) (word_at w.text (part_back s w.span fits.0 fits.1 i)) tt)

  targets_back : (xs : t.Targets no_payload) → TargetsFit xs → each_target (targets_json xs) ≡ Some xs
  targets_back t.no_targets fits = refl
  targets_back (t.targets x xs) fits = λ i. of_two t.targets (target_back x fits.0 i) (targets_back xs fits.1 i)

returned_back : (v : Option (t.Expression no_payload)) → ValueFits v → or_null None (value_json v) (option_map Some (read_expression (value_json v))) ≡ Some v
returned_back None fits = refl
returned_back (Some (t.expression s x)) fits =
    not_null None (option_map Some (read_expression (shape_json s x))) s x ∙ ap (option_map Some) (expression_back (t.expression s x) fits)

comma_back : (c : Option Span) → CommaFits c → or_null None (comma_json c) (option_map Some (read_span (comma_json c))) ≡ Some c
comma_back None fits = refl
comma_back (Some s) fits = λ i. Some (Some (place_back s fits i))

load_args_back : (xs : Seq (t.LoadArg no_payload)) → LoadArgsFit xs → each_load_arg (load_args_json xs) ≡ Some xs
load_args_back [] fits = refl
load_args_back (a ∷ rest) fits =
    λ i. of_two (λ x xs. x ∷ xs)
    (of_three (λ l r c. record { local = l; payload = tt; their = r; comma = c }) (word_back a.local fits.0 i) (word_back a.their fits.1 i)
    (comma_back a.comma fits.2 i))
    (load_args_back rest fits.3 i)

mutual
  pub statement_back : (s : t.Statement no_payload) → StatementFits s → read_statement (statement_json s) ≡ Some s
  statement_back (t.statement s t.Break) fits = λ i. Some (t.statement (place_back s fits.0 i) t.Break)
  statement_back (t.statement s t.Continue) fits = λ i. Some (t.statement (place_back s fits.0 i) t.Continue)
  statement_back (t.statement s t.Pass) fits = λ i. Some (t.statement (place_back s fits.0 i) t.Pass)
  statement_back (t.statement s (t.Return value)) fits = λ i. of_two t.statement (span_back s fits.0 i) (option_map t.Return (returned_back value fits.1 i))
  statement_back (t.statement s (t.Evaluate e)) fits = λ i. of_two t.statement (span_back s fits.0 i) (option_map t.Evaluate (expression_back e fits.1 i))
  statement_back (t.statement s (t.Assign x ty e)) fits =
      λ i. of_two t.statement (span_back s fits.0 i)
      (of_three t.Assign (target_back x fits.1.0 i) (maybe_type_back ty fits.1.1 i) (expression_back e fits.1.2 i))
  statement_back (t.statement s (t.AssignModify x o e)) fits =
      λ i. of_two t.statement (span_back s fits.0 i)
      (of_three t.AssignModify (target_back x fits.1.0 i) (assign_operator_back o i) (expression_back e fits.1.1 i))
  statement_back (t.statement s (t.Block ss)) fits = λ i. of_two t.statement (span_back s fits.0 i) (option_map t.Block (statements_back ss fits.1 i))
  statement_back (t.statement s (t.IfThen e body)) fits =
      λ i. of_two t.statement (span_back s fits.0 i) (of_two t.IfThen (expression_back e fits.1.0 i) (statement_back body fits.1.1 i))
  statement_back (t.statement s (t.IfElse e body other)) fits =
      λ i. of_two t.statement (span_back s fits.0 i)
      (of_three t.IfElse (expression_back e fits.1.0 i) (statement_back body fits.1.1 i) (statement_back other fits.1.2 i))
  statement_back (t.statement s (t.For x over body)) fits =
      λ i. of_two t.statement (span_back s fits.0 i)
      (of_three t.For (target_back x fits.1.0 i) (expression_back over fits.1.1 i) (statement_back body fits.1.2 i))
  statement_back (t.statement s (t.Def w p ps ty body q)) fits =
      λ i. of_two t.statement (span_back s fits.0 i)
      (of_four (λ name ps type body. t.Def name tt ps type body tt) (word_back w fits.1.0 i) (parameters_back ps fits.1.1 i) (maybe_type_back ty fits.1.2 i)
      (statement_back body fits.1.3 i))
  statement_back (t.statement s (t.Load w args p)) fits =
      λ i. of_two t.statement (span_back s fits.0 i) (of_two (λ path args. t.Load path args tt) (word_back w fits.1.0 i) (load_args_back args fits.1.1 i))

  statements_back : (ss : t.Statements no_payload) → StatementsFit ss → each_statement (statements_json ss) ≡ Some ss
  statements_back t.no_statements fits = refl
  statements_back (t.statements s ss) fits = λ i. of_two t.statements (statement_back s fits.0 i) (statements_back ss fits.1 i)
