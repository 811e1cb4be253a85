-- Trees that are read back from their JSON: their numbers have 64 bits, and each part whose span is not in the JSON has that of its node.
use Rattle.std.specs.Prelude.{◌≡◌, ℕ, ◌^◌, ◌<◌, List as Seq, [], ◌∷◌, Option, Some, None, ⊤}
use Rattle.std.specs.List.{AllByRecursion}
use Rattle.std.specs.Int.RustNames.{FitsSigned}
use mir.Syntax.{w64}
use Rattle.starlark_lexer.specs.Tokens.{Number, Span}
use Rattle.starlark_lexer.specs.Tokens as tokens
use Rattle.starlark_tree.specs.Ast as t
use Rattle.starlark_tree.specs.Ast.{no_payload}

pub record SpanFits (s : Span) : Type 0 where
  pub begin : s.begin < 2 ^ 64
  pub end : s.end < 2 ^ 64

abbrev pub NumberFits : Number → Type 0
NumberFits (tokens.small n) = FitsSigned w64 n
NumberFits (tokens.large text) = ⊤

abbrev pub BytesFit : Seq ℕ → Type 0
BytesFit = AllByRecursion (λ n. n < 2 ^ 64)

-- of a literal whose node is here
abbrev pub LiteralFits : Span → t.Literal → Type 0
LiteralFits s (t.Int at n) = (at ≡ s) × NumberFits n
LiteralFits s (t.Float w) = w.span ≡ s
LiteralFits s (t.String w) = w.span ≡ s
LiteralFits s (t.Bytes w) = (w.span ≡ s) × BytesFit w.text
LiteralFits s t.Ellipsis = ⊤

abbrev mutual
  pub ExpressionFits : t.Expression no_payload → Type 0
  ExpressionFits (t.expression s shape) = SpanFits s × ShapeFits s shape

  -- of an expression of this shape, whose node is here
  pub ShapeFits : Span → t.Shape no_payload → Type 0
  ShapeFits s (t.Tuple es) = ExpressionsFit es
  ShapeFits s (t.Dot e w) = ExpressionFits e × SpanFits w.span
  ShapeFits s (t.Call f xs) = ExpressionFits f × ArgumentsFit xs
  ShapeFits s (t.Index a i) = ExpressionFits a × ExpressionFits i
  ShapeFits s (t.Index2 a i j) = ExpressionFits a × ExpressionFits i × ExpressionFits j
  ShapeFits s (t.Slice a k l m) = ExpressionFits a × MaybeFits k × MaybeFits l × MaybeFits m
  ShapeFits s (t.Identifier w p) = (w.span ≡ s)
  ShapeFits s (t.Lambda ps e p) = ParametersFit ps × ExpressionFits e
  ShapeFits s (t.Constant x) = LiteralFits s x
  ShapeFits s (t.Not e) = ExpressionFits e
  ShapeFits s (t.Minus e) = ExpressionFits e
  ShapeFits s (t.Plus e) = ExpressionFits e
  ShapeFits s (t.BitNot e) = ExpressionFits e
  ShapeFits s (t.Op l o r) = ExpressionFits l × ExpressionFits r
  ShapeFits s (t.If c a b) = ExpressionFits c × ExpressionFits a × ExpressionFits b
  ShapeFits s (t.List es) = ExpressionsFit es
  ShapeFits s (t.Dict ps) = PairsFit ps
  ShapeFits s (t.ListComprehension e first cs) = ExpressionFits e × ForFits first × ClausesFit cs
  ShapeFits s (t.DictComprehension k v first cs) = ExpressionFits k × ExpressionFits v × ForFits first × ClausesFit cs
  ShapeFits s (t.FString at w es) = (at ≡ s) × SpanFits w.span × ExpressionsFit es

  pub ExpressionsFit : t.Expressions no_payload → Type 0
  ExpressionsFit t.no_expressions = ⊤
  ExpressionsFit (t.expressions e es) = ExpressionFits e × ExpressionsFit es

  pub MaybeFits : t.Maybe no_payload → Type 0
  MaybeFits t.absent = ⊤
  MaybeFits (t.present e) = ExpressionFits e

  pub MaybeTypeFits : t.MaybeType no_payload → Type 0
  MaybeTypeFits t.no_type = ⊤
  MaybeTypeFits (t.typed s e p) = SpanFits s × ExpressionFits e

  pub PairsFit : t.Pairs no_payload → Type 0
  PairsFit t.no_pairs = ⊤
  PairsFit (t.pairs k v ps) = ExpressionFits k × ExpressionFits v × PairsFit ps

  pub ArgumentFits : t.Argument no_payload → Type 0
  ArgumentFits (t.Positional s e) = SpanFits s × ExpressionFits e
  ArgumentFits (t.Named s w e) = SpanFits s × SpanFits w.span × ExpressionFits e
  ArgumentFits (t.Star s e) = SpanFits s × ExpressionFits e
  ArgumentFits (t.StarStar s e) = SpanFits s × ExpressionFits e

  pub ArgumentsFit : t.Arguments no_payload → Type 0
  ArgumentsFit t.no_arguments = ⊤
  ArgumentsFit (t.arguments a rest) = ArgumentFits a × ArgumentsFit rest

  pub ParameterFits : t.Parameter no_payload → Type 0
  ParameterFits (t.Slash s) = SpanFits s
  ParameterFits (t.Normal s w p ty value) = SpanFits s × SpanFits w.span × MaybeTypeFits ty × MaybeFits value
  ParameterFits (t.NoArgs s) = SpanFits s
  ParameterFits (t.Args s w p ty) = SpanFits s × SpanFits w.span × MaybeTypeFits ty
  ParameterFits (t.KwArgs s w p ty) = SpanFits s × SpanFits w.span × MaybeTypeFits ty

  pub ParametersFit : t.Parameters no_payload → Type 0
  ParametersFit t.no_parameters = ⊤
  ParametersFit (t.parameters p ps) = ParameterFits p × ParametersFit ps

  pub ForFits : t.ForIn no_payload → Type 0
  ForFits (t.for_in x e) = TargetFits x × ExpressionFits e

  pub ClauseFits : t.Clause no_payload → Type 0
  ClauseFits (t.for_clause c) = ForFits c
  ClauseFits (t.if_clause e) = ExpressionFits e

  pub ClausesFit : t.Clauses no_payload → Type 0
  ClausesFit t.no_clauses = ⊤
  ClausesFit (t.clauses c cs) = ClauseFits c × ClausesFit cs

  pub TargetFits : t.Target no_payload → Type 0
  TargetFits (t.TupleTarget s xs) = SpanFits s × TargetsFit xs
  TargetFits (t.IndexTarget s a i) = SpanFits s × ExpressionFits a × ExpressionFits i
  TargetFits (t.DotTarget s e w) = SpanFits s × ExpressionFits e × SpanFits w.span
  TargetFits (t.NameTarget s w p) = SpanFits s × (w.span ≡ s)

  pub TargetsFit : t.Targets no_payload → Type 0
  TargetsFit t.no_targets = ⊤
  TargetsFit (t.targets x xs) = TargetFits x × TargetsFit xs

abbrev pub ValueFits : Option (t.Expression no_payload) → Type 0
ValueFits None = ⊤
ValueFits (Some e) = ExpressionFits e

abbrev pub CommaFits : Option Span → Type 0
CommaFits None = ⊤
CommaFits (Some s) = SpanFits s

abbrev pub LoadArgsFit : Seq (t.LoadArg no_payload) → Type 0
LoadArgsFit [] = ⊤
LoadArgsFit (a ∷ rest) = SpanFits a.local.span × SpanFits a.their.span × CommaFits a.comma × LoadArgsFit rest

abbrev mutual
  pub StatementFits : t.Statement no_payload → Type 0
  StatementFits (t.statement s form) = SpanFits s × FormFits form

  pub FormFits : t.Form no_payload → Type 0
  FormFits t.Break = ⊤
  FormFits t.Continue = ⊤
  FormFits t.Pass = ⊤
  FormFits (t.Return value) = ValueFits value
  FormFits (t.Evaluate e) = ExpressionFits e
  FormFits (t.Assign x ty e) = TargetFits x × MaybeTypeFits ty × ExpressionFits e
  FormFits (t.AssignModify x o e) = TargetFits x × ExpressionFits e
  FormFits (t.Block ss) = StatementsFit ss
  FormFits (t.IfThen e body) = ExpressionFits e × StatementFits body
  FormFits (t.IfElse e body other) = ExpressionFits e × StatementFits body × StatementFits other
  FormFits (t.For x over body) = TargetFits x × ExpressionFits over × StatementFits body
  FormFits (t.Def w p ps ty body q) = SpanFits w.span × ParametersFit ps × MaybeTypeFits ty × StatementFits body
  FormFits (t.Load w args p) = SpanFits w.span × LoadArgsFit args

  pub StatementsFit : t.Statements no_payload → Type 0
  StatementsFit t.no_statements = ⊤
  StatementsFit (t.statements s ss) = StatementFits s × StatementsFit ss
