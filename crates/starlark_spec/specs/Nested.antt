-- Nested spans: each part of a tree lies inside the nearest part around it that has a span.
use Rattle.std.specs.Prelude.{ℕ, ◌≤◌, ⊤, List as Seq, [], ◌∷◌, Option, Some, None}
use Rattle.starlark_lexer.specs.Tokens.{Span, Lexeme}
use Rattle.starlark_tree.specs.Ast as t
use Rattle.starlark_tree.specs.Ast.{Payloads, no_payload, Statement}
use Rattle.starlark_spec.specs.Items.{Items}
use Rattle.starlark_spec.specs.Grammar.{Derivation}
use Rattle.starlark_spec.specs.Grammar.Nonterminal.{Module}
use Rattle.starlark_spec.specs.Trees.{module_tree}
use Rattle.starlark_spec.specs.Answers.{IsModule}

-- A span lies inside another: it begins no earlier, and ends no later. No span ends before it begins.
pub record IsInside (outer inner : Span) : Type 0 where
  pub begins : outer.begin ≤ inner.begin
  pub runs : inner.begin ≤ inner.end
  pub ends : inner.end ≤ outer.end

abbrev pub LiteralIn : Span → t.Literal → Type 0
LiteralIn s (t.Int own n) = IsInside s own
LiteralIn s (t.Float w) = IsInside s w.span
LiteralIn s (t.String w) = IsInside s w.span
LiteralIn s (t.Bytes w) = IsInside s w.span
LiteralIn s t.Ellipsis = ⊤

-- an expression lies inside a span, and its parts inside its own
abbrev mutual
  pub ExpressionIn : {P : Payloads} → Span → t.Expression P → Type 0
  ExpressionIn s (t.expression own shape) = IsInside s own × ShapeIn own shape

  pub ShapeIn : {P : Payloads} → Span → t.Shape P → Type 0
  ShapeIn s (t.Tuple es) = ExpressionsIn s es
  ShapeIn s (t.Dot e w) = ExpressionIn s e × IsInside s w.span
  ShapeIn s (t.Call e passed) = ExpressionIn s e × ArgumentsIn s passed
  ShapeIn s (t.Index e i) = ExpressionIn s e × ExpressionIn s i
  ShapeIn s (t.Index2 e i j) = ExpressionIn s e × ExpressionIn s i × ExpressionIn s j
  ShapeIn s (t.Slice e start stop step) = ExpressionIn s e × MaybeIn s start × MaybeIn s stop × MaybeIn s step
  ShapeIn s (t.Identifier w p) = IsInside s w.span
  ShapeIn s (t.Lambda ps e p) = ParametersIn s ps × ExpressionIn s e
  ShapeIn s (t.Constant l) = LiteralIn s l
  ShapeIn s (t.Not e) = ExpressionIn s e
  ShapeIn s (t.Minus e) = ExpressionIn s e
  ShapeIn s (t.Plus e) = ExpressionIn s e
  ShapeIn s (t.BitNot e) = ExpressionIn s e
  ShapeIn s (t.Op e o f) = ExpressionIn s e × ExpressionIn s f
  ShapeIn s (t.If c e f) = ExpressionIn s c × ExpressionIn s e × ExpressionIn s f
  ShapeIn s (t.List es) = ExpressionsIn s es
  ShapeIn s (t.Dict ps) = PairsIn s ps
  ShapeIn s (t.ListComprehension e f cs) = ExpressionIn s e × ForInIn s f × ClausesIn s cs
  ShapeIn s (t.DictComprehension k v f cs) = ExpressionIn s k × ExpressionIn s v × ForInIn s f × ClausesIn s cs
  ShapeIn s (t.FString own w es) = IsInside s own × IsInside own w.span × ExpressionsIn own es

  pub ExpressionsIn : {P : Payloads} → Span → t.Expressions P → Type 0
  ExpressionsIn s t.no_expressions = ⊤
  ExpressionsIn s (t.expressions e es) = ExpressionIn s e × ExpressionsIn s es

  pub MaybeIn : {P : Payloads} → Span → t.Maybe P → Type 0
  MaybeIn s t.absent = ⊤
  MaybeIn s (t.present e) = ExpressionIn s e

  pub MaybeTypeIn : {P : Payloads} → Span → t.MaybeType P → Type 0
  MaybeTypeIn s t.no_type = ⊤
  MaybeTypeIn s (t.typed own e p) = IsInside s own × ExpressionIn own e

  pub PairsIn : {P : Payloads} → Span → t.Pairs P → Type 0
  PairsIn s t.no_pairs = ⊤
  PairsIn s (t.pairs k v ps) = ExpressionIn s k × ExpressionIn s v × PairsIn s ps

  pub ArgumentsIn : {P : Payloads} → Span → t.Arguments P → Type 0
  ArgumentsIn s t.no_arguments = ⊤
  ArgumentsIn s (t.arguments a passed) = ArgumentIn s a × ArgumentsIn s passed

  pub ArgumentIn : {P : Payloads} → Span → t.Argument P → Type 0
  ArgumentIn s (t.Positional own e) = IsInside s own × ExpressionIn own e
  ArgumentIn s (t.Named own w e) = IsInside s own × IsInside own w.span × ExpressionIn own e
  ArgumentIn s (t.Star own e) = IsInside s own × ExpressionIn own e
  ArgumentIn s (t.StarStar own e) = IsInside s own × ExpressionIn own e

  pub ParametersIn : {P : Payloads} → Span → t.Parameters P → Type 0
  ParametersIn s t.no_parameters = ⊤
  ParametersIn s (t.parameters p ps) = ParameterIn s p × ParametersIn s ps

  pub ParameterIn : {P : Payloads} → Span → t.Parameter P → Type 0
  ParameterIn s (t.Slash own) = IsInside s own
  ParameterIn s (t.Normal own w p type value) = IsInside s own × IsInside own w.span × MaybeTypeIn own type × MaybeIn own value
  ParameterIn s (t.NoArgs own) = IsInside s own
  ParameterIn s (t.Args own w p type) = IsInside s own × IsInside own w.span × MaybeTypeIn own type
  ParameterIn s (t.KwArgs own w p type) = IsInside s own × IsInside own w.span × MaybeTypeIn own type

  pub ForInIn : {P : Payloads} → Span → t.ForIn P → Type 0
  ForInIn s (t.for_in x e) = TargetIn s x × ExpressionIn s e

  pub ClausesIn : {P : Payloads} → Span → t.Clauses P → Type 0
  ClausesIn s t.no_clauses = ⊤
  ClausesIn s (t.clauses c cs) = ClauseIn s c × ClausesIn s cs

  pub ClauseIn : {P : Payloads} → Span → t.Clause P → Type 0
  ClauseIn s (t.for_clause f) = ForInIn s f
  ClauseIn s (t.if_clause e) = ExpressionIn s e

  pub TargetIn : {P : Payloads} → Span → t.Target P → Type 0
  TargetIn s (t.TupleTarget own xs) = IsInside s own × TargetsIn own xs
  TargetIn s (t.IndexTarget own e i) = IsInside s own × ExpressionIn own e × ExpressionIn own i
  TargetIn s (t.DotTarget own e w) = IsInside s own × ExpressionIn own e × IsInside own w.span
  TargetIn s (t.NameTarget own w p) = IsInside s own × IsInside own w.span

  pub TargetsIn : {P : Payloads} → Span → t.Targets P → Type 0
  TargetsIn s t.no_targets = ⊤
  TargetsIn s (t.targets x xs) = TargetIn s x × TargetsIn s xs

abbrev pub CommaIn : Span → Option Span → Type 0
CommaIn s None = ⊤
CommaIn s (Some comma) = IsInside s comma

abbrev pub LoadArgIn : {P : Payloads} → Span → t.LoadArg P → Type 0
LoadArgIn s a = IsInside s a.local.span × IsInside s a.their.span × CommaIn s a.comma

-- each of them
abbrev pub Each : {A : Type 0} → (A → Type 0) → Seq A → Type 0
Each Holds [] = ⊤
Each Holds (x ∷ xs) = Holds x × Each Holds xs

-- a statement lies inside a span, and its parts inside its own
abbrev mutual
  pub StatementIn : {P : Payloads} → Span → t.Statement P → Type 0
  StatementIn s (t.statement own form) = IsInside s own × FormIn own form

  pub FormIn : {P : Payloads} → Span → t.Form P → Type 0
  FormIn s t.Break = ⊤
  FormIn s t.Continue = ⊤
  FormIn s t.Pass = ⊤
  FormIn s (t.Return None) = ⊤
  FormIn s (t.Return (Some e)) = ExpressionIn s e
  FormIn s (t.Evaluate e) = ExpressionIn s e
  FormIn s (t.Assign x type e) = TargetIn s x × MaybeTypeIn s type × ExpressionIn s e
  FormIn s (t.AssignModify x o e) = TargetIn s x × ExpressionIn s e
  FormIn s (t.Block ss) = StatementsIn s ss
  FormIn s (t.IfThen c b) = ExpressionIn s c × StatementIn s b
  FormIn s (t.IfElse c b o) = ExpressionIn s c × StatementIn s b × StatementIn s o
  FormIn s (t.For x e b) = TargetIn s x × ExpressionIn s e × StatementIn s b
  FormIn s (t.Def w p ps type b q) = IsInside s w.span × ParametersIn s ps × MaybeTypeIn s type × StatementIn s b
  FormIn s (t.Load w args p) = IsInside s w.span × Each (LoadArgIn s) args

  pub StatementsIn : {P : Payloads} → Span → t.Statements P → Type 0
  StatementsIn s t.no_statements = ⊤
  StatementsIn s (t.statements x xs) = StatementIn s x × StatementsIn s xs

-- each part of a statement lies inside the nearest part around it that has a span
abbrev pub IsNested : {P : Payloads} → t.Statement P → Type 0
IsNested (t.statement own form) = FormIn own form

-- Tokens lie one after another, from an offset on.
abbrev pub AreInOrder : ℕ → Seq Lexeme → Type 0
AreInOrder from [] = ⊤
AreInOrder from (x ∷ xs) = (from ≤ x.span.begin) × (x.span.begin ≤ x.span.end) × AreInOrder x.span.end xs

-- if the tokens of a module lie one after another, its tree is nested
abbrev pub TreesAreNested : Type 0
TreesAreNested = (items : Items) (d : Derivation Module) → IsModule items d → AreInOrder 0 items.tokens → IsNested (module_tree d)
