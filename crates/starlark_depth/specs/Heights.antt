-- The height of trees: how many expressions, targets and statements are nested in one another.
use Rattle.std.specs.Prelude.{ℕ, ◌-◌, ◌<◌, ⊤, Some, None}
use Rattle.starlark_tree.specs.Ast as t
use Rattle.starlark_tree.specs.Ast.{no_payload}

-- the height of an expression is at most h
abbrev mutual
  pub ExpressionWithin : ℕ → t.Expression no_payload → Type 0
  ExpressionWithin h (t.expression own shape) = (0 < h) × ShapeWithin (h - 1) shape

  pub ShapeWithin : ℕ → t.Shape no_payload → Type 0
  ShapeWithin h (t.Tuple es) = ExpressionsWithin h es
  ShapeWithin h (t.Dot e w) = ExpressionWithin h e
  ShapeWithin h (t.Call e passed) = ExpressionWithin h e × ArgumentsWithin h passed
  ShapeWithin h (t.Index e i) = ExpressionWithin h e × ExpressionWithin h i
  ShapeWithin h (t.Index2 e i j) = ExpressionWithin h e × ExpressionWithin h i × ExpressionWithin h j
  ShapeWithin h (t.Slice e start stop step) = ExpressionWithin h e × MaybeWithin h start × MaybeWithin h stop × MaybeWithin h step
  ShapeWithin h (t.Identifier w p) = ⊤
  ShapeWithin h (t.Lambda ps e p) = ParametersWithin h ps × ExpressionWithin h e
  ShapeWithin h (t.Constant l) = ⊤
  ShapeWithin h (t.Not e) = ExpressionWithin h e
  ShapeWithin h (t.Minus e) = ExpressionWithin h e
  ShapeWithin h (t.Plus e) = ExpressionWithin h e
  ShapeWithin h (t.BitNot e) = ExpressionWithin h e
  ShapeWithin h (t.Op e o f) = ExpressionWithin h e × ExpressionWithin h f
  ShapeWithin h (t.If c e f) = ExpressionWithin h c × ExpressionWithin h e × ExpressionWithin h f
  ShapeWithin h (t.List es) = ExpressionsWithin h es
  ShapeWithin h (t.Dict ps) = PairsWithin h ps
  ShapeWithin h (t.ListComprehension e f cs) = ExpressionWithin h e × ForWithin h f × ClausesWithin h cs
  ShapeWithin h (t.DictComprehension k v f cs) = ExpressionWithin h k × ExpressionWithin h v × ForWithin h f × ClausesWithin h cs
  ShapeWithin h (t.FString own w es) = ExpressionsWithin h es

  pub ExpressionsWithin : ℕ → t.Expressions no_payload → Type 0
  ExpressionsWithin h t.no_expressions = ⊤
  ExpressionsWithin h (t.expressions e es) = ExpressionWithin h e × ExpressionsWithin h es

  pub MaybeWithin : ℕ → t.Maybe no_payload → Type 0
  MaybeWithin h t.absent = ⊤
  MaybeWithin h (t.present e) = ExpressionWithin h e

  pub MaybeTypeWithin : ℕ → t.MaybeType no_payload → Type 0
  MaybeTypeWithin h t.no_type = ⊤
  MaybeTypeWithin h (t.typed own e p) = ExpressionWithin h e

  pub PairsWithin : ℕ → t.Pairs no_payload → Type 0
  PairsWithin h t.no_pairs = ⊤
  PairsWithin h (t.pairs k v ps) = ExpressionWithin h k × ExpressionWithin h v × PairsWithin h ps

  pub ArgumentsWithin : ℕ → t.Arguments no_payload → Type 0
  ArgumentsWithin h t.no_arguments = ⊤
  ArgumentsWithin h (t.arguments a passed) = ArgumentWithin h a × ArgumentsWithin h passed

  pub ArgumentWithin : ℕ → t.Argument no_payload → Type 0
  ArgumentWithin h (t.Positional own e) = ExpressionWithin h e
  ArgumentWithin h (t.Named own w e) = ExpressionWithin h e
  ArgumentWithin h (t.Star own e) = ExpressionWithin h e
  ArgumentWithin h (t.StarStar own e) = ExpressionWithin h e

  pub ParametersWithin : ℕ → t.Parameters no_payload → Type 0
  ParametersWithin h t.no_parameters = ⊤
  ParametersWithin h (t.parameters p ps) = ParameterWithin h p × ParametersWithin h ps

  pub ParameterWithin : ℕ → t.Parameter no_payload → Type 0
  ParameterWithin h (t.Slash own) = ⊤
  ParameterWithin h (t.Normal own w p type value) = MaybeTypeWithin h type × MaybeWithin h value
  ParameterWithin h (t.NoArgs own) = ⊤
  ParameterWithin h (t.Args own w p type) = MaybeTypeWithin h type
  ParameterWithin h (t.KwArgs own w p type) = MaybeTypeWithin h type

  pub ForWithin : ℕ → t.ForIn no_payload → Type 0
  ForWithin h (t.for_in x e) = TargetWithin h x × ExpressionWithin h e

  pub ClausesWithin : ℕ → t.Clauses no_payload → Type 0
  ClausesWithin h t.no_clauses = ⊤
  ClausesWithin h (t.clauses c cs) = ClauseWithin h c × ClausesWithin h cs

  pub ClauseWithin : ℕ → t.Clause no_payload → Type 0
  ClauseWithin h (t.for_clause f) = ForWithin h f
  ClauseWithin h (t.if_clause e) = ExpressionWithin h e

  pub TargetWithin : ℕ → t.Target no_payload → Type 0
  TargetWithin h (t.TupleTarget own xs) = (0 < h) × TargetsWithin (h - 1) xs
  TargetWithin h (t.IndexTarget own e i) = (0 < h) × ExpressionWithin (h - 1) e × ExpressionWithin (h - 1) i
  TargetWithin h (t.DotTarget own e w) = (0 < h) × ExpressionWithin (h - 1) e
  TargetWithin h (t.NameTarget own w p) = 0 < h

  pub TargetsWithin : ℕ → t.Targets no_payload → Type 0
  TargetsWithin h t.no_targets = ⊤
  TargetsWithin h (t.targets x xs) = TargetWithin h x × TargetsWithin h xs

-- the height of a statement is at most h
abbrev mutual
  pub StatementWithin : ℕ → t.Statement no_payload → Type 0
  StatementWithin h (t.statement own form) = (0 < h) × FormWithin (h - 1) form

  pub FormWithin : ℕ → t.Form no_payload → Type 0
  FormWithin h t.Break = ⊤
  FormWithin h t.Continue = ⊤
  FormWithin h t.Pass = ⊤
  FormWithin h (t.Return None) = ⊤
  FormWithin h (t.Return (Some e)) = ExpressionWithin h e
  FormWithin h (t.Evaluate e) = ExpressionWithin h e
  FormWithin h (t.Assign x type e) = TargetWithin h x × MaybeTypeWithin h type × ExpressionWithin h e
  FormWithin h (t.AssignModify x o e) = TargetWithin h x × ExpressionWithin h e
  FormWithin h (t.Block ss) = StatementsWithin h ss
  FormWithin h (t.IfThen c b) = ExpressionWithin h c × StatementWithin h b
  FormWithin h (t.IfElse c b o) = ExpressionWithin h c × StatementWithin h b × StatementWithin h o
  FormWithin h (t.For x e b) = TargetWithin h x × ExpressionWithin h e × StatementWithin h b
  FormWithin h (t.Def w p ps type b q) = ParametersWithin h ps × MaybeTypeWithin h type × StatementWithin h b
  FormWithin h (t.Load w args p) = ⊤

  pub StatementsWithin : ℕ → t.Statements no_payload → Type 0
  StatementsWithin h t.no_statements = ⊤
  StatementsWithin h (t.statements x xs) = StatementWithin h x × StatementsWithin h xs
