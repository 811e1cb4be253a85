-- The source of expressions, by levels of precedence.
use Rattle.std.specs.Prelude.{ℕ, List as Seq, [], ◌∷◌, ◌++◌, Bool, false, true, if◌then◌else◌}
use Rattle.starlark_lexer.specs.Tokens.{Span, FStringStart, FStringEnd, Dot, Colon, Slash, Star, StarStar}
use Rattle.starlark_lexer.specs.Tokens as tokens
use Rattle.starlark_lexer.specs.declared.token.FStringQuote.TheVariants.{Double}
use Rattle.starlark_tree.specs.Ast as t
use Rattle.starlark_tree.specs.Ast.{Payloads, Word}
use Rattle.starlark_tree.specs.declared.ast.operator.BinOp.{BinOp}
use Rattle.starlark_tree.specs.declared.ast.operator.BinOp.TheVariants as op
use Rattle.starlark_source.specs.declared.level.Level.{Level}
use Rattle.starlark_source.specs.declared.level.Level.TheVariants as level
use Rattle.starlark_source.specs.Literals.{name, literal}
use Rattle.starlark_source.specs.Levels.{is_looser, level_of, level_of_operator, left_of, right_of}
use Rattle.starlark_source.specs.Pieces.{Pieces, Piece, token, blank, unsayable, comma, listed, tupled, in_round, in_square, in_curly, between}
use Rattle.starlark_source.specs.Formats.{filled}

-- an operator between two spaces
abbrev pub operator : BinOp → Pieces
operator op.Or = between tokens.Or
operator op.And = between tokens.And
operator op.Equal = between tokens.EqualEqual
operator op.NotEqual = between tokens.BangEqual
operator op.Less = between tokens.LessThan
operator op.Greater = between tokens.GreaterThan
operator op.LessOrEqual = between tokens.LessEqual
operator op.GreaterOrEqual = between tokens.GreaterEqual
operator op.In = between tokens.In
operator op.NotIn = blank 1 ∷ token tokens.Not ∷ between tokens.In
operator op.Subtract = between tokens.Minus
operator op.Add = between tokens.Plus
operator op.Multiply = between tokens.Star
operator op.Percent = between tokens.Percent
operator op.Divide = between tokens.Slash
operator op.FloorDivide = between tokens.SlashSlash
operator op.BitAnd = between tokens.Ampersand
operator op.BitOr = between tokens.Pipe
operator op.BitXor = between tokens.Caret
operator op.LeftShift = between tokens.LessLess
operator op.RightShift = between tokens.GreaterGreater

abbrev pub colon : Pieces
colon = token Colon ∷ blank 1 ∷ []

-- in parentheses, if they are needed
abbrev pub bracketed : Bool → Pieces → Pieces
bracketed asked ps = if asked then in_round ps else ps

-- Whether the text of an expression, without parentheses, begins with a dict. In a hole of an f-string a space is before it, since two
-- opening braces are one brace of the text.
abbrev mutual
  pub begins_with_brace : {P : Payloads} → t.Expression P → Bool
  begins_with_brace (t.expression s shape) = shape_begins_with_brace shape

  pub shape_begins_with_brace : {P : Payloads} → t.Shape P → Bool
  shape_begins_with_brace (t.Dict ps) = true
  shape_begins_with_brace (t.DictComprehension k v first cs) = true
  shape_begins_with_brace (t.Dot e w) = begins_with_brace e
  shape_begins_with_brace (t.Call f xs) = begins_with_brace f
  shape_begins_with_brace (t.Index a i) = begins_with_brace a
  shape_begins_with_brace (t.Index2 a i j) = begins_with_brace a
  shape_begins_with_brace (t.Slice a start stop step) = begins_with_brace a
  shape_begins_with_brace (t.Op l operator r) = begins_with_brace l
  shape_begins_with_brace (t.If c a b) = begins_with_brace a
  shape_begins_with_brace _ = false

-- a space before a dict
abbrev pub kept_apart : Bool → Pieces → Pieces
kept_apart begins ps = if begins then blank 1 ∷ ps else ps

abbrev mutual
  -- an expression where one of this level is allowed: in parentheses if it binds less tightly
  pub at_level : {P : Payloads} → Level → t.Expression P → Pieces
  at_level k (t.expression s shape) = bracketed (is_looser (level_of shape) k) (shape_source shape)

  -- an expression where any is allowed
  pub test : {P : Payloads} → t.Expression P → Pieces
  test (t.expression s shape) = shape_source shape

  pub shape_source : {P : Payloads} → t.Shape P → Pieces
  shape_source (t.Tuple es) = tupled false (tests es)
  shape_source (t.Dot e w) = at_level level.Primary e ++ token Dot ∷ name w
  shape_source (t.Call f xs) = at_level level.Number f ++ in_round (listed (argument_sources xs))
  shape_source (t.Index a i) = at_level level.Number a ++ in_square (test i)
  shape_source (t.Index2 a i j) = at_level level.Number a ++ in_square (test i ++ (comma ++ test j))
  shape_source (t.Slice a start stop step) =
      at_level level.Number a
      ++ in_square (maybe_source [] start ++ (token Colon ∷ [] ++ (maybe_source [] stop ++ maybe_source (token Colon ∷ []) step)))
  shape_source (t.Identifier w p) = name w
  shape_source (t.Lambda ps e p) = token tokens.Lambda ∷ (lambda_parameters ps ++ (colon ++ test e))
  shape_source (t.Constant x) = literal x
  shape_source (t.Not e) = token tokens.Not ∷ blank 1 ∷ at_level level.Not e
  shape_source (t.Minus e) = token tokens.Minus ∷ at_level level.Unary e
  shape_source (t.Plus e) = token tokens.Plus ∷ at_level level.Unary e
  shape_source (t.BitNot e) = token tokens.Tilde ∷ at_level level.Unary e
  shape_source (t.Op l o r) = at_level (left_of (level_of_operator o)) l ++ (operator o ++ at_level (right_of (level_of_operator o)) r)
  shape_source (t.If c a b) = at_level level.Or a ++ (between tokens.If ++ (at_level level.Or c ++ (between tokens.Else ++ test b)))
  shape_source (t.List es) = in_square (listed (tests es))
  shape_source (t.Dict ps) = in_curly (listed (pair_sources ps))
  shape_source (t.ListComprehension e first cs) = in_square (test e ++ (for_source first ++ clauses_source cs))
  shape_source (t.DictComprehension k v first cs) = in_curly ((test k ++ (colon ++ test v)) ++ (for_source first ++ clauses_source cs))
  shape_source (t.FString s format es) = token (FStringStart Double) ∷ (filled s format.text (holes es) ++ token FStringEnd ∷ [])

  pub tests : {P : Payloads} → t.Expressions P → Seq Pieces
  tests t.no_expressions = []
  tests (t.expressions e es) = test e ∷ tests es

  -- what is in the holes of an f-string
  pub holes : {P : Payloads} → t.Expressions P → Seq Pieces
  holes t.no_expressions = []
  holes (t.expressions e es) = kept_apart (begins_with_brace e) (test e) ∷ holes es

  -- the expression after these, if there is one
  pub maybe_source : {P : Payloads} → Pieces → t.Maybe P → Pieces
  maybe_source before t.absent = []
  maybe_source before (t.present e) = before ++ test e

  pub maybe_type_source : {P : Payloads} → Pieces → t.MaybeType P → Pieces
  maybe_type_source before t.no_type = []
  maybe_type_source before (t.typed s e p) = before ++ test e

  -- the parameters of a lambda have no types
  pub no_type_source : {P : Payloads} → t.MaybeType P → Pieces
  no_type_source t.no_type = []
  no_type_source (t.typed s e p) = unsayable s ∷ []

  pub pair_sources : {P : Payloads} → t.Pairs P → Seq Pieces
  pair_sources t.no_pairs = []
  pair_sources (t.pairs k v ps) = (test k ++ (colon ++ test v)) ∷ pair_sources ps

  pub argument_source : {P : Payloads} → t.Argument P → Pieces
  argument_source (t.Positional s e) = test e
  argument_source (t.Named s w e) = name w ++ (between tokens.Equal ++ test e)
  argument_source (t.Star s e) = token Star ∷ test e
  argument_source (t.StarStar s e) = token StarStar ∷ test e

  pub argument_sources : {P : Payloads} → t.Arguments P → Seq Pieces
  argument_sources t.no_arguments = []
  argument_sources (t.arguments a rest) = argument_source a ∷ argument_sources rest

  pub lambda_parameter : {P : Payloads} → t.Parameter P → Pieces
  lambda_parameter (t.Slash s) = token Slash ∷ []
  lambda_parameter (t.Normal s w p ty value) = name w ++ (no_type_source ty ++ maybe_source (between tokens.Equal) value)
  lambda_parameter (t.NoArgs s) = token Star ∷ []
  lambda_parameter (t.Args s w p ty) = token Star ∷ (name w ++ no_type_source ty)
  lambda_parameter (t.KwArgs s w p ty) = token StarStar ∷ (name w ++ no_type_source ty)

  pub lambda_parameter_sources : {P : Payloads} → t.Parameters P → Seq Pieces
  lambda_parameter_sources t.no_parameters = []
  lambda_parameter_sources (t.parameters p ps) = lambda_parameter p ∷ lambda_parameter_sources ps

  -- the parameters of a lambda after a space, if there are any
  pub lambda_parameters : {P : Payloads} → t.Parameters P → Pieces
  lambda_parameters t.no_parameters = []
  lambda_parameters (t.parameters p ps) = blank 1 ∷ listed (lambda_parameter p ∷ lambda_parameter_sources ps)

  pub for_source : {P : Payloads} → t.ForIn P → Pieces
  for_source (t.for_in target over) = between tokens.For ++ (target_source true target ++ (between tokens.In ++ at_level level.Or over))

  pub clause_source : {P : Payloads} → t.Clause P → Pieces
  clause_source (t.for_clause c) = for_source c
  clause_source (t.if_clause e) = between tokens.If ++ at_level level.Or e

  pub clauses_source : {P : Payloads} → t.Clauses P → Pieces
  clauses_source t.no_clauses = []
  clauses_source (t.clauses c cs) = clause_source c ++ clauses_source cs

  -- a target, and whether it is where a list of targets is allowed
  pub target_source : {P : Payloads} → Bool → t.Target P → Pieces
  target_source in_list (t.TupleTarget s ts) = tupled in_list (target_sources ts)
  target_source in_list (t.IndexTarget s a i) = at_level level.Number a ++ in_square (test i)
  target_source in_list (t.DotTarget s e w) = at_level level.Primary e ++ token Dot ∷ name w
  target_source in_list (t.NameTarget s w p) = name w

  pub target_sources : {P : Payloads} → t.Targets P → Seq Pieces
  target_sources t.no_targets = []
  target_sources (t.targets x xs) = target_source false x ∷ target_sources xs

-- an expression where a list of them is allowed
abbrev pub shape_list : {P : Payloads} → t.Shape P → Pieces
shape_list (t.Tuple es) = tupled true (tests es)
shape_list shape = shape_source shape

abbrev pub test_list : {P : Payloads} → t.Expression P → Pieces
test_list (t.expression s shape) = shape_list shape

-- the parameters of a definition
abbrev pub parameter_source : {P : Payloads} → t.Parameter P → Pieces
parameter_source (t.Slash s) = token Slash ∷ []
parameter_source (t.Normal s w p ty value) = name w ++ (maybe_type_source colon ty ++ maybe_source (between tokens.Equal) value)
parameter_source (t.NoArgs s) = token Star ∷ []
parameter_source (t.Args s w p ty) = token Star ∷ (name w ++ maybe_type_source colon ty)
parameter_source (t.KwArgs s w p ty) = token StarStar ∷ (name w ++ maybe_type_source colon ty)

abbrev pub parameter_sources : {P : Payloads} → t.Parameters P → Seq Pieces
parameter_sources t.no_parameters = []
parameter_sources (t.parameters p ps) = parameter_source p ∷ parameter_sources ps
