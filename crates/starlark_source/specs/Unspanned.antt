-- Trees without their spans: each span is the empty one at 0.
use Rattle.std.specs.Prelude.{map, Option, Some, None}
use Rattle.starlark_lexer.specs.Tokens.{nowhere}
use Rattle.starlark_tree.specs.Ast as t
use Rattle.starlark_tree.specs.Ast.{Payloads, Word}

abbrev pub unspanned_word : Word → Word
unspanned_word w = record { text = w.text; span = nowhere }

abbrev pub unspanned_literal : t.Literal → t.Literal
unspanned_literal (t.Int s n) = t.Int nowhere n
unspanned_literal (t.Float w) = t.Float (unspanned_word w)
unspanned_literal (t.String w) = t.String (unspanned_word w)
unspanned_literal (t.Bytes w) = t.Bytes (unspanned_word w)
unspanned_literal t.Ellipsis = t.Ellipsis

abbrev mutual
  pub unspanned : {P : Payloads} → t.Expression P → t.Expression P
  unspanned (t.expression s shape) = t.expression nowhere (unspanned_shape shape)

  pub unspanned_shape : {P : Payloads} → t.Shape P → t.Shape P
  unspanned_shape (t.Tuple es) = t.Tuple (unspanned_all es)
  unspanned_shape (t.Dot e w) = t.Dot (unspanned e) (unspanned_word w)
  unspanned_shape (t.Call f xs) = t.Call (unspanned f) (unspanned_arguments xs)
  unspanned_shape (t.Index a i) = t.Index (unspanned a) (unspanned i)
  unspanned_shape (t.Index2 a i j) = t.Index2 (unspanned a) (unspanned i) (unspanned j)
  unspanned_shape (t.Slice a start stop step) = t.Slice (unspanned a) (unspanned_maybe start) (unspanned_maybe stop) (unspanned_maybe step)
  unspanned_shape (t.Identifier w p) = t.Identifier (unspanned_word w) p
  unspanned_shape (t.Lambda ps e p) = t.Lambda (unspanned_parameters ps) (unspanned e) p
  unspanned_shape (t.Constant x) = t.Constant (unspanned_literal x)
  unspanned_shape (t.Not e) = t.Not (unspanned e)
  unspanned_shape (t.Minus e) = t.Minus (unspanned e)
  unspanned_shape (t.Plus e) = t.Plus (unspanned e)
  unspanned_shape (t.BitNot e) = t.BitNot (unspanned e)
  unspanned_shape (t.Op l o r) = t.Op (unspanned l) o (unspanned r)
  unspanned_shape (t.If c a b) = t.If (unspanned c) (unspanned a) (unspanned b)
  unspanned_shape (t.List es) = t.List (unspanned_all es)
  unspanned_shape (t.Dict ps) = t.Dict (unspanned_pairs ps)
  unspanned_shape (t.ListComprehension e first cs) = t.ListComprehension (unspanned e) (unspanned_for first) (unspanned_clauses cs)
  unspanned_shape (t.DictComprehension k v first cs) = t.DictComprehension (unspanned k) (unspanned v) (unspanned_for first) (unspanned_clauses cs)
  unspanned_shape (t.FString s format es) = t.FString nowhere (unspanned_word format) (unspanned_all es)

  pub unspanned_all : {P : Payloads} → t.Expressions P → t.Expressions P
  unspanned_all t.no_expressions = t.no_expressions
  unspanned_all (t.expressions e es) = t.expressions (unspanned e) (unspanned_all es)

  pub unspanned_maybe : {P : Payloads} → t.Maybe P → t.Maybe P
  unspanned_maybe t.absent = t.absent
  unspanned_maybe (t.present e) = t.present (unspanned e)

  pub unspanned_type : {P : Payloads} → t.MaybeType P → t.MaybeType P
  unspanned_type t.no_type = t.no_type
  unspanned_type (t.typed s e p) = t.typed nowhere (unspanned e) p

  pub unspanned_pairs : {P : Payloads} → t.Pairs P → t.Pairs P
  unspanned_pairs t.no_pairs = t.no_pairs
  unspanned_pairs (t.pairs k v ps) = t.pairs (unspanned k) (unspanned v) (unspanned_pairs ps)

  pub unspanned_arguments : {P : Payloads} → t.Arguments P → t.Arguments P
  unspanned_arguments t.no_arguments = t.no_arguments
  unspanned_arguments (t.arguments a rest) = t.arguments (unspanned_argument a) (unspanned_arguments rest)

  pub unspanned_argument : {P : Payloads} → t.Argument P → t.Argument P
  unspanned_argument (t.Positional s e) = t.Positional nowhere (unspanned e)
  unspanned_argument (t.Named s w e) = t.Named nowhere (unspanned_word w) (unspanned e)
  unspanned_argument (t.Star s e) = t.Star nowhere (unspanned e)
  unspanned_argument (t.StarStar s e) = t.StarStar nowhere (unspanned e)

  pub unspanned_parameters : {P : Payloads} → t.Parameters P → t.Parameters P
  unspanned_parameters t.no_parameters = t.no_parameters
  unspanned_parameters (t.parameters p ps) = t.parameters (unspanned_parameter p) (unspanned_parameters ps)

  pub unspanned_parameter : {P : Payloads} → t.Parameter P → t.Parameter P
  unspanned_parameter (t.Slash s) = t.Slash nowhere
  unspanned_parameter (t.Normal s w p ty value) = t.Normal nowhere (unspanned_word w) p (unspanned_type ty) (unspanned_maybe value)
  unspanned_parameter (t.NoArgs s) = t.NoArgs nowhere
  unspanned_parameter (t.Args s w p ty) = t.Args nowhere (unspanned_word w) p (unspanned_type ty)
  unspanned_parameter (t.KwArgs s w p ty) = t.KwArgs nowhere (unspanned_word w) p (unspanned_type ty)

  pub unspanned_for : {P : Payloads} → t.ForIn P → t.ForIn P
  unspanned_for (t.for_in x e) = t.for_in (unspanned_target x) (unspanned e)

  pub unspanned_clauses : {P : Payloads} → t.Clauses P → t.Clauses P
  unspanned_clauses t.no_clauses = t.no_clauses
  unspanned_clauses (t.clauses c cs) = t.clauses (unspanned_clause c) (unspanned_clauses cs)

  pub unspanned_clause : {P : Payloads} → t.Clause P → t.Clause P
  unspanned_clause (t.for_clause c) = t.for_clause (unspanned_for c)
  unspanned_clause (t.if_clause e) = t.if_clause (unspanned e)

  pub unspanned_target : {P : Payloads} → t.Target P → t.Target P
  unspanned_target (t.TupleTarget s xs) = t.TupleTarget nowhere (unspanned_targets xs)
  unspanned_target (t.IndexTarget s a i) = t.IndexTarget nowhere (unspanned a) (unspanned i)
  unspanned_target (t.DotTarget s e w) = t.DotTarget nowhere (unspanned e) (unspanned_word w)
  unspanned_target (t.NameTarget s w p) = t.NameTarget nowhere (unspanned_word w) p

  pub unspanned_targets : {P : Payloads} → t.Targets P → t.Targets P
  unspanned_targets t.no_targets = t.no_targets
  unspanned_targets (t.targets x xs) = t.targets (unspanned_target x) (unspanned_targets xs)

-- the comma after a load's argument is a span too
abbrev pub unspanned_load : {P : Payloads} → t.LoadArg P → t.LoadArg P
unspanned_load a = record { local = unspanned_word a.local; payload = a.payload; their = unspanned_word a.their; comma = None }

abbrev pub unspanned_value : {P : Payloads} → Option (t.Expression P) → Option (t.Expression P)
unspanned_value None = None
unspanned_value (Some e) = Some (unspanned e)

abbrev mutual
  pub unspanned_statement : {P : Payloads} → t.Statement P → t.Statement P
  unspanned_statement (t.statement s form) = t.statement nowhere (unspanned_form form)

  pub unspanned_form : {P : Payloads} → t.Form P → t.Form P
  unspanned_form t.Break = t.Break
  unspanned_form t.Continue = t.Continue
  unspanned_form t.Pass = t.Pass
  unspanned_form (t.Return value) = t.Return (unspanned_value value)
  unspanned_form (t.Evaluate e) = t.Evaluate (unspanned e)
  unspanned_form (t.Assign x ty e) = t.Assign (unspanned_target x) (unspanned_type ty) (unspanned e)
  unspanned_form (t.AssignModify x o e) = t.AssignModify (unspanned_target x) o (unspanned e)
  unspanned_form (t.Block ss) = t.Block (unspanned_statements ss)
  unspanned_form (t.IfThen e body) = t.IfThen (unspanned e) (unspanned_statement body)
  unspanned_form (t.IfElse e body other) = t.IfElse (unspanned e) (unspanned_statement body) (unspanned_statement other)
  unspanned_form (t.For x e body) = t.For (unspanned_target x) (unspanned e) (unspanned_statement body)
  unspanned_form (t.Def w p ps ty body q) = t.Def (unspanned_word w) p (unspanned_parameters ps) (unspanned_type ty) (unspanned_statement body) q
  unspanned_form (t.Load file args p) = t.Load (unspanned_word file) (map (λ a. unspanned_load a) args) p

  pub unspanned_statements : {P : Payloads} → t.Statements P → t.Statements P
  unspanned_statements t.no_statements = t.no_statements
  unspanned_statements (t.statements s ss) = t.statements (unspanned_statement s) (unspanned_statements ss)
