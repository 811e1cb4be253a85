-- The identifiers of a tree by recursion over it: for each node those of its parts, in the order of a walk.
use Rattle.std.specs.Prelude.{Option, Some, None, List as Seq, [], ◌∷◌, ◌++◌}
use Rattle.starlark_tree.specs.Ast as t
use Rattle.starlark_tree.specs.Ast.{Payloads, Word}
use Rattle.starlark_tree.specs.Views.{form_seen}
use Rattle.starlark_tree.specs.declared.ast.StmtP.{StmtP}

abbrev mutual
  pub identifiers : {P : Payloads} → t.Expression P → Seq (Word × P.ident)
  identifiers (t.expression s shape) = in_shape shape

  pub in_shape : {P : Payloads} → t.Shape P → Seq (Word × P.ident)
  in_shape (t.Tuple es) = in_expressions es
  in_shape (t.Dot e w) = identifiers e
  in_shape (t.Call e passed) = identifiers e ++ in_arguments passed
  in_shape (t.Index a i) = identifiers a ++ identifiers i
  in_shape (t.Index2 a i j) = identifiers a ++ (identifiers i ++ identifiers j)
  in_shape (t.Slice a start stop step) = identifiers a ++ (in_maybe start ++ (in_maybe stop ++ in_maybe step))
  in_shape (t.Identifier w p) = (w, p) ∷ []
  in_shape (t.Lambda ps e p) = in_parameters ps ++ identifiers e
  in_shape (t.Constant l) = []
  in_shape (t.Not e) = identifiers e
  in_shape (t.Minus e) = identifiers e
  in_shape (t.Plus e) = identifiers e
  in_shape (t.BitNot e) = identifiers e
  in_shape (t.Op l op r) = identifiers l ++ identifiers r
  in_shape (t.If c v w) = identifiers c ++ (identifiers v ++ identifiers w)
  in_shape (t.List es) = in_expressions es
  in_shape (t.Dict ps) = in_pairs ps
  in_shape (t.ListComprehension e for cs) = in_for for ++ (in_clauses cs ++ identifiers e)
  in_shape (t.DictComprehension k v for cs) = in_for for ++ (in_clauses cs ++ (identifiers k ++ identifiers v))
  in_shape (t.FString s w es) = in_expressions es

  pub in_expressions : {P : Payloads} → t.Expressions P → Seq (Word × P.ident)
  in_expressions t.no_expressions = []
  in_expressions (t.expressions e es) = identifiers e ++ in_expressions es

  pub in_maybe : {P : Payloads} → t.Maybe P → Seq (Word × P.ident)
  in_maybe t.absent = []
  in_maybe (t.present e) = identifiers e

  pub in_type : {P : Payloads} → t.MaybeType P → Seq (Word × P.ident)
  in_type t.no_type = []
  in_type (t.typed s e p) = identifiers e

  pub in_pairs : {P : Payloads} → t.Pairs P → Seq (Word × P.ident)
  in_pairs t.no_pairs = []
  in_pairs (t.pairs k v ps) = identifiers k ++ (identifiers v ++ in_pairs ps)

  pub in_arguments : {P : Payloads} → t.Arguments P → Seq (Word × P.ident)
  in_arguments t.no_arguments = []
  in_arguments (t.arguments a rest) = in_argument a ++ in_arguments rest

  pub in_argument : {P : Payloads} → t.Argument P → Seq (Word × P.ident)
  in_argument (t.Positional s e) = identifiers e
  in_argument (t.Named s w e) = identifiers e
  in_argument (t.Star s e) = identifiers e
  in_argument (t.StarStar s e) = identifiers e

  pub in_parameters : {P : Payloads} → t.Parameters P → Seq (Word × P.ident)
  in_parameters t.no_parameters = []
  in_parameters (t.parameters p ps) = in_parameter p ++ in_parameters ps

  pub in_parameter : {P : Payloads} → t.Parameter P → Seq (Word × P.ident)
  in_parameter (t.Slash s) = []
  in_parameter (t.Normal s w p ty v) = in_type ty ++ in_maybe v
  in_parameter (t.NoArgs s) = []
  in_parameter (t.Args s w p ty) = in_type ty
  in_parameter (t.KwArgs s w p ty) = in_type ty

  pub in_for : {P : Payloads} → t.ForIn P → Seq (Word × P.ident)
  in_for (t.for_in x over) = in_target x ++ identifiers over

  pub in_clauses : {P : Payloads} → t.Clauses P → Seq (Word × P.ident)
  in_clauses t.no_clauses = []
  in_clauses (t.clauses c cs) = in_clause c ++ in_clauses cs

  pub in_clause : {P : Payloads} → t.Clause P → Seq (Word × P.ident)
  in_clause (t.for_clause for) = in_for for
  in_clause (t.if_clause e) = identifiers e

  pub in_target : {P : Payloads} → t.Target P → Seq (Word × P.ident)
  in_target (t.TupleTarget s xs) = in_targets xs
  in_target (t.IndexTarget s a i) = identifiers a ++ identifiers i
  in_target (t.DotTarget s e w) = identifiers e
  in_target (t.NameTarget s w p) = []

  pub in_targets : {P : Payloads} → t.Targets P → Seq (Word × P.ident)
  in_targets t.no_targets = []
  in_targets (t.targets x xs) = in_target x ++ in_targets xs

abbrev pub in_option : {P : Payloads} → Option (t.Expression P) → Seq (Word × P.ident)
in_option None = []
in_option (Some e) = identifiers e

-- a name that is bound, or that a load binds, is not one
abbrev mutual
  pub in_statement : {P : Payloads} → t.Statement P → Seq (Word × P.ident)
  in_statement (t.statement s form) = in_form form

  pub in_form : {P : Payloads} → t.Form P → Seq (Word × P.ident)
  in_form t.Break = []
  in_form t.Continue = []
  in_form t.Pass = []
  in_form (t.Return e) = in_option e
  in_form (t.Evaluate e) = identifiers e
  in_form (t.Assign x ty e) = in_target x ++ (in_type ty ++ identifiers e)
  in_form (t.AssignModify x op e) = in_target x ++ identifiers e
  in_form (t.Block ss) = in_statements ss
  in_form (t.IfThen e s) = identifiers e ++ in_statement s
  in_form (t.IfElse e s other) = identifiers e ++ (in_statement s ++ in_statement other)
  in_form (t.For x e s) = in_target x ++ (identifiers e ++ in_statement s)
  in_form (t.Def w p ps ty s q) = in_parameters ps ++ (in_type ty ++ in_statement s)
  in_form (t.Load path names p) = []

  pub in_statements : {P : Payloads} → t.Statements P → Seq (Word × P.ident)
  in_statements t.no_statements = []
  in_statements (t.statements s ss) = in_statement s ++ in_statements ss

-- the same for trees in memory
abbrev pub identifiers_of_stmt : {P A B C D E : Type 0} → StmtP P A B C D E → Seq (Word × B)
identifiers_of_stmt s = in_form (form_seen s)
