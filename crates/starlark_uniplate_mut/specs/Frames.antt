-- What a mutable walk leaves unchanged: the tree with gaps at its nodes.
use Rattle.starlark_lexer.specs.Tokens.{Span, nowhere}
use Rattle.starlark_tree.specs.Ast as t
use Rattle.starlark_tree.specs.Ast.{Payloads, Word}
use Rattle.starlark_tree.specs.Views.{argument_seen, clause_seen, for_in_of, parameter_seen, payloads, shape_seen, target_seen}
use Rattle.starlark_tree.specs.declared.ast.ArgumentP.{ArgumentP}
use Rattle.starlark_tree.specs.declared.ast.AssignTargetP.{AssignTargetP}
use Rattle.starlark_tree.specs.declared.ast.ClauseP.{ClauseP}
use Rattle.starlark_tree.specs.declared.ast.ExprP.{ExprP}
use Rattle.starlark_tree.specs.declared.ast.ForClauseP.{ForClauseP}
use Rattle.starlark_tree.specs.declared.ast.ParameterP.{ParameterP}

-- the gap in place of an expression
abbrev pub gap : {P : Payloads} → t.Expression P
gap = t.expression nowhere (t.Tuple t.no_expressions)

abbrev mutual
  pub target_frame : {P : Payloads} → t.Target P → t.Target P
  target_frame (t.TupleTarget s ts) = t.TupleTarget s (targets_frame ts)
  target_frame (t.IndexTarget s a i) = t.IndexTarget s gap gap
  target_frame (t.DotTarget s e w) = t.DotTarget s gap w
  target_frame (t.NameTarget s w p) = t.NameTarget s w p

  pub targets_frame : {P : Payloads} → t.Targets P → t.Targets P
  targets_frame t.no_targets = t.no_targets
  targets_frame (t.targets x xs) = t.targets (target_frame x) (targets_frame xs)

module _ {P : Payloads} where
  abbrev pub expressions_frame : t.Expressions P → t.Expressions P
  expressions_frame t.no_expressions = t.no_expressions
  expressions_frame (t.expressions e es) = t.expressions gap (expressions_frame es)

  abbrev pub maybe_frame : t.Maybe P → t.Maybe P
  maybe_frame t.absent = t.absent
  maybe_frame (t.present e) = t.present gap

  abbrev pub type_frame : t.MaybeType P → t.MaybeType P
  type_frame t.no_type = t.no_type
  type_frame (t.typed s e p) = t.typed s gap p

  abbrev pub pairs_frame : t.Pairs P → t.Pairs P
  pairs_frame t.no_pairs = t.no_pairs
  pairs_frame (t.pairs k v ps) = t.pairs gap gap (pairs_frame ps)

  abbrev pub argument_frame : t.Argument P → t.Argument P
  argument_frame (t.Positional s e) = t.Positional s gap
  argument_frame (t.Named s w e) = t.Named s w gap
  argument_frame (t.Star s e) = t.Star s gap
  argument_frame (t.StarStar s e) = t.StarStar s gap

  abbrev pub arguments_frame : t.Arguments P → t.Arguments P
  arguments_frame t.no_arguments = t.no_arguments
  arguments_frame (t.arguments a rest) = t.arguments (argument_frame a) (arguments_frame rest)

  abbrev pub parameter_frame : t.Parameter P → t.Parameter P
  parameter_frame (t.Slash s) = t.Slash s
  parameter_frame (t.Normal s w p ty default) = t.Normal s w p (type_frame ty) (maybe_frame default)
  parameter_frame (t.NoArgs s) = t.NoArgs s
  parameter_frame (t.Args s w p ty) = t.Args s w p (type_frame ty)
  parameter_frame (t.KwArgs s w p ty) = t.KwArgs s w p (type_frame ty)

  abbrev pub parameters_frame : t.Parameters P → t.Parameters P
  parameters_frame t.no_parameters = t.no_parameters
  parameters_frame (t.parameters p ps) = t.parameters (parameter_frame p) (parameters_frame ps)

  abbrev pub for_frame : t.ForIn P → t.ForIn P
  for_frame (t.for_in x over) = t.for_in (target_frame x) gap

  abbrev pub clause_frame : t.Clause P → t.Clause P
  clause_frame (t.for_clause for) = t.for_clause (for_frame for)
  clause_frame (t.if_clause e) = t.if_clause gap

  abbrev pub clauses_frame : t.Clauses P → t.Clauses P
  clauses_frame t.no_clauses = t.no_clauses
  clauses_frame (t.clauses c cs) = t.clauses (clause_frame c) (clauses_frame cs)

  -- an expression with gaps for its children
  abbrev pub frame : t.Shape P → t.Shape P
  frame (t.Tuple es) = t.Tuple (expressions_frame es)
  frame (t.Dot e w) = t.Dot gap w
  frame (t.Call e xs) = t.Call gap (arguments_frame xs)
  frame (t.Index a i) = t.Index gap gap
  frame (t.Index2 a i j) = t.Index2 gap gap gap
  frame (t.Slice a start stop step) = t.Slice gap (maybe_frame start) (maybe_frame stop) (maybe_frame step)
  frame (t.Identifier w p) = t.Identifier w p
  frame (t.Lambda ps e p) = t.Lambda (parameters_frame ps) gap p
  frame (t.Constant l) = t.Constant l
  frame (t.Not e) = t.Not gap
  frame (t.Minus e) = t.Minus gap
  frame (t.Plus e) = t.Plus gap
  frame (t.BitNot e) = t.BitNot gap
  frame (t.Op l op r) = t.Op gap op gap
  frame (t.If c v w) = t.If gap gap gap
  frame (t.List es) = t.List (expressions_frame es)
  frame (t.Dict ps) = t.Dict (pairs_frame ps)
  frame (t.ListComprehension e for cs) = t.ListComprehension gap (for_frame for) (clauses_frame cs)
  frame (t.DictComprehension k v for cs) = t.DictComprehension gap gap (for_frame for) (clauses_frame cs)
  frame (t.FString s w es) = t.FString s w (expressions_frame es)

-- a target without the names that it binds
mutual
  pub data Unnamed (P : Payloads) : Type 0 where
    Parts : Span → UnnamedParts P → Unnamed P
    Index : Span → t.Expression P → t.Expression P → Unnamed P
    Dot : Span → t.Expression P → Word → Unnamed P
    Name : Span → Unnamed P

  pub data UnnamedParts (P : Payloads) : Type 0 where
    no_parts : UnnamedParts P
    part : Unnamed P → UnnamedParts P → UnnamedParts P

abbrev mutual
  pub unnamed : {P : Payloads} → t.Target P → Unnamed P
  unnamed (t.TupleTarget s ts) = Parts s (all_unnamed ts)
  unnamed (t.IndexTarget s a i) = Index s a i
  unnamed (t.DotTarget s e w) = Dot s e w
  unnamed (t.NameTarget s w p) = Name s

  pub all_unnamed : {P : Payloads} → t.Targets P → UnnamedParts P
  all_unnamed t.no_targets = no_parts
  all_unnamed (t.targets x xs) = part (unnamed x) (all_unnamed xs)

-- the same for trees in memory
module _ {P A B C D E : Type 0} where
  abbrev pub frame_of : ExprP P A B C D E → t.Shape (payloads A B C D E)
  frame_of e = frame (shape_seen e)

  abbrev pub target_frame_of : AssignTargetP P A B C D E → t.Target (payloads A B C D E)
  target_frame_of x = target_frame (target_seen nowhere x)

  abbrev pub unnamed_of : AssignTargetP P A B C D E → Unnamed (payloads A B C D E)
  unnamed_of x = unnamed (target_seen nowhere x)

  abbrev pub argument_frame_of : ArgumentP P A B C D E → t.Argument (payloads A B C D E)
  argument_frame_of a = argument_frame (argument_seen nowhere a)

  abbrev pub parameter_frame_of : ParameterP P A B C D E → t.Parameter (payloads A B C D E)
  parameter_frame_of p = parameter_frame (parameter_seen nowhere p)

  abbrev pub for_frame_of : ForClauseP P A B C D E → t.ForIn (payloads A B C D E)
  for_frame_of c = for_frame (for_in_of c)

  abbrev pub clause_frame_of : ClauseP P A B C D E → t.Clause (payloads A B C D E)
  clause_frame_of c = clause_frame (clause_seen c)
