-- The frames of a node of the tree, by its parts.
use Rattle.std.proofs.Common.{◌≡◌, List, [], ◌∷◌, ◌++◌, length, map, Option, Some, None, Result, Box, Vec, Global, refl, sym, ap, ◌∙◌, arith}
use Rattle.starlark_lexer.specs.Tokens.{Span, span_of, nowhere}
use Rattle.starlark_lexer.specs.declared.span.Spanned.{Spanned}
use Rattle.starlark_tree.specs.declared.ast.ArgumentP.TheBlock as Block
use Rattle.starlark_tree.specs.declared.ast.ArgumentP as argument
use Rattle.starlark_tree.specs.declared.ast.AssignIdentP.{AssignIdentP}
use Rattle.starlark_tree.specs.declared.ast.AssignTargetP as target
use Rattle.starlark_tree.specs.declared.ast.CallArgsP.{CallArgsP}
use Rattle.starlark_tree.specs.declared.ast.ClauseP.{ClauseP}
use Rattle.starlark_tree.specs.declared.ast.ExprP as expr
use Rattle.starlark_tree.specs.declared.ast.ExprP.{ExprP}
use Rattle.starlark_tree.specs.declared.ast.FStringP.{FStringP}
use Rattle.starlark_tree.specs.declared.ast.ForClauseP.{ForClauseP}
use Rattle.starlark_tree.specs.declared.ast.LambdaP.{LambdaP}
use Rattle.starlark_tree.specs.declared.ast.ParameterP as parameter
use Rattle.starlark_tree.specs.declared.ast.TypeExprP.{TypeExprP}
use Rattle.starlark_tree.specs.Ast as t
use Rattle.starlark_uniplate_mut.specs.Frames.{argument_frame, argument_frame_of, arguments_frame, clause_frame_of, clauses_frame, expressions_frame}
use Rattle.starlark_uniplate_mut.specs.Frames.{for_frame_of, frame_of, gap, maybe_frame, pairs_frame, parameter_frame, parameter_frame_of, parameters_frame}
use Rattle.starlark_uniplate_mut.specs.Frames.{target_frame, target_frame_of, targets_frame, type_frame}
use Rattle.starlark_tree.specs.Places.{exprs_in_parameter, exprs_in_target, for_exprs, maybe_exprs, type_exprs}
use Rattle.starlark_tree.specs.Views.{all_arguments, all_clauses, all_expressions, all_pairs, all_parameters, all_targets, argument_of, argument_seen}
use Rattle.starlark_tree.specs.Views.{assign_word, boxed_type_of, maybe_of, maybe_seen, parameter_of, parameter_seen, payloads, target_of, target_seen, word}
use Rattle.starlark_tree.specs.Walks.{WriteBy, Writing, WritesIn}
use Rattle.starlark_tree.proofs.Nodes.{anywhere, normal_exprs}
use Rattle.starlark_uniplate_mut.proofs.Writing.{write_at}
use Rattle.starlark_tree.proofs.Rows.{arguments_seen_of, clauses_seen_of, expressions_seen_of, maybe_seen_of, pairs_seen_of, parameters_seen_of}
use Rattle.starlark_tree.proofs.Rows.{targets_seen_of}

-- the same at another span
module _ {Q : t.Payloads} where
  abbrev argument_at : Span → t.Argument Q → t.Argument Q
  argument_at s (t.Positional r e) = t.Positional s e
  argument_at s (t.Named r w e) = t.Named s w e
  argument_at s (t.Star r e) = t.Star s e
  argument_at s (t.StarStar r e) = t.StarStar s e

  abbrev parameter_at : Span → t.Parameter Q → t.Parameter Q
  parameter_at s (t.Slash r) = t.Slash s
  parameter_at s (t.Normal r w p ty default) = t.Normal s w p ty default
  parameter_at s (t.NoArgs r) = t.NoArgs s
  parameter_at s (t.Args r w p ty) = t.Args s w p ty
  parameter_at s (t.KwArgs r w p ty) = t.KwArgs s w p ty

  abbrev target_at : Span → t.Target Q → t.Target Q
  target_at s (t.TupleTarget r ts) = t.TupleTarget s ts
  target_at s (t.IndexTarget r a i) = t.IndexTarget s a i
  target_at s (t.DotTarget r e w) = t.DotTarget s e w
  target_at s (t.NameTarget r w p) = t.NameTarget s w p

module _ {P A B C D E : Type 0} where
  argument_moved : (s : _) (a : argument.ArgumentP P A B C D E) → argument_frame (argument_seen s a) ≡ argument_at s (argument_frame_of a)
  argument_moved s (argument.Positional' e r) = refl
  argument_moved s (argument.Named' w e r) = refl
  argument_moved s (argument.Args' e r) = refl
  argument_moved s (argument.KwArgs' e r) = refl

  parameter_moved : (s : _) (p : parameter.ParameterP P A B C D E) → parameter_frame (parameter_seen s p) ≡ parameter_at s (parameter_frame_of p)
  parameter_moved s parameter.Slash = refl
  parameter_moved s (parameter.Normal' w ty d) = refl
  parameter_moved s parameter.NoArgs = refl
  parameter_moved s (parameter.Args' w ty) = refl
  parameter_moved s (parameter.KwArgs' w ty) = refl

  target_moved : (s : _) (x : target.AssignTargetP P A B C D E) → target_frame (target_seen s x) ≡ target_at s (target_frame_of x)
  target_moved s (target.Tuple' shape row) = refl
  target_moved s (target.Index' p a r i q) = refl
  target_moved s (target.Dot' p e r name) = refl
  target_moved s (target.Identifier name) = refl

  -- equal frames are equal wherever the node is
  pub argument_same : (s : _) (a b : argument.ArgumentP P A B C D E) → argument_frame_of b ≡ argument_frame_of a → argument_frame (argument_seen s b)
      ≡ argument_frame (argument_seen s a)
  argument_same s a b e = argument_moved s b ∙ ap (argument_at s) e ∙ sym (argument_moved s a)

  pub parameter_same : (s : _) (a b : parameter.ParameterP P A B C D E) → parameter_frame_of b ≡ parameter_frame_of a → parameter_frame (parameter_seen s b)
      ≡ parameter_frame (parameter_seen s a)
  parameter_same s a b e = parameter_moved s b ∙ ap (parameter_at s) e ∙ sym (parameter_moved s a)

  pub target_same : (s : _) (a b : target.AssignTargetP P A B C D E) → target_frame_of b ≡ target_frame_of a → target_frame (target_seen s b)
      ≡ target_frame (target_seen s a)
  target_same s a b e = target_moved s b ∙ ap (target_at s) e ∙ sym (target_moved s a)

-- lists of gaps are equal if they have equal lengths
pub expressions_gaps : {Q : t.Payloads} (xs ys : List (t.Expression Q)) → length ys ≡ length xs → expressions_frame (t.expressions_of ys)
    ≡ expressions_frame (t.expressions_of xs)
expressions_gaps [] [] e = refl
expressions_gaps [] (y ∷ ys) e = absurd (omega (arith, e))
expressions_gaps (x ∷ xs) [] e = absurd (omega (arith, e))
expressions_gaps (x ∷ xs) (y ∷ ys) e = ap (t.expressions gap) (expressions_gaps xs ys (omega (arith, e)))

pub pairs_gaps : {Q : t.Payloads} (xs ys : List (t.Expression Q × t.Expression Q)) → length ys ≡ length xs → pairs_frame (t.pairs_of ys)
    ≡ pairs_frame (t.pairs_of xs)
pairs_gaps [] [] e = refl
pairs_gaps [] (y ∷ ys) e = absurd (omega (arith, e))
pairs_gaps (x ∷ xs) [] e = absurd (omega (arith, e))
pairs_gaps (x ∷ xs) (y ∷ ys) e = ap (t.pairs gap gap) (pairs_gaps xs ys (omega (arith, e)))

module _ {P A B C D E : Type 0} where
  pub parameters_framed : (xs : List (Spanned (parameter.ParameterP P A B C D E))) → parameters_frame (all_parameters xs)
      ≡ t.parameters_of (map (λ (p : Spanned (parameter.ParameterP P A B C D E)). parameter_frame (parameter_of p)) xs)
  parameters_framed [] = refl
  parameters_framed (x ∷ xs) = ap (t.parameters (parameter_frame (parameter_of x))) (parameters_framed xs)

  arguments_framed : (xs : List (Spanned (argument.ArgumentP P A B C D E))) → arguments_frame (all_arguments xs)
      ≡ t.arguments_of (map (λ (a : Spanned (argument.ArgumentP P A B C D E)). argument_frame (argument_of a)) xs)
  arguments_framed [] = refl
  arguments_framed (x ∷ xs) = ap (t.arguments (argument_frame (argument_of x))) (arguments_framed xs)

  clauses_framed : (xs : List (ClauseP P A B C D E)) → clauses_frame (all_clauses xs) ≡ t.clauses_of (map clause_frame_of xs)
  clauses_framed [] = refl
  clauses_framed (x ∷ xs) = ap (t.clauses (clause_frame_of x)) (clauses_framed xs)

  targets_framed : (xs : List (Spanned (target.AssignTargetP P A B C D E))) → targets_frame (all_targets xs)
      ≡ t.targets_of (map (λ (x : Spanned (target.AssignTargetP P A B C D E)). target_frame (target_of x)) xs)
  targets_framed [] = refl
  targets_framed (x ∷ xs) = ap (t.targets (target_frame (target_of x))) (targets_framed xs)

  pub parts_frame : (v : Vec (Spanned (target.AssignTargetP P A B C D E)) Global)
      → target_frame_of (target.Tuple v) ≡ t.TupleTarget nowhere
      (t.targets_of (map (λ (x : Spanned (target.AssignTargetP P A B C D E)). target_frame (target_of x)) v.items))
  parts_frame v = ap (λ ts. t.TupleTarget nowhere (targets_frame ts)) (targets_seen_of v) ∙ ap (t.TupleTarget nowhere) (targets_framed v.items)

  pub tuple_frame : (v : Vec (Spanned (ExprP P A B C D E)) Global) → frame_of (expr.Tuple v) ≡ t.Tuple (expressions_frame (all_expressions v.items))
  tuple_frame v = ap (λ es. t.Tuple (expressions_frame es)) (expressions_seen_of v)

  pub list_frame : (v : Vec (Spanned (ExprP P A B C D E)) Global) → frame_of (expr.List v) ≡ t.List (expressions_frame (all_expressions v.items))
  list_frame v = ap (λ es. t.List (expressions_frame es)) (expressions_seen_of v)

  pub fstring_frame : (f : Spanned (FStringP P A B C D E))
      → frame_of (expr.FString f) ≡ t.FString (span_of f.span) (word f.node.format) (expressions_frame (all_expressions f.node.expressions.items))
  fstring_frame f = ap (λ es. t.FString (span_of f.span) (word f.node.format) (expressions_frame es)) (expressions_seen_of f.node.expressions)

  pub dict_frame : (v : Vec (Spanned (ExprP P A B C D E) × Spanned (ExprP P A B C D E)) Global) → frame_of (expr.Dict v)
      ≡ t.Dict (pairs_frame (all_pairs v.items))
  dict_frame v = ap (λ ps. t.Dict (pairs_frame ps)) (pairs_seen_of v)

  pub call_frame : (b : Box (Spanned (ExprP P A B C D E)) Global) (args : CallArgsP P A B C D E)
      → frame_of (expr.Call b args) ≡ t.Call gap (t.arguments_of (map (λ (a : Spanned (argument.ArgumentP P A B C D E)). argument_frame (argument_of a))
      args.args.items))
  call_frame b args = ap (λ xs. t.Call gap (arguments_frame xs)) (arguments_seen_of args.args) ∙ ap (t.Call gap) (arguments_framed args.args.items)

  pub lambda_frame : (l : LambdaP P A B C D E)
      → frame_of (expr.Lambda l) ≡ t.Lambda (t.parameters_of (map (λ (p : Spanned (parameter.ParameterP P A B C D E)). parameter_frame (parameter_of p))
      l.params.items)) gap l.payload
  lambda_frame l = ap (λ ps. t.Lambda (parameters_frame ps) gap l.payload) (parameters_seen_of l.params)
      ∙ ap (λ ps. t.Lambda ps gap l.payload) (parameters_framed l.params.items)

  pub slice_frame : (a : Box (Spanned (ExprP P A B C D E)) Global) (start stop step : Option (Box (Spanned (ExprP P A B C D E)) Global))
      → frame_of (expr.Slice a start stop step) ≡ t.Slice gap (maybe_frame (maybe_of start)) (maybe_frame (maybe_of stop)) (maybe_frame (maybe_of step))
  slice_frame a start stop step =
      ap (λ m. t.Slice gap (maybe_frame m) (maybe_frame (maybe_seen (Block.back-ExprP-Slice-1 P A B C D E stop)))
      (maybe_frame (maybe_seen (Block.back-ExprP-Slice-1 P A B C D E step)))) (maybe_seen_of start)
      ∙ ap (λ m. t.Slice gap (maybe_frame (maybe_of start)) (maybe_frame m) (maybe_frame (maybe_seen (Block.back-ExprP-Slice-1 P A B C D E step))))
      (maybe_seen_of stop)
      ∙ ap (λ m. t.Slice gap (maybe_frame (maybe_of start)) (maybe_frame (maybe_of stop)) (maybe_frame m)) (maybe_seen_of step)

  pub list_comprehension_frame : (e : Box (Spanned (ExprP P A B C D E)) Global) (first : Box (ForClauseP P A B C D E) Global)
      (others : Vec (ClauseP P A B C D E) Global)
      → frame_of (expr.ListComprehension e first others) ≡ t.ListComprehension gap (for_frame_of first.value) (t.clauses_of (map clause_frame_of others.items))
  list_comprehension_frame e first others =
      ap (λ cs. t.ListComprehension gap (for_frame_of first.value) (clauses_frame cs)) (clauses_seen_of others)
      ∙ ap (t.ListComprehension gap (for_frame_of first.value)) (clauses_framed others.items)

  pub dict_comprehension_frame : (p : Box (Spanned (ExprP P A B C D E) × Spanned (ExprP P A B C D E)) Global) (first : Box (ForClauseP P A B C D E) Global)
      (others : Vec (ClauseP P A B C D E) Global)
      → frame_of (expr.DictComprehension p first others) ≡ t.DictComprehension gap gap (for_frame_of first.value)
      (t.clauses_of (map clause_frame_of others.items))
  dict_comprehension_frame p first others =
      ap (λ cs. t.DictComprehension gap gap (for_frame_of first.value) (clauses_frame cs)) (clauses_seen_of others)
      ∙ ap (t.DictComprehension gap gap (for_frame_of first.value)) (clauses_framed others.items)

  -- parameters by their parts
  normal_frame : (name : Spanned (AssignIdentP P A B C D E)) (ty : Option (Box (Spanned (TypeExprP P A B C D E)) Global))
      (default : Option (Box (Spanned (ExprP P A B C D E)) Global))
      → parameter_frame_of (parameter.Normal name ty default) ≡ t.Normal nowhere (assign_word name) name.node.payload (type_frame (boxed_type_of ty))
      (maybe_frame (maybe_of default))
  normal_frame name None None = refl
  normal_frame name None (Some d) = refl
  normal_frame name (Some ty) None = refl
  normal_frame name (Some ty) (Some d) = refl

  args_frame : (name : Spanned (AssignIdentP P A B C D E)) (ty : Option (Box (Spanned (TypeExprP P A B C D E)) Global))
      → parameter_frame_of (parameter.Args name ty) ≡ t.Args nowhere (assign_word name) name.node.payload (type_frame (boxed_type_of ty))
  args_frame name None = refl
  args_frame name (Some ty) = refl

  kwargs_frame : (name : Spanned (AssignIdentP P A B C D E)) (ty : Option (Box (Spanned (TypeExprP P A B C D E)) Global))
      → parameter_frame_of (parameter.KwArgs name ty) ≡ t.KwArgs nowhere (assign_word name) name.node.payload (type_frame (boxed_type_of ty))
  kwargs_frame name None = refl
  kwargs_frame name (Some ty) = refl

  pub args_exprs : (name : Spanned (AssignIdentP P A B C D E)) (ty : Option (Box (Spanned (TypeExprP P A B C D E)) Global))
      → exprs_in_parameter (parameter.Args name ty) ≡ type_exprs (boxed_type_of ty)
  args_exprs name None = refl
  args_exprs name (Some ty) = refl

  pub kwargs_exprs : (name : Spanned (AssignIdentP P A B C D E)) (ty : Option (Box (Spanned (TypeExprP P A B C D E)) Global))
      → exprs_in_parameter (parameter.KwArgs name ty) ≡ type_exprs (boxed_type_of ty)
  kwargs_exprs name None = refl
  kwargs_exprs name (Some ty) = refl

  pub for_parts : (s : _) (x : target.AssignTargetP P A B C D E) (e : t.Expression (payloads A B C D E)) → for_exprs (t.for_in (target_seen s x) e)
      ≡ exprs_in_target x ++ e ∷ []
  for_parts s x e = ap (λ ys. ys ++ e ∷ []) (anywhere s x)

-- parameters that are changed
module _ {P A B C D E S F : Type 0} {by : Writing S (t.Expression (payloads A B C D E)) F} {s : S} {r : Result (Unit {0}) F} {u : S} where
  pub normal_written : (name : Spanned (AssignIdentP P A B C D E)) (ty ty' : Option (Box (Spanned (TypeExprP P A B C D E)) Global))
      (default default' : Option (Box (Spanned (ExprP P A B C D E)) Global))
      → WriteBy by s (type_exprs (boxed_type_of ty) ++ maybe_exprs (maybe_of default)) (type_exprs (boxed_type_of ty') ++ maybe_exprs (maybe_of default')) r u
      → type_frame (boxed_type_of ty') ≡ type_frame (boxed_type_of ty) → maybe_frame (maybe_of default') ≡ maybe_frame (maybe_of default)
      → WritesIn exprs_in_parameter parameter_frame_of by s (parameter.Normal name ty default) (parameter.Normal name ty' default') r u
  normal_written name ty ty' default default' p e d = record {
    calls = write_at (sym (normal_exprs name ty default)) (sym (normal_exprs name ty' default')) p;
    rest = normal_frame name ty' default'
        ∙ ap (λ m. t.Normal nowhere (assign_word name) name.node.payload m (maybe_frame (maybe_of default'))) e
        ∙ ap (λ m. t.Normal nowhere (assign_word name) name.node.payload (type_frame (boxed_type_of ty)) m) d
        ∙ sym (normal_frame name ty default);
  }

  pub args_written : (name : Spanned (AssignIdentP P A B C D E)) (ty ty' : Option (Box (Spanned (TypeExprP P A B C D E)) Global))
      → WritesIn (λ o. type_exprs (boxed_type_of o)) (λ o. type_frame (boxed_type_of o)) by s ty ty' r u → WritesIn exprs_in_parameter parameter_frame_of by s
      (parameter.Args name ty) (parameter.Args name ty') r u
  args_written name ty ty' p = record {
    calls = write_at (sym (args_exprs name ty)) (sym (args_exprs name ty')) p.calls;
    rest = args_frame name ty' ∙ ap (t.Args nowhere (assign_word name) name.node.payload) p.rest ∙ sym (args_frame name ty);
  }

  pub kwargs_written : (name : Spanned (AssignIdentP P A B C D E)) (ty ty' : Option (Box (Spanned (TypeExprP P A B C D E)) Global))
      → WritesIn (λ o. type_exprs (boxed_type_of o)) (λ o. type_frame (boxed_type_of o)) by s ty ty' r u → WritesIn exprs_in_parameter parameter_frame_of by s
      (parameter.KwArgs name ty) (parameter.KwArgs name ty') r u
  kwargs_written name ty ty' p = record {
    calls = write_at (sym (kwargs_exprs name ty)) (sym (kwargs_exprs name ty')) p.calls;
    rest = kwargs_frame name ty' ∙ ap (t.KwArgs nowhere (assign_word name) name.node.payload) p.rest ∙ sym (kwargs_frame name ty);
  }
