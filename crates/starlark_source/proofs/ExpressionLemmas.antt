-- The drafts of each kind of expression, by those of its parts.
use Rattle.std.proofs.Common.{◌≡◌, ℕ, ◌<◌, ◌≤◌, length, arith, List, [], ◌∷◌, ◌++◌, codes, map, Bool, true, false, if◌then◌else◌, Option, Some, None, Box}
use Rattle.std.proofs.Common.{Vec, Global, String, string_bytes, refl, sym, ap, ◌∙◌}
use Rattle.std.specs.List.{flat_map}
use Rattle.starlark_lexer.specs.Tokens.{Text, Span, span_of, Colon, Dot, Equal, FStringEnd, nowhere}
use Rattle.starlark_lexer.specs.Tokens as tokens
use Rattle.starlark_lexer.specs.declared.span.Spanned.{Spanned}
use Rattle.starlark_tree.specs.Ast as t
use Rattle.starlark_tree.specs.declared.ast.ArgumentP
use Rattle.starlark_tree.specs.declared.ast.ArgumentP.TheBlock as Block
use Rattle.starlark_tree.specs.declared.ast.AssignTargetP
use Rattle.starlark_tree.specs.declared.ast.ClauseP
use Rattle.starlark_tree.specs.declared.ast.ExprP
use Rattle.starlark_tree.specs.declared.ast.ExprP.TheVariants as variant
use Rattle.starlark_tree.specs.declared.ast.AssignTargetP.TheVariants as target_variant
use Rattle.starlark_tree.specs.declared.ast.ParameterP
use Rattle.starlark_tree.specs.declared.ast.AssignIdentP.{AssignIdentP}
use Rattle.starlark_tree.specs.declared.ast.ForClauseP.{ForClauseP}
use Rattle.starlark_tree.specs.declared.ast.FStringP.{FStringP}
use Rattle.starlark_tree.specs.declared.ast.IdentP.{IdentP}
use Rattle.starlark_tree.specs.declared.ast.LambdaP.{LambdaP}
use Rattle.starlark_tree.specs.declared.ast.CallArgsP.{CallArgsP}
use Rattle.starlark_tree.specs.declared.ast.TypeExprP.{TypeExprP}
use Rattle.starlark_tree.specs.declared.ast.AstLiteral.{AstLiteral}
use Rattle.starlark_tree.specs.declared.ast.operator.BinOp.{BinOp}
use Rattle.starlark_tree.specs.Operators.{operator_text}
use Rattle.starlark_tree.specs.Views.{shape_seen, literal_seen, argument_seen, parameter_seen, target_seen, for_in_of, clause_seen, target_of, all_expressions}
use Rattle.starlark_tree.specs.Views.{all_pairs, all_arguments, all_parameters, all_targets, all_clauses, maybe_of, boxed_type_of, word, assign_word}
use Rattle.starlark_tree.specs.Views.{ident_word, expression_of, clauses_seen, maybe_seen, maybe_type_seen}
use Rattle.starlark_tree.proofs.Rows.{expressions_seen_of, pairs_seen_of, arguments_seen_of, parameters_seen_of, targets_seen_of, clauses_seen_of}
use Rattle.starlark_tree.proofs.Rows.{maybe_seen_of, maybe_type_seen_of}
use Rattle.starlark_source.specs.declared.level.Level.{Level}
use Rattle.starlark_source.specs.declared.level.Level.TheVariants as level
use Rattle.starlark_source.specs.Levels.{is_looser, level_of, level_of_operator, left_of, right_of}
use Rattle.starlark_source.specs.Pieces.{Pieces, token, blank, comma, listed, in_tuple, in_round, in_square, in_curly, bare, tupled, between}
use Rattle.starlark_source.specs.Literals.{name, literal}
use Rattle.starlark_source.specs.Formats.{filled}
use Rattle.starlark_source.specs.Pages.{byte, Draft, say, fault}
use Rattle.starlark_source.specs.Drafts.{draft, drafts}
use Rattle.starlark_source.specs.Source.{at_level, shape_source, shape_list, tests, holes, pair_sources, argument_source, argument_sources, lambda_parameter}
use Rattle.starlark_source.specs.Source.{lambda_parameter_sources, lambda_parameters, parameter_source, parameter_sources, for_source, clause_source}
use Rattle.starlark_source.specs.Source.{clauses_source, target_source, target_sources, maybe_source, maybe_type_source, no_type_source, bracketed, colon}
use Rattle.starlark_source.specs.Source.{operator, begins_with_brace, shape_begins_with_brace, kept_apart}
use Rattle.starlark_source.specs.Drafted.{tuple_drafts, bare_drafts, drafted_expr, drafted_at, drafted_list, drafted_argument}
use Rattle.starlark_source.specs.Drafted.{drafted_lambda_parameter, drafted_parameter, drafted_target, drafted_targets, drafted_for, drafted_clause}
use Rattle.starlark_source.specs.Drafted.{drafted_pair, drafted_if_there, drafted_type_if_there, drafted_no_type, lambda_drafts, hole_source, drafted_filled}
use Rattle.starlark_source.proofs.DraftLemmas.{draft_two, draft_three, draft_four, draft_five, round_draft, square_draft, curly_draft, operator_draft}
use Rattle.starlark_source.proofs.DraftLemmas.{listed_draft, tuple_draft, bare_draft}

module _ {P A B C D E : Type 0} where
  -- the draft does not depend on the span of the node
  pub argument_anywhere : (at : Span) (a : ArgumentP.ArgumentP P A B C D E) → draft (argument_source (argument_seen at a)) ≡ drafted_argument a
  unfolding drafted_argument
  argument_anywhere at (ArgumentP.Positional' e s) = refl
  argument_anywhere at (ArgumentP.Named' n e s) = refl
  argument_anywhere at (ArgumentP.Args' e s) = refl
  argument_anywhere at (ArgumentP.KwArgs' e s) = refl

  pub lambda_parameter_anywhere : (at : Span) (p : ParameterP.ParameterP P A B C D E) → draft (lambda_parameter (parameter_seen at p))
      ≡ drafted_lambda_parameter p
  unfolding drafted_lambda_parameter
  lambda_parameter_anywhere at ParameterP.Slash = refl
  lambda_parameter_anywhere at (ParameterP.Normal' n ty default) = refl
  lambda_parameter_anywhere at ParameterP.NoArgs = refl
  lambda_parameter_anywhere at (ParameterP.Args' n ty) = refl
  lambda_parameter_anywhere at (ParameterP.KwArgs' n ty) = refl

  pub parameter_anywhere : (at : Span) (p : ParameterP.ParameterP P A B C D E) → draft (parameter_source (parameter_seen at p)) ≡ drafted_parameter p
  unfolding drafted_parameter
  parameter_anywhere at ParameterP.Slash = refl
  parameter_anywhere at (ParameterP.Normal' n ty default) = refl
  parameter_anywhere at ParameterP.NoArgs = refl
  parameter_anywhere at (ParameterP.Args' n ty) = refl
  parameter_anywhere at (ParameterP.KwArgs' n ty) = refl

  pub target_anywhere : (at : Span) (x : AssignTargetP.AssignTargetP P A B C D E) → draft (target_source false (target_seen at x)) ≡ drafted_target x
  unfolding drafted_target
  target_anywhere at (AssignTargetP.Tuple' shape row) = refl
  target_anywhere at (AssignTargetP.Index' p a s i r) = refl
  target_anywhere at (AssignTargetP.Dot' p e s n) = refl
  target_anywhere at (AssignTargetP.Identifier n) = refl

  pub targets_anywhere : (at : Span) (x : AssignTargetP.AssignTargetP P A B C D E) → draft (target_source true (target_seen at x)) ≡ drafted_targets x
  unfolding drafted_targets
  targets_anywhere at (AssignTargetP.Tuple' shape row) = refl
  targets_anywhere at (AssignTargetP.Index' p a s i r) = refl
  targets_anywhere at (AssignTargetP.Dot' p e s n) = refl
  targets_anywhere at (AssignTargetP.Identifier n) = refl

  -- the rows of the tree, item by item
  source_of_part : Spanned (ExprP.ExprP P A B C D E) → Pieces
  source_of_part e = shape_source (shape_seen e.node)

  pair_source : Spanned (ExprP.ExprP P A B C D E) × Spanned (ExprP.ExprP P A B C D E) → Pieces
  pair_source p = shape_source (shape_seen p.0.node) ++ (colon ++ shape_source (shape_seen p.1.node))

  tests_are : (xs : List (Spanned (ExprP.ExprP P A B C D E))) → tests (all_expressions xs) ≡ map source_of_part xs
  unfolding source_of_part
  tests_are [] = refl
  tests_are (x ∷ xs) = ap (λ l. shape_source (shape_seen x.node) ∷ l) (tests_are xs)

  holes_are : (xs : List (Spanned (ExprP.ExprP P A B C D E))) → holes (all_expressions xs) ≡ map hole_source xs
  unfolding hole_source
  holes_are [] = refl
  holes_are (x ∷ xs) = ap (λ l. kept_apart (shape_begins_with_brace (shape_seen x.node)) (shape_source (shape_seen x.node)) ∷ l) (holes_are xs)

  pairs_are : (xs : List (Spanned (ExprP.ExprP P A B C D E) × Spanned (ExprP.ExprP P A B C D E))) → pair_sources (all_pairs xs) ≡ map pair_source xs
  unfolding pair_source
  pairs_are [] = refl
  pairs_are (x ∷ xs) = ap (λ l. pair_source x ∷ l) (pairs_are xs)

  arguments_are : (xs : List (Spanned (ArgumentP.ArgumentP P A B C D E)))
      → argument_sources (all_arguments xs) ≡ map (λ (a : Spanned (ArgumentP.ArgumentP P A B C D E)). argument_source (argument_seen (span_of a.span) a.node))
      xs
  arguments_are [] = refl
  arguments_are (x ∷ xs) = ap (λ l. argument_source (argument_seen (span_of x.span) x.node) ∷ l) (arguments_are xs)

  lambda_parameters_are : (xs : List (Spanned (ParameterP.ParameterP P A B C D E)))
      → lambda_parameter_sources (all_parameters xs) ≡ map (λ (p : Spanned (ParameterP.ParameterP P A B C D E)). lambda_parameter
      (parameter_seen (span_of p.span) p.node)) xs
  lambda_parameters_are [] = refl
  lambda_parameters_are (x ∷ xs) = ap (λ l. lambda_parameter (parameter_seen (span_of x.span) x.node) ∷ l) (lambda_parameters_are xs)

  pub parameters_are : (xs : List (Spanned (ParameterP.ParameterP P A B C D E)))
      → parameter_sources (all_parameters xs) ≡ map (λ (p : Spanned (ParameterP.ParameterP P A B C D E)). parameter_source
      (parameter_seen (span_of p.span) p.node)) xs
  parameters_are [] = refl
  parameters_are (x ∷ xs) = ap (λ l. parameter_source (parameter_seen (span_of x.span) x.node) ∷ l) (parameters_are xs)

  targets_are : (xs : List (Spanned (AssignTargetP.AssignTargetP P A B C D E)))
      → target_sources (all_targets xs) ≡ map (λ (x : Spanned (AssignTargetP.AssignTargetP P A B C D E)). target_source false
      (target_seen (span_of x.span) x.node)) xs
  targets_are [] = refl
  targets_are (x ∷ xs) = ap (λ l. target_source false (target_seen (span_of x.span) x.node) ∷ l) (targets_are xs)

  clauses_are : (xs : List (ClauseP.ClauseP P A B C D E)) → draft (clauses_source (all_clauses xs)) ≡ flat_map drafted_clause xs
  unfolding drafted_clause
  clauses_are [] = refl
  clauses_are (x ∷ xs) = draft_two (clause_source (clause_seen x)) (clauses_source (all_clauses xs)) ∙ ap (λ l. draft (clause_source (clause_seen x)) ++ l)
      (clauses_are xs)

  part_draft : (e : Spanned (ExprP.ExprP P A B C D E)) → draft (source_of_part e) ≡ drafted_expr e.node
  unfolding source_of_part drafted_expr
  part_draft e = refl

  pair_draft : (p : Spanned (ExprP.ExprP P A B C D E) × Spanned (ExprP.ExprP P A B C D E)) → draft (pair_source p) ≡ drafted_pair p
  unfolding pair_source drafted_expr
  pair_draft p = draft_three (shape_source (shape_seen p.0.node)) colon (shape_source (shape_seen p.1.node))

  -- in parentheses, if it binds less tightly
  pub at_bracketed : (k : Level) (e : ExprP.ExprP P A B C D E) → is_looser (level_of (shape_seen e)) k ≡ true
      → say (codes "(") ++ (drafted_expr e ++ say (codes ")")) ≡ drafted_at k e
  unfolding drafted_at drafted_expr
  at_bracketed k e is = sym (ap (λ b. draft (bracketed b (shape_source (shape_seen e)))) is ∙ round_draft (shape_source (shape_seen e)))

  pub at_plain : (k : Level) (e : ExprP.ExprP P A B C D E) → is_looser (level_of (shape_seen e)) k ≡ false → drafted_expr e ≡ drafted_at k e
  unfolding drafted_at drafted_expr
  at_plain k e is = sym (ap (λ b. draft (bracketed b (shape_source (shape_seen e)))) is)

  pub tuple_drafted : (v : Vec (Spanned (ExprP.ExprP P A B C D E)) Global)
      → drafted_expr (ExprP.Tuple v) ≡ say (codes "(") ++ (tuple_drafts (λ (e : Spanned (ExprP.ExprP P A B C D E)). drafted_expr e.node) v.items
      ++ say (codes ")"))
  unfolding drafted_expr
  tuple_drafted v =
      ap (λ es. draft (in_round (in_tuple (tests es)))) (expressions_seen_of v) ∙ ap (λ ps. draft (in_round (in_tuple ps))) (tests_are v.items)
      ∙ round_draft (in_tuple (map source_of_part v.items))
      ∙ ap (λ l. say (codes "(") ++ (l ++ say (codes ")"))) (tuple_draft source_of_part (λ (e : Spanned (ExprP.ExprP P A B C D E)). drafted_expr e.node)
      part_draft v.items)

  pub list_drafted : (v : Vec (Spanned (ExprP.ExprP P A B C D E)) Global)
      → drafted_expr (ExprP.List v) ≡ say (codes "[") ++ (drafts (λ (e : Spanned (ExprP.ExprP P A B C D E)). drafted_expr e.node) (codes ", ") v.items
      ++ say (codes "]"))
  unfolding drafted_expr
  list_drafted v =
      ap (λ es. draft (in_square (listed (tests es)))) (expressions_seen_of v) ∙ ap (λ ps. draft (in_square (listed ps))) (tests_are v.items)
      ∙ square_draft (listed (map source_of_part v.items))
      ∙ ap (λ l. say (codes "[") ++ (l ++ say (codes "]"))) (listed_draft source_of_part (λ (e : Spanned (ExprP.ExprP P A B C D E)). drafted_expr e.node)
      part_draft v.items)

  pub dict_drafted : (v : Vec (Spanned (ExprP.ExprP P A B C D E) × Spanned (ExprP.ExprP P A B C D E)) Global)
      → drafted_expr (ExprP.Dict v) ≡ say (codes "{") ++ (drafts drafted_pair (codes ", ") v.items ++ say (codes "}"))
  unfolding drafted_expr
  dict_drafted v =
      ap (λ es. draft (in_curly (listed (pair_sources es)))) (pairs_seen_of v) ∙ ap (λ ps. draft (in_curly (listed ps))) (pairs_are v.items)
      ∙ curly_draft (listed (map pair_source v.items))
      ∙ ap (λ l. say (codes "{") ++ (l ++ say (codes "}"))) (listed_draft pair_source drafted_pair pair_draft v.items)

  pub call_drafted : (e : Box (Spanned (ExprP.ExprP P A B C D E)) Global) (args : CallArgsP P A B C D E)
      → drafted_expr (ExprP.Call e args)
      ≡ drafted_at level.Number e.value.node
      ++ (say (codes "(") ++ (drafts (λ (a : Spanned (ArgumentP.ArgumentP P A B C D E)). drafted_argument a.node) (codes ", ") args.args.items
      ++ say (codes ")")))
  unfolding drafted_expr drafted_at
  call_drafted e args =
      let f = at_level level.Number (expression_of e.value) in
      ap (λ xs. draft (f ++ in_round (listed (argument_sources xs)))) (arguments_seen_of args.args)
      ∙ ap (λ ps. draft (f ++ in_round (listed ps))) (arguments_are args.args.items)
      ∙ draft_two f (in_round (listed (map (λ (a : Spanned (ArgumentP.ArgumentP P A B C D E)). argument_source (argument_seen (span_of a.span) a.node))
      args.args.items)))
      ∙ ap (λ l. draft f ++ l) (round_draft (listed (map (λ (a : Spanned (ArgumentP.ArgumentP P A B C D E)). argument_source
      (argument_seen (span_of a.span) a.node)) args.args.items))
      ∙ ap (λ l. say (codes "(") ++ (l ++ say (codes ")")))
      (listed_draft (λ (a : Spanned (ArgumentP.ArgumentP P A B C D E)). argument_source (argument_seen (span_of a.span) a.node))
      (λ (a : Spanned (ArgumentP.ArgumentP P A B C D E)). drafted_argument a.node)
      (λ (a : Spanned (ArgumentP.ArgumentP P A B C D E)). argument_anywhere (span_of a.span) a.node) args.args.items))

  pub dot_drafted : (e : Box (Spanned (ExprP.ExprP P A B C D E)) Global) (n : Spanned (String Global))
      → drafted_expr (ExprP.Dot e n) ≡ drafted_at level.Primary e.value.node ++ (say (codes ".") ++ draft (name (word n)))
  unfolding drafted_expr drafted_at
  dot_drafted e n = draft_two (at_level level.Primary (expression_of e.value)) (token Dot ∷ name (word n))

  pub index_drafted : (b : Box (Spanned (ExprP.ExprP P A B C D E) × Spanned (ExprP.ExprP P A B C D E)) Global)
      → drafted_expr (ExprP.Index b) ≡ drafted_at level.Number b.value.0.node ++ (say (codes "[") ++ (drafted_expr b.value.1.node ++ say (codes "]")))
  unfolding drafted_expr drafted_at
  index_drafted b =
      draft_two (at_level level.Number (expression_of b.value.0)) (in_square (shape_source (shape_seen b.value.1.node)))
      ∙ ap (λ l. draft (at_level level.Number (expression_of b.value.0)) ++ l) (square_draft (shape_source (shape_seen b.value.1.node)))

  pub index2_drafted : (b : Box (Spanned (ExprP.ExprP P A B C D E) × Spanned (ExprP.ExprP P A B C D E) × Spanned (ExprP.ExprP P A B C D E)) Global)
      → drafted_expr (ExprP.Index2 b)
      ≡ drafted_at level.Number b.value.0.node
      ++ (say (codes "[") ++ ((drafted_expr b.value.1.node ++ (say (codes ", ") ++ drafted_expr b.value.2.node)) ++ say (codes "]")))
  unfolding drafted_expr drafted_at
  index2_drafted b =
      let i = shape_source (shape_seen b.value.1.node) in
      let j = shape_source (shape_seen b.value.2.node) in
      draft_two (at_level level.Number (expression_of b.value.0)) (in_square (i ++ (comma ++ j)))
      ∙ ap (λ l. draft (at_level level.Number (expression_of b.value.0)) ++ l)
      (square_draft (i ++ (comma ++ j)) ∙ ap (λ l. say (codes "[") ++ (l ++ say (codes "]"))) (draft_three i comma j))

  maybe_drafted : (before : Pieces) (text : Text) → draft before ≡ say text → (o : Option (Box (Spanned (ExprP.ExprP P A B C D E)) Global))
      → draft (maybe_source before (maybe_of o)) ≡ drafted_if_there text o
  unfolding drafted_expr
  maybe_drafted before text is None = refl
  maybe_drafted before text is (Some e) =
      draft_two before (shape_source (shape_seen e.value.node)) ∙ ap (λ l. l ++ draft (shape_source (shape_seen e.value.node))) is

  pub maybe_type_drafted : (before : Pieces) (text : Text) → draft before ≡ say text → (o : Option (Box (Spanned (TypeExprP P A B C D E)) Global))
      → draft (maybe_type_source before (boxed_type_of o)) ≡ drafted_type_if_there text o
  unfolding drafted_expr
  maybe_type_drafted before text is None = refl
  maybe_type_drafted before text is (Some ty) =
      draft_two before (shape_source (shape_seen ty.value.node.expr.node)) ∙ ap (λ l. l ++ draft (shape_source (shape_seen ty.value.node.expr.node))) is

  no_type_drafted : (o : Option (Box (Spanned (TypeExprP P A B C D E)) Global)) → draft (no_type_source (boxed_type_of o)) ≡ drafted_no_type o
  no_type_drafted None = refl
  no_type_drafted (Some ty) = refl

  -- what is next to an expression is what is in memory
  held_drafted : (before : Pieces) (text : Text) → draft before ≡ say text → (o : Option (Box (Spanned (ExprP.ExprP P A B C D E)) Global))
      → draft (maybe_source before (maybe_seen (Block.back-ExprP-Slice-1 P A B C D E o))) ≡ drafted_if_there text o
  held_drafted before text is o = ap (λ m. draft (maybe_source before m)) (maybe_seen_of o) ∙ maybe_drafted before text is o

  held_type_drafted : (before : Pieces) (text : Text) → draft before ≡ say text → (o : Option (Box (Spanned (TypeExprP P A B C D E)) Global))
      → draft (maybe_type_source before (maybe_type_seen (Block.back-ParameterP-Normal-1 P A B C D E o))) ≡ drafted_type_if_there text o
  held_type_drafted before text is o = ap (λ m. draft (maybe_type_source before m)) (maybe_type_seen_of o) ∙ maybe_type_drafted before text is o

  held_no_type_drafted : (o : Option (Box (Spanned (TypeExprP P A B C D E)) Global))
      → draft (no_type_source (maybe_type_seen (Block.back-ParameterP-Normal-1 P A B C D E o))) ≡ drafted_no_type o
  held_no_type_drafted o = ap (λ m. draft (no_type_source m)) (maybe_type_seen_of o) ∙ no_type_drafted o

  pub slice_drafted : (e : Box (Spanned (ExprP.ExprP P A B C D E)) Global) (start stop step : Option (Box (Spanned (ExprP.ExprP P A B C D E)) Global))
      → drafted_expr (ExprP.Slice e start stop step)
      ≡ drafted_at level.Number e.value.node
      ++ (say (codes "[") ++ ((drafted_if_there [] start ++ (say (codes ":") ++ (drafted_if_there [] stop ++ drafted_if_there (codes ":") step)))
      ++ say (codes "]")))
  unfolding drafted_expr drafted_at
  slice_drafted e start stop step =
      let f = at_level level.Number (expression_of e.value) in
      let a = maybe_source [] (maybe_seen (Block.back-ExprP-Slice-1 P A B C D E start)) in
      let b = maybe_source [] (maybe_seen (Block.back-ExprP-Slice-1 P A B C D E stop)) in
      let c = maybe_source (token Colon ∷ []) (maybe_seen (Block.back-ExprP-Slice-1 P A B C D E step)) in
      draft_two f (in_square (a ++ (token Colon ∷ [] ++ (b ++ c))))
      ∙ ap (λ l. draft f ++ l) (square_draft (a ++ (token Colon ∷ [] ++ (b ++ c))) ∙ ap (λ l. say (codes "[") ++ (l ++ say (codes "]")))
      (draft_four a (token Colon ∷ []) b c
      ∙ ap (λ l. l ++ (say (codes ":") ++ (draft b ++ draft c))) (held_drafted [] [] refl start)
      ∙ ap (λ l. drafted_if_there [] start ++ (say (codes ":") ++ (l ++ draft c))) (held_drafted [] [] refl stop)
      ∙ ap (λ l. drafted_if_there [] start ++ (say (codes ":") ++ (drafted_if_there [] stop ++ l))) (held_drafted (token Colon ∷ []) (codes ":") refl step)))

  pub identifier_drafted : (n : Spanned (IdentP P A B C D E)) → drafted_expr (ExprP.Identifier n) ≡ draft (name (ident_word n))
  unfolding drafted_expr
  identifier_drafted n = refl

  pub literal_drafted : (e : ExprP.ExprP P A B C D E) (x : AstLiteral) → e ≡ ExprP.Literal x → drafted_expr e ≡ draft (literal (literal_seen x))
  unfolding drafted_expr
  literal_drafted e x is = ap drafted_expr is

  pub not_drafted : (e : Box (Spanned (ExprP.ExprP P A B C D E)) Global) → drafted_expr (ExprP.Not e) ≡ say (codes "not ") ++ drafted_at level.Not e.value.node
  unfolding drafted_expr drafted_at
  not_drafted e = refl

  pub minus_drafted : (e : Box (Spanned (ExprP.ExprP P A B C D E)) Global) → drafted_expr (ExprP.Minus e) ≡ say (codes "-")
      ++ drafted_at level.Unary e.value.node
  unfolding drafted_expr drafted_at
  minus_drafted e = refl

  pub plus_drafted : (e : Box (Spanned (ExprP.ExprP P A B C D E)) Global) → drafted_expr (ExprP.Plus e) ≡ say (codes "+") ++ drafted_at level.Unary e.value.node
  unfolding drafted_expr drafted_at
  plus_drafted e = refl

  pub bit_not_drafted : (e : Box (Spanned (ExprP.ExprP P A B C D E)) Global) → drafted_expr (ExprP.BitNot e) ≡ say (codes "~")
      ++ drafted_at level.Unary e.value.node
  unfolding drafted_expr drafted_at
  bit_not_drafted e = refl

  pub op_drafted : (l : Box (Spanned (ExprP.ExprP P A B C D E)) Global) (o : BinOp) (r : Box (Spanned (ExprP.ExprP P A B C D E)) Global)
      → drafted_expr (ExprP.Op l o r)
      ≡ drafted_at (left_of (level_of_operator o)) l.value.node ++ (say (operator_text o) ++ drafted_at (right_of (level_of_operator o)) r.value.node)
  unfolding drafted_expr drafted_at
  op_drafted l o r =
      let a = at_level (left_of (level_of_operator o)) (expression_of l.value) in
      let b = at_level (right_of (level_of_operator o)) (expression_of r.value) in
      draft_three a (operator o) b ∙ ap (λ m. draft a ++ (m ++ draft b)) (operator_draft o)

  pub if_drafted : (b : Box (Spanned (ExprP.ExprP P A B C D E) × Spanned (ExprP.ExprP P A B C D E) × Spanned (ExprP.ExprP P A B C D E)) Global)
      → drafted_expr (ExprP.If b)
      ≡ drafted_at level.Or b.value.1.node
      ++ (say (codes " if ") ++ (drafted_at level.Or b.value.0.node ++ (say (codes " else ") ++ drafted_expr b.value.2.node)))
  unfolding drafted_expr drafted_at
  if_drafted b =
      draft_five (at_level level.Or (expression_of b.value.1)) (between tokens.If) (at_level level.Or (expression_of b.value.0)) (between tokens.Else)
      (shape_source (shape_seen b.value.2.node))

  all_clauses_draft : (v : Vec (ClauseP.ClauseP P A B C D E) Global)
      → draft (clauses_source (clauses_seen (Block.hidden-the_row-ClauseP-5 P A B C D E v))) ≡ flat_map drafted_clause v.items
  all_clauses_draft v = ap (λ cs. draft (clauses_source cs)) (clauses_seen_of v) ∙ clauses_are v.items

  pub list_comprehension_drafted : (e : Box (Spanned (ExprP.ExprP P A B C D E)) Global) (first : Box (ForClauseP P A B C D E) Global)
      (v : Vec (ClauseP.ClauseP P A B C D E) Global)
      → drafted_expr (ExprP.ListComprehension e first v)
      ≡ say (codes "[") ++ ((drafted_expr e.value.node ++ (drafted_for first.value ++ flat_map drafted_clause v.items)) ++ say (codes "]"))
  unfolding drafted_expr drafted_for
  list_comprehension_drafted e first v =
      let x = shape_source (shape_seen e.value.node) in
      let f = for_source (for_in_of first.value) in
      let cs = clauses_source (clauses_seen (Block.hidden-the_row-ClauseP-5 P A B C D E v)) in
      square_draft (x ++ (f ++ cs)) ∙ ap (λ l. say (codes "[") ++ (l ++ say (codes "]")))
      (draft_three x f cs ∙ ap (λ l. draft x ++ (draft f ++ l)) (all_clauses_draft v))

  pub dict_comprehension_drafted : (b : Box (Spanned (ExprP.ExprP P A B C D E) × Spanned (ExprP.ExprP P A B C D E)) Global)
      (first : Box (ForClauseP P A B C D E) Global)
      (v : Vec (ClauseP.ClauseP P A B C D E) Global)
      → drafted_expr (ExprP.DictComprehension b first v)
      ≡ say (codes "{") ++ ((drafted_pair b.value ++ (drafted_for first.value ++ flat_map drafted_clause v.items)) ++ say (codes "}"))
  unfolding drafted_expr drafted_for
  dict_comprehension_drafted b first v =
      let k = shape_source (shape_seen b.value.0.node) in
      let w = shape_source (shape_seen b.value.1.node) in
      let f = for_source (for_in_of first.value) in
      let cs = clauses_source (clauses_seen (Block.hidden-the_row-ClauseP-5 P A B C D E v)) in
      curly_draft ((k ++ (colon ++ w)) ++ (f ++ cs)) ∙ ap (λ l. say (codes "{") ++ (l ++ say (codes "}")))
      (draft_three (k ++ (colon ++ w)) f cs ∙ ap (λ l. l ++ (draft f ++ draft cs)) (draft_three k colon w)
      ∙ ap (λ l. (draft k ++ (draft colon ++ draft w)) ++ (draft f ++ l)) (all_clauses_draft v))

  pub f_string_drafted : (x : Spanned (FStringP P A B C D E))
      → drafted_expr (ExprP.FString x)
      ≡ say (codes "f\"") ++ (drafted_filled (span_of x.span) (string_bytes x.node.format.node) x.node.expressions.items ++ say (codes "\""))
  unfolding drafted_expr drafted_filled
  f_string_drafted x =
      let format = string_bytes x.node.format.node in
      ap (λ es. say (codes "f\"") ++ draft (filled (span_of x.span) format (holes es) ++ token FStringEnd ∷ [])) (expressions_seen_of x.node.expressions)
      ∙ ap (λ hs. say (codes "f\"") ++ draft (filled (span_of x.span) format hs ++ token FStringEnd ∷ [])) (holes_are x.node.expressions.items)
      ∙ ap (λ l. say (codes "f\"") ++ l) (draft_two (filled (span_of x.span) format (map hole_source x.node.expressions.items)) (token FStringEnd ∷ []))

  all_lambda_parameters : (xs : List (Spanned (ParameterP.ParameterP P A B C D E))) → draft (lambda_parameters (all_parameters xs)) ≡ lambda_drafts xs
  all_lambda_parameters [] = refl
  all_lambda_parameters (x ∷ xs) =
      ap (λ ps. draft (blank 1 ∷ listed (lambda_parameter (parameter_seen (span_of x.span) x.node) ∷ ps))) (lambda_parameters_are xs)
      ∙ ap (λ l. say (codes " ") ++ l)
      (listed_draft (λ (p : Spanned (ParameterP.ParameterP P A B C D E)). lambda_parameter (parameter_seen (span_of p.span) p.node))
      (λ (p : Spanned (ParameterP.ParameterP P A B C D E)). drafted_lambda_parameter p.node)
      (λ (p : Spanned (ParameterP.ParameterP P A B C D E)). lambda_parameter_anywhere (span_of p.span) p.node) (x ∷ xs))

  pub lambda_drafted : (l : LambdaP P A B C D E)
      → drafted_expr (ExprP.Lambda l) ≡ say (codes "lambda") ++ (lambda_drafts l.params.items ++ (say (codes ": ") ++ drafted_expr l.body.value.node))
  unfolding drafted_expr
  lambda_drafted l =
      let e = shape_source (shape_seen l.body.value.node) in
      ap (λ ps. say (codes "lambda") ++ draft (lambda_parameters ps ++ (colon ++ e))) (parameters_seen_of l.params)
      ∙ ap (λ d. say (codes "lambda") ++ d) (draft_three (lambda_parameters (all_parameters l.params.items)) colon e)
      ∙ ap (λ d. say (codes "lambda") ++ (d ++ (say (codes ": ") ++ draft e))) (all_lambda_parameters l.params.items)

  pub positional_drafted : (e : Spanned (ExprP.ExprP P A B C D E)) → drafted_argument (ArgumentP.Positional e) ≡ drafted_expr e.node
  unfolding drafted_argument drafted_expr
  positional_drafted e = refl

  pub named_drafted : (n : Spanned (String Global)) (e : Spanned (ExprP.ExprP P A B C D E))
      → drafted_argument (ArgumentP.Named n e) ≡ draft (name (word n)) ++ (say (codes " = ") ++ drafted_expr e.node)
  unfolding drafted_argument drafted_expr
  named_drafted n e = draft_three (name (word n)) (between Equal) (shape_source (shape_seen e.node))

  pub args_drafted : (e : Spanned (ExprP.ExprP P A B C D E)) → drafted_argument (ArgumentP.Args e) ≡ say (codes "*") ++ drafted_expr e.node
  unfolding drafted_argument drafted_expr
  args_drafted e = refl

  pub kwargs_drafted : (e : Spanned (ExprP.ExprP P A B C D E)) → drafted_argument (ArgumentP.KwArgs e) ≡ say (codes "**") ++ drafted_expr e.node
  unfolding drafted_argument drafted_expr
  kwargs_drafted e = refl

  pub lambda_slash_drafted : (p : ParameterP.ParameterP P A B C D E) → p ≡ ParameterP.Slash → drafted_lambda_parameter p ≡ say (codes "/")
  unfolding drafted_lambda_parameter
  lambda_slash_drafted p is = ap drafted_lambda_parameter is

  pub lambda_star_drafted : (p : ParameterP.ParameterP P A B C D E) → p ≡ ParameterP.NoArgs → drafted_lambda_parameter p ≡ say (codes "*")
  unfolding drafted_lambda_parameter
  lambda_star_drafted p is = ap drafted_lambda_parameter is

  pub lambda_normal_drafted : (n : Spanned (AssignIdentP P A B C D E)) (ty : Option (Box (Spanned (TypeExprP P A B C D E)) Global))
      (default : Option (Box (Spanned (ExprP.ExprP P A B C D E)) Global))
      → drafted_lambda_parameter (ParameterP.Normal n ty default) ≡ draft (name (assign_word n))
      ++ (drafted_no_type ty ++ drafted_if_there (codes " = ") default)
  unfolding drafted_lambda_parameter
  lambda_normal_drafted n ty default =
      let a = no_type_source (maybe_type_seen (Block.back-ParameterP-Normal-1 P A B C D E ty)) in
      let b = maybe_source (between Equal) (maybe_seen (Block.back-ExprP-Slice-1 P A B C D E default)) in
      draft_three (name (assign_word n)) a b
      ∙ ap (λ l. draft (name (assign_word n)) ++ (l ++ draft b)) (held_no_type_drafted ty)
      ∙ ap (λ l. draft (name (assign_word n)) ++ (drafted_no_type ty ++ l)) (held_drafted (between Equal) (codes " = ") refl default)

  pub lambda_args_drafted : (n : Spanned (AssignIdentP P A B C D E)) (ty : Option (Box (Spanned (TypeExprP P A B C D E)) Global))
      → drafted_lambda_parameter (ParameterP.Args n ty) ≡ say (codes "*") ++ (draft (name (assign_word n)) ++ drafted_no_type ty)
  unfolding drafted_lambda_parameter
  lambda_args_drafted n ty =
      let a = no_type_source (maybe_type_seen (Block.back-ParameterP-Normal-1 P A B C D E ty)) in
      ap (λ l. say (codes "*") ++ l) (draft_two (name (assign_word n)) a ∙ ap (λ l. draft (name (assign_word n)) ++ l) (held_no_type_drafted ty))

  pub lambda_kwargs_drafted : (n : Spanned (AssignIdentP P A B C D E)) (ty : Option (Box (Spanned (TypeExprP P A B C D E)) Global))
      → drafted_lambda_parameter (ParameterP.KwArgs n ty) ≡ say (codes "**") ++ (draft (name (assign_word n)) ++ drafted_no_type ty)
  unfolding drafted_lambda_parameter
  lambda_kwargs_drafted n ty =
      let a = no_type_source (maybe_type_seen (Block.back-ParameterP-Normal-1 P A B C D E ty)) in
      ap (λ l. say (codes "**") ++ l) (draft_two (name (assign_word n)) a ∙ ap (λ l. draft (name (assign_word n)) ++ l) (held_no_type_drafted ty))

  pub slash_drafted : (p : ParameterP.ParameterP P A B C D E) → p ≡ ParameterP.Slash → drafted_parameter p ≡ say (codes "/")
  unfolding drafted_parameter
  slash_drafted p is = ap drafted_parameter is

  pub star_drafted : (p : ParameterP.ParameterP P A B C D E) → p ≡ ParameterP.NoArgs → drafted_parameter p ≡ say (codes "*")
  unfolding drafted_parameter
  star_drafted p is = ap drafted_parameter is

  pub normal_drafted : (n : Spanned (AssignIdentP P A B C D E)) (ty : Option (Box (Spanned (TypeExprP P A B C D E)) Global))
      (default : Option (Box (Spanned (ExprP.ExprP P A B C D E)) Global))
      → drafted_parameter (ParameterP.Normal n ty default)
      ≡ draft (name (assign_word n)) ++ (drafted_type_if_there (codes ": ") ty ++ drafted_if_there (codes " = ") default)
  unfolding drafted_parameter
  normal_drafted n ty default =
      let a = maybe_type_source colon (maybe_type_seen (Block.back-ParameterP-Normal-1 P A B C D E ty)) in
      let b = maybe_source (between Equal) (maybe_seen (Block.back-ExprP-Slice-1 P A B C D E default)) in
      draft_three (name (assign_word n)) a b
      ∙ ap (λ l. draft (name (assign_word n)) ++ (l ++ draft b)) (held_type_drafted colon (codes ": ") refl ty)
      ∙ ap (λ l. draft (name (assign_word n)) ++ (drafted_type_if_there (codes ": ") ty ++ l)) (held_drafted (between Equal) (codes " = ") refl default)

  pub args_parameter_drafted : (n : Spanned (AssignIdentP P A B C D E)) (ty : Option (Box (Spanned (TypeExprP P A B C D E)) Global))
      → drafted_parameter (ParameterP.Args n ty) ≡ say (codes "*") ++ (draft (name (assign_word n)) ++ drafted_type_if_there (codes ": ") ty)
  unfolding drafted_parameter
  args_parameter_drafted n ty =
      let a = maybe_type_source colon (maybe_type_seen (Block.back-ParameterP-Normal-1 P A B C D E ty)) in
      ap (λ l. say (codes "*") ++ l) (draft_two (name (assign_word n)) a ∙ ap (λ l. draft (name (assign_word n)) ++ l)
      (held_type_drafted colon (codes ": ") refl ty))

  pub kwargs_parameter_drafted : (n : Spanned (AssignIdentP P A B C D E)) (ty : Option (Box (Spanned (TypeExprP P A B C D E)) Global))
      → drafted_parameter (ParameterP.KwArgs n ty) ≡ say (codes "**") ++ (draft (name (assign_word n)) ++ drafted_type_if_there (codes ": ") ty)
  unfolding drafted_parameter
  kwargs_parameter_drafted n ty =
      let a = maybe_type_source colon (maybe_type_seen (Block.back-ParameterP-Normal-1 P A B C D E ty)) in
      ap (λ l. say (codes "**") ++ l) (draft_two (name (assign_word n)) a ∙ ap (λ l. draft (name (assign_word n)) ++ l)
      (held_type_drafted colon (codes ": ") refl ty))

  pub for_drafted : (c : ForClauseP P A B C D E)
      → drafted_for c ≡ say (codes " for ") ++ (drafted_targets c.var.node ++ (say (codes " in ") ++ drafted_at level.Or c.over.node))
  unfolding drafted_for drafted_at
  for_drafted c =
      let x = target_source true (target_of c.var) in
      let e = at_level level.Or (expression_of c.over) in
      draft_four (between tokens.For) x (between tokens.In) e ∙ ap (λ l. say (codes " for ") ++ (l ++ (say (codes " in ") ++ draft e)))
      (targets_anywhere (span_of c.var.span) c.var.node)

  pub for_clause_drafted : (c : ForClauseP P A B C D E) → drafted_clause (ClauseP.For c) ≡ drafted_for c
  unfolding drafted_clause drafted_for
  for_clause_drafted c = refl

  pub if_clause_drafted : (e : Spanned (ExprP.ExprP P A B C D E)) → drafted_clause (ClauseP.If e) ≡ say (codes " if ") ++ drafted_at level.Or e.node
  unfolding drafted_clause drafted_at
  if_clause_drafted e = refl

  pub target_tuple_drafted : (v : Vec (Spanned (AssignTargetP.AssignTargetP P A B C D E)) Global)
      → drafted_target (AssignTargetP.Tuple v)
      ≡ say (codes "(") ++ (tuple_drafts (λ (x : Spanned (AssignTargetP.AssignTargetP P A B C D E)). drafted_target x.node) v.items ++ say (codes ")"))
  unfolding drafted_target
  target_tuple_drafted v =
      ap (λ xs. draft (in_round (in_tuple (target_sources xs)))) (targets_seen_of v) ∙ ap (λ ps. draft (in_round (in_tuple ps))) (targets_are v.items)
      ∙ round_draft (in_tuple (map (λ (x : Spanned (AssignTargetP.AssignTargetP P A B C D E)). target_source false (target_seen (span_of x.span) x.node))
      v.items))
      ∙ ap (λ l. say (codes "(") ++ (l ++ say (codes ")")))
      (tuple_draft (λ (x : Spanned (AssignTargetP.AssignTargetP P A B C D E)). target_source false (target_seen (span_of x.span) x.node))
      (λ (x : Spanned (AssignTargetP.AssignTargetP P A B C D E)). drafted_target x.node)
      (λ (x : Spanned (AssignTargetP.AssignTargetP P A B C D E)). target_anywhere (span_of x.span) x.node) v.items)

  pub targets_tuple_drafted : (v : Vec (Spanned (AssignTargetP.AssignTargetP P A B C D E)) Global)
      → drafted_targets (AssignTargetP.Tuple v) ≡ bare_drafts (λ (x : Spanned (AssignTargetP.AssignTargetP P A B C D E)). drafted_target x.node) v.items
  unfolding drafted_targets
  targets_tuple_drafted v =
      ap (λ xs. draft (bare (target_sources xs))) (targets_seen_of v) ∙ ap (λ ps. draft (bare ps)) (targets_are v.items)
      ∙ bare_draft (λ (x : Spanned (AssignTargetP.AssignTargetP P A B C D E)). target_source false (target_seen (span_of x.span) x.node))
      (λ (x : Spanned (AssignTargetP.AssignTargetP P A B C D E)). drafted_target x.node)
      (λ (x : Spanned (AssignTargetP.AssignTargetP P A B C D E)). target_anywhere (span_of x.span) x.node) v.items

  -- any target except a tuple is written in a list as it is written alone
  pub target_alone : (x : AssignTargetP.AssignTargetP P A B C D E) → ((v : Vec (Spanned (AssignTargetP.AssignTargetP P A B C D E)) Global)
      → x ≡ AssignTargetP.Tuple v → ⊥)
      → drafted_target x ≡ drafted_targets x
  unfolding drafted_target drafted_targets
  target_alone (AssignTargetP.Tuple' shape row) other =
      absurd (other _ (sym (AssignTargetP.roll-out-AssignTargetP P A B C D E (AssignTargetP.Tuple' shape row))
      ∙ ap (AssignTargetP.roll-AssignTargetP P A B C D E) (target_variant.outs-Tuple' shape row) ∙ target_variant.rolls-Tuple _))
  target_alone _ other = refl

  pub list_alone : (e : ExprP.ExprP P A B C D E) → ((v : Vec (Spanned (ExprP.ExprP P A B C D E)) Global) → e ≡ ExprP.Tuple v → ⊥)
      → drafted_expr e ≡ drafted_list e
  unfolding drafted_expr drafted_list
  list_alone (ExprP.Tuple' shape row) other =
      absurd (other _ (sym (ExprP.roll-out-ExprP P A B C D E (ExprP.Tuple' shape row)) ∙ ap (ExprP.roll-ExprP P A B C D E) (variant.outs-Tuple' shape row)
      ∙ variant.rolls-Tuple _))
  list_alone _ other = refl

  pub target_index_drafted : (b : Box (Spanned (ExprP.ExprP P A B C D E) × Spanned (ExprP.ExprP P A B C D E)) Global)
      → drafted_target (AssignTargetP.Index b) ≡ drafted_at level.Number b.value.0.node ++ (say (codes "[") ++ (drafted_expr b.value.1.node ++ say (codes "]")))
  unfolding drafted_target drafted_expr drafted_at
  target_index_drafted b =
      draft_two (at_level level.Number (expression_of b.value.0)) (in_square (shape_source (shape_seen b.value.1.node)))
      ∙ ap (λ l. draft (at_level level.Number (expression_of b.value.0)) ++ l) (square_draft (shape_source (shape_seen b.value.1.node)))

  pub target_dot_drafted : (e : Box (Spanned (ExprP.ExprP P A B C D E)) Global) (n : Spanned (String Global))
      → drafted_target (AssignTargetP.Dot e n) ≡ drafted_at level.Primary e.value.node ++ (say (codes ".") ++ draft (name (word n)))
  unfolding drafted_target drafted_at
  target_dot_drafted e n = draft_two (at_level level.Primary (expression_of e.value)) (token Dot ∷ name (word n))

  pub target_name_drafted : (n : Spanned (AssignIdentP P A B C D E)) → drafted_target (AssignTargetP.Identifier n) ≡ draft (name (assign_word n))
  unfolding drafted_target
  target_name_drafted n = refl

  pub tuple_list_drafted : (v : Vec (Spanned (ExprP.ExprP P A B C D E)) Global)
      → drafted_list (ExprP.Tuple v) ≡ bare_drafts (λ (e : Spanned (ExprP.ExprP P A B C D E)). drafted_expr e.node) v.items
  unfolding drafted_list
  tuple_list_drafted v =
      ap (λ es. draft (bare (tests es))) (expressions_seen_of v) ∙ ap (λ ps. draft (bare ps)) (tests_are v.items)
      ∙ bare_draft source_of_part (λ (e : Spanned (ExprP.ExprP P A B C D E)). drafted_expr e.node) part_draft v.items

  pub lambda_none : (xs : List (Spanned (ParameterP.ParameterP P A B C D E))) → length xs < 1 → [] ≡ lambda_drafts xs
  lambda_none [] none = refl
  lambda_none (x ∷ xs) none = absurd (omega arith)

  pub lambda_some : (xs : List (Spanned (ParameterP.ParameterP P A B C D E))) → 1 ≤ length xs
      → say (codes " ") ++ drafts (λ (p : Spanned (ParameterP.ParameterP P A B C D E)). drafted_lambda_parameter p.node) (codes ", ") xs ≡ lambda_drafts xs
  lambda_some [] some = absurd (omega arith)
  lambda_some (x ∷ xs) some = refl
