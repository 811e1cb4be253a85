-- The displayed text of each kind of node, by the texts of its parts.
use Rattle.std.proofs.Common.{◌≡◌, ℕ, List, [], ◌∷◌, ◌++◌, codes, map, Option, Some, None, String, string_bytes, Box, Vec, Global, refl, ap, ◌∙◌}
use Rattle.std.proofs.lemmas.Grind.{common_steps, put_two, put_six}
use Rattle.std.specs.List.{flat_map}
use Rattle.std.specs.Fmt.{HasWritten}
use Rattle.std.specs.declared.fmt.Formatter.{Formatter}
use Rattle.starlark_lexer.specs.Tokens.{Text, Span, span_of}
use Rattle.starlark_lexer.specs.declared.span.Spanned.{Spanned}
use Rattle.starlark_tree.specs.declared.ast.ArgumentP
use Rattle.starlark_tree.specs.declared.ast.ArgumentP.TheBlock as Block
use Rattle.starlark_tree.specs.declared.ast.AssignTargetP
use Rattle.starlark_tree.specs.declared.ast.ClauseP
use Rattle.starlark_tree.specs.declared.ast.ExprP
use Rattle.starlark_tree.specs.declared.ast.ParameterP
use Rattle.starlark_tree.specs.declared.ast.AssignIdentP.{AssignIdentP}
use Rattle.starlark_tree.specs.declared.ast.ForClauseP.{ForClauseP}
use Rattle.starlark_tree.specs.declared.ast.FStringP.{FStringP}
use Rattle.starlark_tree.specs.declared.ast.IdentP.{IdentP}
use Rattle.starlark_tree.specs.declared.ast.LambdaP.{LambdaP}
use Rattle.starlark_tree.specs.declared.ast.CallArgsP.{CallArgsP}
use Rattle.starlark_tree.specs.declared.ast.TypeExprP.{TypeExprP}
use Rattle.starlark_tree.specs.declared.ast.AstLiteral.{AstLiteral}
use Rattle.starlark_tree.specs.declared.ast.operator.BinOp.{BinOp}
use Rattle.starlark_tree.specs.Joined.{comma_separated, tuple_parts, listed, in_tuple}
use Rattle.starlark_tree.specs.Literals.{literal_text}
use Rattle.starlark_tree.specs.Operators.{operator_text}
use Rattle.starlark_tree.specs.Printing.{expression_texts, argument_text, parameter_text, target_text, argument_texts, parameter_texts, pair_texts}
use Rattle.starlark_tree.specs.Printing.{target_texts, clauses_text, maybe_text, maybe_type_text}
use Rattle.starlark_tree.specs.Printed.{printed_expr, printed_argument, printed_parameter, printed_target, printed_for, printed_clause, printed_if_there}
use Rattle.starlark_tree.specs.Printed.{printed_type_if_there, printed_target_type}
use Rattle.starlark_tree.specs.Views.{literal_seen, argument_seen, parameter_seen, target_seen, all_expressions, all_pairs, all_arguments, all_parameters}
use Rattle.starlark_tree.specs.Views.{all_targets, all_clauses, maybe_of, boxed_type_of, maybe_seen, maybe_type_seen, clauses_seen}
use Rattle.starlark_tree.proofs.Rows.{expressions_seen_of, pairs_seen_of, arguments_seen_of, parameters_seen_of, targets_seen_of, clauses_seen_of}
use Rattle.starlark_tree.proofs.Rows.{maybe_seen_of, maybe_type_seen_of}

module _ {X : Type 0} where
  more_listed : (text : X → Text) (xs : List X) → flat_map (λ (t : Text). codes ", " ++ t) (map text xs) ≡ flat_map (λ (x : X). codes ", " ++ text x) xs
  more_listed text [] = refl
  more_listed text (x ∷ xs) = ap (λ t. (codes ", " ++ text x) ++ t) (more_listed text xs)

  pub listed_map : (text : X → Text) (xs : List X) → listed (map text xs) ≡ comma_separated text xs
  listed_map text [] = refl
  listed_map text (x ∷ xs) = ap (λ t. text x ++ t) (more_listed text xs)

  in_tuple_map : (text : X → Text) (xs : List X) → in_tuple (map text xs) ≡ tuple_parts text xs
  in_tuple_map text [] = refl
  in_tuple_map text (x ∷ []) = refl
  in_tuple_map text (x ∷ y ∷ xs) = listed_map text (x ∷ y ∷ xs)

module _ {P A B C D E : Type 0} where
  pub expression_texts_of : (xs : List (Spanned (ExprP.ExprP P A B C D E))) → expression_texts (all_expressions xs)
      ≡ map (λ (e : Spanned (ExprP.ExprP P A B C D E)). printed_expr e.node) xs
  unfolding printed_expr
  expression_texts_of [] = refl
  expression_texts_of (x ∷ xs) = ap (λ t. printed_expr x.node ∷ t) (expression_texts_of xs)

  pair_texts_of : (xs : List (Spanned (ExprP.ExprP P A B C D E) × Spanned (ExprP.ExprP P A B C D E))) → pair_texts (all_pairs xs)
      ≡ map (λ (p : Spanned (ExprP.ExprP P A B C D E) × Spanned (ExprP.ExprP P A B C D E)). (printed_expr p.0.node ++ codes ": " ++ printed_expr p.1.node)) xs
  unfolding printed_expr
  pair_texts_of [] = refl
  pair_texts_of (x ∷ xs) = ap (λ t. (printed_expr x.0.node ++ codes ": " ++ printed_expr x.1.node) ∷ t) (pair_texts_of xs)

  pub argument_anywhere : (at : Span) (a : ArgumentP.ArgumentP P A B C D E) → argument_text (argument_seen at a) ≡ printed_argument a
  unfolding printed_argument
  argument_anywhere at (ArgumentP.Positional' e s) = refl
  argument_anywhere at (ArgumentP.Named' name e s) = refl
  argument_anywhere at (ArgumentP.Args' e s) = refl
  argument_anywhere at (ArgumentP.KwArgs' e s) = refl

  pub parameter_anywhere : (at : Span) (p : ParameterP.ParameterP P A B C D E) → parameter_text (parameter_seen at p) ≡ printed_parameter p
  unfolding printed_parameter
  parameter_anywhere at ParameterP.Slash = refl
  parameter_anywhere at (ParameterP.Normal' name ty default) = refl
  parameter_anywhere at ParameterP.NoArgs = refl
  parameter_anywhere at (ParameterP.Args' name ty) = refl
  parameter_anywhere at (ParameterP.KwArgs' name ty) = refl

  pub target_anywhere : (at : Span) (x : AssignTargetP.AssignTargetP P A B C D E) → target_text (target_seen at x) ≡ printed_target x
  unfolding printed_target
  target_anywhere at (AssignTargetP.Tuple' shape row) = refl
  target_anywhere at (AssignTargetP.Index' p a s i r) = refl
  target_anywhere at (AssignTargetP.Dot' p e s name) = refl
  target_anywhere at (AssignTargetP.Identifier name) = refl

  argument_texts_of : (xs : List (Spanned (ArgumentP.ArgumentP P A B C D E))) → argument_texts (all_arguments xs)
      ≡ map (λ (a : Spanned (ArgumentP.ArgumentP P A B C D E)). printed_argument a.node) xs
  argument_texts_of [] = refl
  argument_texts_of (x ∷ xs) = ap (λ t. t ∷ argument_texts (all_arguments xs)) (argument_anywhere (span_of x.span) x.node)
      ∙ ap (λ t. printed_argument x.node ∷ t) (argument_texts_of xs)

  pub parameter_texts_of : (xs : List (Spanned (ParameterP.ParameterP P A B C D E))) → parameter_texts (all_parameters xs)
      ≡ map (λ (p : Spanned (ParameterP.ParameterP P A B C D E)). printed_parameter p.node) xs
  parameter_texts_of [] = refl
  parameter_texts_of (x ∷ xs) = ap (λ t. t ∷ parameter_texts (all_parameters xs)) (parameter_anywhere (span_of x.span) x.node)
      ∙ ap (λ t. printed_parameter x.node ∷ t) (parameter_texts_of xs)

  target_texts_of : (xs : List (Spanned (AssignTargetP.AssignTargetP P A B C D E))) → target_texts (all_targets xs)
      ≡ map (λ (x : Spanned (AssignTargetP.AssignTargetP P A B C D E)). printed_target x.node) xs
  target_texts_of [] = refl
  target_texts_of (x ∷ xs) = ap (λ t. t ∷ target_texts (all_targets xs)) (target_anywhere (span_of x.span) x.node)
      ∙ ap (λ t. printed_target x.node ∷ t) (target_texts_of xs)

  pub clause_texts_of : (xs : List (ClauseP.ClauseP P A B C D E)) → clauses_text (all_clauses xs) ≡ flat_map printed_clause xs
  unfolding printed_clause
  clause_texts_of [] = refl
  clause_texts_of (x ∷ xs) = ap (λ t. printed_clause x ++ t) (clause_texts_of xs)

  pub tuple_printed : (v : Vec (Spanned (ExprP.ExprP P A B C D E)) Global) → printed_expr (ExprP.Tuple v) ≡ codes "("
      ++ tuple_parts (λ (e : Spanned (ExprP.ExprP P A B C D E)). printed_expr e.node) v.items ++ codes ")"
  unfolding printed_expr printed_argument printed_parameter printed_target printed_for printed_clause printed_if_there printed_type_if_there printed_target_type
  tuple_printed v =
      ap (λ es. codes "(" ++ in_tuple (expression_texts es) ++ codes ")") (expressions_seen_of v)
      ∙ ap (λ ts. codes "(" ++ in_tuple ts ++ codes ")") (expression_texts_of v.items)
      ∙ ap (λ t. codes "(" ++ t ++ codes ")") (in_tuple_map (λ (e : Spanned (ExprP.ExprP P A B C D E)). printed_expr e.node) v.items)

  pub list_printed : (v : Vec (Spanned (ExprP.ExprP P A B C D E)) Global) → printed_expr (ExprP.List v) ≡ codes "["
      ++ comma_separated (λ (e : Spanned (ExprP.ExprP P A B C D E)). printed_expr e.node) v.items ++ codes "]"
  unfolding printed_expr printed_argument printed_parameter printed_target printed_for printed_clause printed_if_there printed_type_if_there printed_target_type
  list_printed v =
      ap (λ es. codes "[" ++ listed (expression_texts es) ++ codes "]") (expressions_seen_of v)
      ∙ ap (λ ts. codes "[" ++ listed ts ++ codes "]") (expression_texts_of v.items)
      ∙ ap (λ t. codes "[" ++ t ++ codes "]") (listed_map (λ (e : Spanned (ExprP.ExprP P A B C D E)). printed_expr e.node) v.items)

  pub dict_printed : (v : Vec (Spanned (ExprP.ExprP P A B C D E) × Spanned (ExprP.ExprP P A B C D E)) Global) → printed_expr (ExprP.Dict v) ≡ codes "{"
      ++ comma_separated (λ (p : Spanned (ExprP.ExprP P A B C D E) × Spanned (ExprP.ExprP P A B C D E)). printed_expr p.0.node ++ codes ": "
      ++ printed_expr p.1.node) v.items ++ codes "}"
  unfolding printed_expr printed_argument printed_parameter printed_target printed_for printed_clause printed_if_there printed_type_if_there printed_target_type
  dict_printed v =
      ap (λ es. codes "{" ++ listed (pair_texts es) ++ codes "}") (pairs_seen_of v)
      ∙ ap (λ ts. codes "{" ++ listed ts ++ codes "}") (pair_texts_of v.items)
      ∙ ap (λ t. codes "{" ++ t ++ codes "}") (listed_map (λ (p : Spanned (ExprP.ExprP P A B C D E) × Spanned (ExprP.ExprP P A B C D E)). printed_expr
      p.0.node ++ codes ": " ++ printed_expr p.1.node) v.items)

  pub call_printed : (e : Box (Spanned (ExprP.ExprP P A B C D E)) Global) (args : CallArgsP P A B C D E) → printed_expr (ExprP.Call e args)
      ≡ printed_expr e.value.node ++ codes "(" ++ comma_separated (λ (a : Spanned (ArgumentP.ArgumentP P A B C D E)). printed_argument a.node) args.args.items
      ++ codes ")"
  unfolding printed_expr printed_argument printed_parameter printed_target printed_for printed_clause printed_if_there printed_type_if_there printed_target_type
  call_printed e args =
      ap (λ es. printed_expr e.value.node ++ codes "(" ++ listed (argument_texts es) ++ codes ")") (arguments_seen_of args.args)
      ∙ ap (λ ts. printed_expr e.value.node ++ codes "(" ++ listed ts ++ codes ")") (argument_texts_of args.args.items)
      ∙ ap (λ t. printed_expr e.value.node ++ codes "(" ++ t ++ codes ")")
      (listed_map (λ (a : Spanned (ArgumentP.ArgumentP P A B C D E)). printed_argument a.node) args.args.items)

  pub lambda_printed : (l : LambdaP P A B C D E) → printed_expr (ExprP.Lambda l) ≡ codes "(lambda "
      ++ comma_separated (λ (p : Spanned (ParameterP.ParameterP P A B C D E)). printed_parameter p.node) l.params.items ++ codes ": "
      ++ printed_expr l.body.value.node ++ codes ")"
  unfolding printed_expr printed_argument printed_parameter printed_target printed_for printed_clause printed_if_there printed_type_if_there printed_target_type
  lambda_printed l =
      ap (λ es. codes "(lambda " ++ listed (parameter_texts es) ++ codes ": " ++ printed_expr l.body.value.node ++ codes ")") (parameters_seen_of l.params)
      ∙ ap (λ ts. codes "(lambda " ++ listed ts ++ codes ": " ++ printed_expr l.body.value.node ++ codes ")") (parameter_texts_of l.params.items)
      ∙ ap (λ t. codes "(lambda " ++ t ++ codes ": " ++ printed_expr l.body.value.node ++ codes ")")
      (listed_map (λ (p : Spanned (ParameterP.ParameterP P A B C D E)). printed_parameter p.node) l.params.items)

  pub f_string_printed : (s : Spanned (FStringP P A B C D E)) → printed_expr (ExprP.FString s) ≡ string_bytes s.node.format.node ++ codes ".format("
      ++ comma_separated (λ (e : Spanned (ExprP.ExprP P A B C D E)). printed_expr e.node) s.node.expressions.items ++ codes ")"
  unfolding printed_expr printed_argument printed_parameter printed_target printed_for printed_clause printed_if_there printed_type_if_there printed_target_type
  f_string_printed s =
      ap (λ es. string_bytes s.node.format.node ++ codes ".format(" ++ listed (expression_texts es) ++ codes ")") (expressions_seen_of s.node.expressions)
      ∙ ap (λ ts. string_bytes s.node.format.node ++ codes ".format(" ++ listed ts ++ codes ")") (expression_texts_of s.node.expressions.items)
      ∙ ap (λ t. string_bytes s.node.format.node ++ codes ".format(" ++ t ++ codes ")")
      (listed_map (λ (e : Spanned (ExprP.ExprP P A B C D E)). printed_expr e.node) s.node.expressions.items)

  pub target_tuple_printed : (v : Vec (Spanned (AssignTargetP.AssignTargetP P A B C D E)) Global) → printed_target (AssignTargetP.Tuple v) ≡ codes "("
      ++ tuple_parts (λ (x : Spanned (AssignTargetP.AssignTargetP P A B C D E)). printed_target x.node) v.items ++ codes ")"
  unfolding printed_expr printed_argument printed_parameter printed_target printed_for printed_clause printed_if_there printed_type_if_there printed_target_type
  target_tuple_printed v =
      ap (λ es. codes "(" ++ in_tuple (target_texts es) ++ codes ")") (targets_seen_of v)
      ∙ ap (λ ts. codes "(" ++ in_tuple ts ++ codes ")") (target_texts_of v.items)
      ∙ ap (λ t. codes "(" ++ t ++ codes ")") (in_tuple_map (λ (x : Spanned (AssignTargetP.AssignTargetP P A B C D E)). printed_target x.node) v.items)

  pub dot_printed : (e : Box (Spanned (ExprP.ExprP P A B C D E)) Global) (name : Spanned (String Global)) → printed_expr (ExprP.Dot e name)
      ≡ printed_expr e.value.node ++ codes "." ++ string_bytes name.node
  unfolding printed_expr printed_argument printed_parameter printed_target printed_for printed_clause printed_if_there printed_type_if_there printed_target_type
  dot_printed e name = refl

  pub index_printed : (b : Box (Spanned (ExprP.ExprP P A B C D E) × Spanned (ExprP.ExprP P A B C D E)) Global) → printed_expr (ExprP.Index b)
      ≡ printed_expr b.value.0.node ++ codes "[" ++ printed_expr b.value.1.node ++ codes "]"
  unfolding printed_expr printed_argument printed_parameter printed_target printed_for printed_clause printed_if_there printed_type_if_there printed_target_type
  index_printed b = refl

  pub index2_printed : (b : Box (Spanned (ExprP.ExprP P A B C D E) × Spanned (ExprP.ExprP P A B C D E) × Spanned (ExprP.ExprP P A B C D E)) Global)
      → printed_expr (ExprP.Index2 b) ≡ printed_expr b.value.0.node ++ codes "[" ++ printed_expr b.value.1.node ++ codes ", " ++ printed_expr b.value.2.node
      ++ codes "]"
  unfolding printed_expr printed_argument printed_parameter printed_target printed_for printed_clause printed_if_there printed_type_if_there printed_target_type
  index2_printed b = refl

  pub if_printed : (b : Box (Spanned (ExprP.ExprP P A B C D E) × Spanned (ExprP.ExprP P A B C D E) × Spanned (ExprP.ExprP P A B C D E)) Global)
      → printed_expr (ExprP.If b) ≡ codes "(" ++ printed_expr b.value.1.node ++ codes " if " ++ printed_expr b.value.0.node ++ codes " else "
      ++ printed_expr b.value.2.node ++ codes ")"
  unfolding printed_expr printed_argument printed_parameter printed_target printed_for printed_clause printed_if_there printed_type_if_there printed_target_type
  if_printed b = refl

  maybe_printed : (before : Text) (o : Option (Box (Spanned (ExprP.ExprP P A B C D E)) Global)) → maybe_text before (maybe_of o) ≡ printed_if_there before o
  unfolding printed_expr printed_if_there
  maybe_printed before None = refl
  maybe_printed before (Some e) = refl

  pub maybe_type_printed : (before : Text) (o : Option (Box (Spanned (TypeExprP P A B C D E)) Global)) → maybe_type_text before (boxed_type_of o)
      ≡ printed_type_if_there before o
  unfolding printed_expr printed_type_if_there
  maybe_type_printed before None = refl
  maybe_type_printed before (Some ty) = refl

  held_printed : (before : Text) (o : Option (Box (Spanned (ExprP.ExprP P A B C D E)) Global))
      → maybe_text before (maybe_seen (ExprP.back-ExprP-Slice-1 P A B C D E o)) ≡ printed_if_there before o
  held_printed before o = ap (maybe_text before) (maybe_seen_of o) ∙ maybe_printed before o

  held_type_printed : (before : Text) (o : Option (Box (Spanned (TypeExprP P A B C D E)) Global))
      → maybe_type_text before (maybe_type_seen (ParameterP.back-ParameterP-Normal-1 P A B C D E o)) ≡ printed_type_if_there before o
  held_type_printed before o = ap (maybe_type_text before) (maybe_type_seen_of o) ∙ maybe_type_printed before o

  pub slice_printed : (e : Box (Spanned (ExprP.ExprP P A B C D E)) Global) (start stop step : Option (Box (Spanned (ExprP.ExprP P A B C D E)) Global))
      → printed_expr (ExprP.Slice e start stop step)
      ≡ printed_expr e.value.node ++ codes "[]" ++ printed_if_there [] start ++ codes ":" ++ printed_if_there [] stop ++ printed_if_there (codes ":") step
  unfolding printed_expr printed_argument printed_parameter printed_target printed_for printed_clause printed_if_there printed_type_if_there printed_target_type
  slice_printed e start stop step =
      ap (λ t. printed_expr e.value.node ++ codes "[]" ++ t ++ codes ":" ++ maybe_text [] (maybe_seen (ExprP.back-ExprP-Slice-1 P A B C D E stop))
      ++ maybe_text (codes ":") (maybe_seen (ExprP.back-ExprP-Slice-1 P A B C D E step))) (held_printed [] start)
      ∙ ap (λ t. printed_expr e.value.node ++ codes "[]" ++ printed_if_there [] start ++ codes ":" ++ t ++ maybe_text (codes ":")
      (maybe_seen (ExprP.back-ExprP-Slice-1 P A B C D E step))) (held_printed [] stop)
      ∙ ap (λ t. printed_expr e.value.node ++ codes "[]" ++ printed_if_there [] start ++ codes ":" ++ printed_if_there [] stop ++ t)
      (held_printed (codes ":") step)

  pub identifier_printed : (name : Spanned (IdentP P A B C D E)) → printed_expr (ExprP.Identifier name) ≡ string_bytes name.node.ident
  unfolding printed_expr printed_argument printed_parameter printed_target printed_for printed_clause printed_if_there printed_type_if_there printed_target_type
  identifier_printed name = refl

  pub literal_printed : (e : ExprP.ExprP P A B C D E) (x : AstLiteral) → e ≡ ExprP.Literal x → printed_expr e ≡ literal_text (literal_seen x)
  unfolding printed_expr printed_argument printed_parameter printed_target printed_for printed_clause printed_if_there printed_type_if_there printed_target_type
  literal_printed e x is = ap printed_expr is

  pub not_printed : (e : Box (Spanned (ExprP.ExprP P A B C D E)) Global) → printed_expr (ExprP.Not e) ≡ codes "(not " ++ printed_expr e.value.node ++ codes ")"
  unfolding printed_expr printed_argument printed_parameter printed_target printed_for printed_clause printed_if_there printed_type_if_there printed_target_type
  not_printed e = refl

  pub minus_printed : (e : Box (Spanned (ExprP.ExprP P A B C D E)) Global) → printed_expr (ExprP.Minus e) ≡ codes "-" ++ printed_expr e.value.node
  unfolding printed_expr printed_argument printed_parameter printed_target printed_for printed_clause printed_if_there printed_type_if_there printed_target_type
  minus_printed e = refl

  pub plus_printed : (e : Box (Spanned (ExprP.ExprP P A B C D E)) Global) → printed_expr (ExprP.Plus e) ≡ codes "+" ++ printed_expr e.value.node
  unfolding printed_expr printed_argument printed_parameter printed_target printed_for printed_clause printed_if_there printed_type_if_there printed_target_type
  plus_printed e = refl

  pub bit_not_printed : (e : Box (Spanned (ExprP.ExprP P A B C D E)) Global) → printed_expr (ExprP.BitNot e) ≡ codes "~" ++ printed_expr e.value.node
  unfolding printed_expr printed_argument printed_parameter printed_target printed_for printed_clause printed_if_there printed_type_if_there printed_target_type
  bit_not_printed e = refl

  pub op_printed : (l : Box (Spanned (ExprP.ExprP P A B C D E)) Global) (op : BinOp) (r : Box (Spanned (ExprP.ExprP P A B C D E)) Global)
      → printed_expr (ExprP.Op l op r) ≡ codes "(" ++ printed_expr l.value.node ++ operator_text op ++ printed_expr r.value.node ++ codes ")"
  unfolding printed_expr printed_argument printed_parameter printed_target printed_for printed_clause printed_if_there printed_type_if_there printed_target_type
  op_printed l op r = refl

  clauses_printed : (v : Vec (ClauseP.ClauseP P A B C D E) Global) → clauses_text (clauses_seen (Block.hidden-the_row-ClauseP-5 P A B C D E v))
      ≡ flat_map printed_clause v.items
  clauses_printed v = ap clauses_text (clauses_seen_of v) ∙ clause_texts_of v.items

  pub list_comprehension_printed : (e : Box (Spanned (ExprP.ExprP P A B C D E)) Global) (first : Box (ForClauseP P A B C D E) Global)
      (v : Vec (ClauseP.ClauseP P A B C D E) Global) → printed_expr (ExprP.ListComprehension e first v) ≡ codes "[" ++ printed_expr e.value.node
      ++ printed_for first.value ++ flat_map printed_clause v.items ++ codes "]"
  unfolding printed_expr printed_argument printed_parameter printed_target printed_for printed_clause printed_if_there printed_type_if_there printed_target_type
  list_comprehension_printed e first v = ap (λ t. codes "[" ++ printed_expr e.value.node ++ printed_for first.value ++ t ++ codes "]") (clauses_printed v)

  pub dict_comprehension_printed : (b : Box (Spanned (ExprP.ExprP P A B C D E) × Spanned (ExprP.ExprP P A B C D E)) Global)
      (first : Box (ForClauseP P A B C D E) Global) (v : Vec (ClauseP.ClauseP P A B C D E) Global) → printed_expr (ExprP.DictComprehension b first v)
      ≡ codes "{" ++ printed_expr b.value.0.node ++ codes ": " ++ printed_expr b.value.1.node ++ printed_for first.value ++ flat_map printed_clause v.items
      ++ codes "}"
  unfolding printed_expr printed_argument printed_parameter printed_target printed_for printed_clause printed_if_there printed_type_if_there printed_target_type
  dict_comprehension_printed b first v = ap (λ t. codes "{" ++ printed_expr b.value.0.node ++ codes ": " ++ printed_expr b.value.1.node
      ++ printed_for first.value ++ t ++ codes "}") (clauses_printed v)

  pub absent_printed : (before : Text) (o : Option (Box (Spanned (ExprP.ExprP P A B C D E)) Global)) → o ≡ None → printed_if_there before o ≡ []
  unfolding printed_expr printed_argument printed_parameter printed_target printed_for printed_clause printed_if_there printed_type_if_there printed_target_type
  absent_printed before o is = ap (printed_if_there before) is

  pub present_printed : (before : Text) (e : Box (Spanned (ExprP.ExprP P A B C D E)) Global) → printed_if_there before (Some e) ≡ before
      ++ printed_expr e.value.node
  unfolding printed_expr printed_argument printed_parameter printed_target printed_for printed_clause printed_if_there printed_type_if_there printed_target_type
  present_printed before e = refl

  pub untyped_printed : (before : Text) (o : Option (Box (Spanned (TypeExprP P A B C D E)) Global)) → o ≡ None → printed_type_if_there before o ≡ []
  unfolding printed_expr printed_argument printed_parameter printed_target printed_for printed_clause printed_if_there printed_type_if_there printed_target_type
  untyped_printed before o is = ap (printed_type_if_there before) is

  pub typed_printed : (before : Text) (ty : Box (Spanned (TypeExprP P A B C D E)) Global) → printed_type_if_there before (Some ty) ≡ before
      ++ printed_expr ty.value.node.expr.node
  unfolding printed_expr printed_argument printed_parameter printed_target printed_for printed_clause printed_if_there printed_type_if_there printed_target_type
  typed_printed before ty = refl

  pub untyped_target_printed : (o : Option (Spanned (TypeExprP P A B C D E))) → o ≡ None → printed_target_type o ≡ []
  unfolding printed_expr printed_argument printed_parameter printed_target printed_for printed_clause printed_if_there printed_type_if_there printed_target_type
  untyped_target_printed o is = ap printed_target_type is

  pub typed_target_printed : (ty : Spanned (TypeExprP P A B C D E)) → printed_target_type (Some ty) ≡ codes " : " ++ printed_expr ty.node.expr.node
  unfolding printed_expr printed_argument printed_parameter printed_target printed_for printed_clause printed_if_there printed_type_if_there printed_target_type
  typed_target_printed ty = refl

  pub positional_printed : (e : Spanned (ExprP.ExprP P A B C D E)) → printed_argument (ArgumentP.Positional e) ≡ printed_expr e.node
  unfolding printed_expr printed_argument printed_parameter printed_target printed_for printed_clause printed_if_there printed_type_if_there printed_target_type
  positional_printed e = refl

  pub named_printed : (name : Spanned (String Global)) (e : Spanned (ExprP.ExprP P A B C D E)) → printed_argument (ArgumentP.Named name e)
      ≡ string_bytes name.node ++ codes " = " ++ printed_expr e.node
  unfolding printed_expr printed_argument printed_parameter printed_target printed_for printed_clause printed_if_there printed_type_if_there printed_target_type
  named_printed name e = refl

  pub args_printed : (e : Spanned (ExprP.ExprP P A B C D E)) → printed_argument (ArgumentP.Args e) ≡ codes "*" ++ printed_expr e.node
  unfolding printed_expr printed_argument printed_parameter printed_target printed_for printed_clause printed_if_there printed_type_if_there printed_target_type
  args_printed e = refl

  pub kwargs_printed : (e : Spanned (ExprP.ExprP P A B C D E)) → printed_argument (ArgumentP.KwArgs e) ≡ codes "**" ++ printed_expr e.node
  unfolding printed_expr printed_argument printed_parameter printed_target printed_for printed_clause printed_if_there printed_type_if_there printed_target_type
  kwargs_printed e = refl

  pub slash_printed : (p : ParameterP.ParameterP P A B C D E) → p ≡ ParameterP.Slash → printed_parameter p ≡ codes "/"
  unfolding printed_expr printed_argument printed_parameter printed_target printed_for printed_clause printed_if_there printed_type_if_there printed_target_type
  slash_printed p is = ap printed_parameter is

  pub no_args_printed : (p : ParameterP.ParameterP P A B C D E) → p ≡ ParameterP.NoArgs → printed_parameter p ≡ codes "*"
  unfolding printed_expr printed_argument printed_parameter printed_target printed_for printed_clause printed_if_there printed_type_if_there printed_target_type
  no_args_printed p is = ap printed_parameter is

  pub normal_printed : (name : Spanned (AssignIdentP P A B C D E)) (ty : Option (Box (Spanned (TypeExprP P A B C D E)) Global))
      (default : Option (Box (Spanned (ExprP.ExprP P A B C D E)) Global)) → printed_parameter (ParameterP.Normal name ty default)
      ≡ string_bytes name.node.ident ++ printed_type_if_there (codes ": ") ty ++ printed_if_there (codes " = ") default
  unfolding printed_expr printed_argument printed_parameter printed_target printed_for printed_clause printed_if_there printed_type_if_there printed_target_type
  normal_printed name ty default = ap (λ t. string_bytes name.node.ident ++ t ++ maybe_text (codes " = ")
      (maybe_seen (ExprP.back-ExprP-Slice-1 P A B C D E default))) (held_type_printed (codes ": ") ty)
      ∙ ap (λ t. string_bytes name.node.ident ++ printed_type_if_there (codes ": ") ty ++ t) (held_printed (codes " = ") default)

  pub args_parameter_printed : (name : Spanned (AssignIdentP P A B C D E)) (ty : Option (Box (Spanned (TypeExprP P A B C D E)) Global))
      → printed_parameter (ParameterP.Args name ty) ≡ codes "*" ++ string_bytes name.node.ident ++ printed_type_if_there (codes ": ") ty
  unfolding printed_expr printed_argument printed_parameter printed_target printed_for printed_clause printed_if_there printed_type_if_there printed_target_type
  args_parameter_printed name ty = ap (λ t. codes "*" ++ string_bytes name.node.ident ++ t) (held_type_printed (codes ": ") ty)

  pub kwargs_parameter_printed : (name : Spanned (AssignIdentP P A B C D E)) (ty : Option (Box (Spanned (TypeExprP P A B C D E)) Global))
      → printed_parameter (ParameterP.KwArgs name ty) ≡ codes "**" ++ string_bytes name.node.ident ++ printed_type_if_there (codes ": ") ty
  unfolding printed_expr printed_argument printed_parameter printed_target printed_for printed_clause printed_if_there printed_type_if_there printed_target_type
  kwargs_parameter_printed name ty = ap (λ t. codes "**" ++ string_bytes name.node.ident ++ t) (held_type_printed (codes ": ") ty)

  pub for_printed : (c : ForClauseP P A B C D E) → printed_for c ≡ codes " for " ++ printed_target c.var.node ++ codes " in " ++ printed_expr c.over.node
  unfolding printed_expr printed_argument printed_parameter printed_target printed_for printed_clause printed_if_there printed_type_if_there printed_target_type
  for_printed c = ap (λ t. codes " for " ++ t ++ codes " in " ++ printed_expr c.over.node) (target_anywhere (span_of c.var.span) c.var.node)

  pub for_clause_printed : (c : ForClauseP P A B C D E) → printed_clause (ClauseP.For c) ≡ printed_for c
  unfolding printed_expr printed_argument printed_parameter printed_target printed_for printed_clause printed_if_there printed_type_if_there printed_target_type
  for_clause_printed c = refl

  pub if_clause_printed : (e : Spanned (ExprP.ExprP P A B C D E)) → printed_clause (ClauseP.If e) ≡ codes " if " ++ printed_expr e.node
  unfolding printed_expr printed_argument printed_parameter printed_target printed_for printed_clause printed_if_there printed_type_if_there printed_target_type
  if_clause_printed e = refl

  pub target_index_printed : (b : Box (Spanned (ExprP.ExprP P A B C D E) × Spanned (ExprP.ExprP P A B C D E)) Global) → printed_target (AssignTargetP.Index b)
      ≡ printed_expr b.value.0.node ++ codes "[" ++ printed_expr b.value.1.node ++ codes "]"
  unfolding printed_expr printed_argument printed_parameter printed_target printed_for printed_clause printed_if_there printed_type_if_there printed_target_type
  target_index_printed b = refl

  pub target_dot_printed : (e : Box (Spanned (ExprP.ExprP P A B C D E)) Global) (name : Spanned (String Global)) → printed_target (AssignTargetP.Dot e name)
      ≡ printed_expr e.value.node ++ codes "." ++ string_bytes name.node
  unfolding printed_expr printed_argument printed_parameter printed_target printed_for printed_clause printed_if_there printed_type_if_there printed_target_type
  target_dot_printed e name = refl

  pub target_name_printed : (name : Spanned (AssignIdentP P A B C D E)) → printed_target (AssignTargetP.Identifier name) ≡ string_bytes name.node.ident
  unfolding printed_expr printed_argument printed_parameter printed_target printed_for printed_clause printed_if_there printed_type_if_there printed_target_type
  target_name_printed name = refl

-- joins seven writes, like `put_six` of std joins six
pub put_seven : {W : Type 0} (took : W → List ℕ → W → Type 0) (f g h i j k l m : Formatter W) (a b c d e x y all : List ℕ)
    → HasWritten took f a g → HasWritten took g b h → HasWritten took h c i → HasWritten took i d j → HasWritten took j e k → HasWritten took k x l
    → HasWritten took l y m
    → a ++ (b ++ (c ++ (d ++ (e ++ (x ++ y))))) ≡ all → HasWritten took f all m
put_seven took f g h i j k l m a b c d e x y all p1 p2 p3 p4 p5 p6 p7 is =
    put_six took f g h i j k m a b c d e (x ++ y) all p1 p2 p3 p4 p5 (put_two took k l m x y (x ++ y) p6 p7 refl) is

pub ruleset expressions = (
  common_steps,
  put_seven,
  tuple_printed,
  list_printed,
  dict_printed,
  call_printed,
  f_string_printed,
  dot_printed,
  index_printed,
  index2_printed,
  if_printed,
  slice_printed,
  identifier_printed,
  literal_printed,
  not_printed,
  minus_printed,
  plus_printed,
  bit_not_printed,
  op_printed,
  list_comprehension_printed,
  dict_comprehension_printed,
)

pub ruleset options = (common_steps, absent_printed, present_printed, untyped_printed, typed_printed, untyped_target_printed, typed_target_printed)

pub ruleset lambdas = (common_steps, lambda_printed)

pub ruleset arguments = (common_steps, positional_printed, named_printed, args_printed, kwargs_printed)

pub ruleset parameters = (common_steps, slash_printed, no_args_printed, normal_printed, args_parameter_printed, kwargs_parameter_printed)

pub ruleset clauses = (common_steps, for_printed, for_clause_printed, if_clause_printed)

pub ruleset targets = (common_steps, target_tuple_printed, target_index_printed, target_dot_printed, target_name_printed)
