-- The displayed text of a tree in memory. It does not depend on spans.
use Rattle.std.specs.Prelude.{ℕ, List as Seq, [], ◌++◌, codes, Option, Some, None, string_bytes}
use Rattle.std.specs.Global.{Global}
use Rattle.std.specs.declared.boxed.Box.{Box}
use Rattle.starlark_lexer.specs.Tokens.{Text, nowhere}
use Rattle.starlark_lexer.specs.declared.span.Spanned.{Spanned}
use Rattle.starlark_tree.specs.Joined.{comma_separated}
use Rattle.starlark_tree.specs.Literals.{quoted}
use Rattle.starlark_tree.specs.Printing.{shape_text, argument_text, parameter_text, clause_text, for_text, target_text, load_arg_text, form_text}
use Rattle.starlark_tree.specs.Views.{shape_seen, argument_seen, parameter_seen, clause_seen, for_in_of, target_seen, load_arg_of, form_seen}
use Rattle.starlark_tree.specs.declared.ast.ArgumentP.{ArgumentP}
use Rattle.starlark_tree.specs.declared.ast.AssignTargetP.{AssignTargetP}
use Rattle.starlark_tree.specs.declared.ast.ClauseP.{ClauseP}
use Rattle.starlark_tree.specs.declared.ast.ExprP.{ExprP}
use Rattle.starlark_tree.specs.declared.ast.ForClauseP.{ForClauseP}
use Rattle.starlark_tree.specs.declared.ast.LoadArgP.{LoadArgP}
use Rattle.starlark_tree.specs.declared.ast.LoadP.{LoadP}
use Rattle.starlark_tree.specs.declared.ast.ParameterP.{ParameterP}
use Rattle.starlark_tree.specs.declared.ast.StmtP.{StmtP}
use Rattle.starlark_tree.specs.declared.ast.TypeExprP.{TypeExprP}

module _ {P A B C D E : Type 0} where
  unfoldable pub printed_expr : ExprP P A B C D E → Text
  printed_expr e = shape_text (shape_seen e)

  -- the text of a type is that of its expression
  abbrev pub printed_type : TypeExprP P A B C D E → Text
  printed_type ty = printed_expr ty.expr.node

  unfoldable pub printed_argument : ArgumentP P A B C D E → Text
  printed_argument a = argument_text (argument_seen nowhere a)

  unfoldable pub printed_parameter : ParameterP P A B C D E → Text
  printed_parameter p = parameter_text (parameter_seen nowhere p)

  unfoldable pub printed_target : AssignTargetP P A B C D E → Text
  printed_target x = target_text (target_seen nowhere x)

  unfoldable pub printed_for : ForClauseP P A B C D E → Text
  printed_for c = for_text (for_in_of c)

  unfoldable pub printed_clause : ClauseP P A B C D E → Text
  printed_clause c = clause_text (clause_seen c)

  -- with a text before it, if there is one
  unfoldable pub printed_if_there : Text → Option (Box (Spanned (ExprP P A B C D E)) Global) → Text
  printed_if_there before None = []
  printed_if_there before (Some e) = before ++ printed_expr e.value.node

  unfoldable pub printed_type_if_there : Text → Option (Box (Spanned (TypeExprP P A B C D E)) Global) → Text
  printed_type_if_there before None = []
  printed_type_if_there before (Some ty) = before ++ printed_expr ty.value.node.expr.node

  -- the type of an assignment's target
  unfoldable pub printed_target_type : Option (Spanned (TypeExprP P A B C D E)) → Text
  printed_target_type None = []
  printed_target_type (Some ty) = codes " : " ++ printed_expr ty.node.expr.node

  -- the parameters and the return type of a definition
  unfoldable pub printed_signature : Seq (Spanned (ParameterP P A B C D E)) → Option (Box (Spanned (TypeExprP P A B C D E)) Global) → Text
  printed_signature params ty =
      codes "(" ++ comma_separated (λ (p : Spanned (ParameterP P A B C D E)). printed_parameter p.node) params ++ codes ")"
      ++ printed_type_if_there (codes " -> ") ty

  -- without its indentation and line feed
  unfoldable pub printed_load : LoadP P A B C D E → Text
  printed_load l =
      codes "load(" ++ quoted (string_bytes l.module.node) ++ codes ", "
      ++ comma_separated (λ (a : LoadArgP P A B C D E). load_arg_text (load_arg_of a)) l.args.items ++ codes ")"

  -- inside this many blocks
  unfoldable pub printed_stmt : ℕ → StmtP P A B C D E → Text
  printed_stmt depth s = form_text depth (form_seen s)
