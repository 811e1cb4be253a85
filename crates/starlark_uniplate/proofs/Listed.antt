-- The expressions of a call's arguments, one by one.
use Rattle.std.proofs.Common.{◌≡◌, List, [], ◌∷◌, map, refl, ap, ◌∙◌}
use Rattle.starlark_lexer.specs.Tokens.{span_of}
use Rattle.starlark_lexer.specs.declared.span.Spanned.{Spanned}
use Rattle.starlark_tree.specs.declared.ast.ArgumentP as argument
use Rattle.starlark_tree.specs.declared.ast.CallArgsP.{CallArgsP}
use Rattle.starlark_tree.specs.Parts.{argument_expression}
use Rattle.starlark_tree.specs.Places.{argument_expr, arguments_exprs}
use Rattle.starlark_tree.specs.Views.{all_arguments, argument_seen, expression_of}
use Rattle.starlark_tree.proofs.Rows.{arguments_seen_of}
use Rattle.starlark_uniplate.specs.Listed.{exprs_passed}

module _ {P A B C D E : Type 0} where
  argument_anywhere : (s : _) (a : argument.ArgumentP P A B C D E) → argument_expr (argument_seen s a) ≡ expression_of (argument_expression a)
  argument_anywhere s (argument.Positional' e r) = refl
  argument_anywhere s (argument.Named' w e r) = refl
  argument_anywhere s (argument.Args' e r) = refl
  argument_anywhere s (argument.KwArgs' e r) = refl

  arguments_in : (xs : List (Spanned (argument.ArgumentP P A B C D E))) → arguments_exprs (all_arguments xs)
      ≡ map (λ (a : Spanned (argument.ArgumentP P A B C D E)). expression_of (argument_expression a.node)) xs
  arguments_in [] = refl
  arguments_in (x ∷ xs) =
      ap (λ y. y ∷ arguments_exprs (all_arguments xs)) (argument_anywhere (span_of x.span) x.node)
      ∙ ap (λ ys. expression_of (argument_expression x.node) ∷ ys) (arguments_in xs)

  pub arguments_listed : (args : CallArgsP P A B C D E)
      → exprs_passed args ≡ map (λ (a : Spanned (argument.ArgumentP P A B C D E)). expression_of (argument_expression a.node)) args.args.items
  arguments_listed args = ap arguments_exprs (arguments_seen_of args.args) ∙ arguments_in args.args.items
