-- Expressions that are found in a tree, through references.
use Rattle.std.specs.Prelude.{◌≡◌, List as Seq, ◌++◌, map, Result, IfOk}
use denote.Ref.{Bor}
use Rattle.starlark_lexer.specs.declared.span.Spanned.{Spanned}
use Rattle.starlark_tree.specs.declared.ast.ExprP.{ExprP}
use Rattle.starlark_tree.specs.Ast as t
use Rattle.starlark_tree.specs.Places.{behind}
use Rattle.starlark_tree.specs.Views.{expression_of, payloads}

module _ {P A B C D E : Type 0} where
  -- the expressions are added after the references that were there, unless there is an `Err`
  pub record Adds {V F : Type 0} (before after : Seq (Bor (Spanned (ExprP P A B C D E)))) (places : Seq (t.Expression (payloads A B C D E)))
      (answer : Result V F) : Type 0 where
    pub adds : IfOk answer (λ _. map (behind expression_of) after ≡ map (behind expression_of) before ++ places)
