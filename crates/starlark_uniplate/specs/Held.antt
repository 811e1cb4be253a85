-- What is seen of a statement and of a child, by names that proofs do not open: they keep the contracts of traits small.
use Rattle.starlark_lexer.specs.declared.span.Spanned.{Spanned}
use Rattle.starlark_tree.specs.Ast as t
use Rattle.starlark_tree.specs.Children.{Child}
use Rattle.starlark_tree.specs.Views.{payloads, statement_of}
use Rattle.starlark_tree.specs.declared.ast.StmtP.{StmtP}
use Rattle.starlark_uniplate.specs.Visited.{child_of}
use Rattle.starlark_uniplate.specs.declared.uniplate.visit.Visit.{Visit}

module _ {P A B C D E : Type 0} where
  unfoldable pub statement_at : Spanned (StmtP P A B C D E) → t.Statement (payloads A B C D E)
  statement_at s = statement_of s

  unfoldable pub child_at : Visit P A B C D E → Child (payloads A B C D E)
  child_at c = child_of c
