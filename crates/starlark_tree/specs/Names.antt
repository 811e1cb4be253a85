-- The names that a target binds, in the order of a walk.
use Rattle.std.specs.Prelude.{List as Seq}
use Rattle.starlark_lexer.specs.Tokens.{nowhere}
use Rattle.starlark_lexer.specs.declared.span.Spanned.{Spanned}
use Rattle.starlark_tree.specs.declared.ast.AssignIdentP.{AssignIdentP}
use Rattle.starlark_tree.specs.declared.ast.AssignTargetP.{AssignTargetP}
use Rattle.starlark_tree.specs.Ast.{Word}
use Rattle.starlark_tree.specs.Places.{lvalues}
use Rattle.starlark_tree.specs.Views.{assign_word, target_seen}

module _ {P A B C D E : Type 0} where
  -- a name with its payload
  abbrev pub name_of : Spanned (AssignIdentP P A B C D E) → Word × C
  name_of w = (assign_word w, w.node.payload)

  -- a target binds the same names wherever it is
  abbrev pub lvalues_of : AssignTargetP P A B C D E → Seq (Word × C)
  lvalues_of x = lvalues (target_seen nowhere x)
