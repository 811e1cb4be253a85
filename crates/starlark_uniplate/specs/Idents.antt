-- The identifiers of a tree, as a walk visits them. A name that is bound is not one.
use Rattle.std.specs.Prelude.{List as Seq, [], ◌∷◌}
use Rattle.std.specs.List.{flat_map}
use Rattle.starlark_lexer.specs.declared.span.Spanned.{Spanned}
use Rattle.starlark_tree.specs.declared.ast.IdentP.{IdentP}
use Rattle.starlark_tree.specs.declared.ast.StmtP.{StmtP}
use Rattle.starlark_tree.specs.Ast as t
use Rattle.starlark_tree.specs.Ast.{Payloads, Word}
use Rattle.starlark_tree.specs.Children.{form_exprs}
use Rattle.starlark_tree.specs.Inside.{inside}
use Rattle.starlark_tree.specs.Views.{form_seen, ident_word}

module _ {P : Payloads} where
  -- the identifier that an expression is, if it is one
  abbrev pub own_ident : t.Expression P → Seq (Word × P.ident)
  own_ident (t.expression s (t.Identifier w p)) = (w, p) ∷ []
  own_ident (t.expression s _) = []

  -- the identifiers in an expression, each expression before those inside it
  abbrev pub idents : t.Expression P → Seq (Word × P.ident)
  idents e = flat_map own_ident (inside e)

  -- those in the expressions of a statement
  abbrev pub all_idents : t.Form P → Seq (Word × P.ident)
  all_idents form = flat_map idents (form_exprs form)

-- the same for trees in memory
module _ {P A B C D E : Type 0} where
  -- an identifier with its payload
  abbrev pub ident_of : Spanned (IdentP P A B C D E) → Word × B
  ident_of w = (ident_word w, w.node.payload)

  abbrev pub idents_in_stmt : StmtP P A B C D E → Seq (Word × B)
  idents_in_stmt s = all_idents (form_seen s)
