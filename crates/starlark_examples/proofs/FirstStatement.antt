-- The first statement of a body.
use Rattle.std.proofs.Common.{◌≡◌, List, [], ◌∷◌, Option, Some, None, Vec, Global, slice_get, refl, sym, ap, ◌∙◌}
use Rattle.std.specs.Option.{unwrap_or}
use Rattle.starlark_syntax.specs.lexer.declared.span.Spanned.{Spanned}
use Rattle.starlark_syntax.specs.tree.declared.ast.StmtP as stmts
use Rattle.starlark_syntax.specs.tree.Ast as t
use Rattle.starlark_syntax.specs.tree.Views.{all_statements, form_seen}
use Rattle.starlark_syntax.proofs.tree.Rows.{statements_seen_of}
use Rattle.starlark_examples.specs.Documentation.{docstring, string_alone}

module _ {P A B C D E : Type 0} where
  block_is : (body : stmts.StmtP P A B C D E) (v : Vec (Spanned (stmts.StmtP P A B C D E)) Global) → body ≡ stmts.Statements v
      → docstring (form_seen body) ≡ docstring (t.Block (all_statements v.items))
  block_is body v is = rw (is, statements_seen_of v) refl

  first_says : (xs : List (Spanned (stmts.StmtP P A B C D E))) (x : Spanned (stmts.StmtP P A B C D E)) → Some x ≡ slice_get xs 0
      → docstring (t.Block (all_statements xs)) ≡ string_alone (form_seen x.node)
  first_says [] x is = absurd (cc)
  first_says (y ∷ ys) x is = ap (λ z. string_alone (form_seen z.node)) (sym (ap (λ o. unwrap_or o x) is))

  none_says : (xs : List (Spanned (stmts.StmtP P A B C D E))) → None ≡ slice_get xs 0 → docstring (t.Block (all_statements xs)) ≡ None
  none_says [] is = refl
  none_says (y ∷ ys) is = absurd (cc)

  pub first_of_body : (body : stmts.StmtP P A B C D E) (v : Vec (Spanned (stmts.StmtP P A B C D E)) Global) (x : Spanned (stmts.StmtP P A B C D E))
      → body ≡ stmts.Statements v → Some x ≡ slice_get v.items 0 → docstring (form_seen body) ≡ string_alone (form_seen x.node)
  first_of_body body v x is first = block_is body v is ∙ first_says v.items x first

  pub empty_body : (body : stmts.StmtP P A B C D E) (v : Vec (Spanned (stmts.StmtP P A B C D E)) Global)
      → body ≡ stmts.Statements v → None ≡ slice_get v.items 0 → docstring (form_seen body) ≡ None
  empty_body body v is none = block_is body v is ∙ none_says v.items none
