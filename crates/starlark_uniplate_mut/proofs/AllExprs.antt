-- The expressions of a statement and of the statements in it, statement by statement.
use Rattle.std.proofs.Common.{◌≡◌, List, [], ◌∷◌, Result, Ok, refl, sym, ap, ◌∙◌}
use Rattle.std.specs.List.{flat_map}
use Rattle.starlark_tree.specs.declared.ast.StmtP.{StmtP}
use Rattle.starlark_tree.specs.Ast as t
use Rattle.starlark_tree.specs.Children.{exprs_in_stmt, exprs_of_stmt, form_exprs, own_exprs}
use Rattle.starlark_tree.specs.Views.{form_seen, payloads}
use Rattle.starlark_tree.specs.Walks.{MayWriteBy, Writing, WritesIn, may_walk}
use Rattle.starlark_tree.proofs.WalkConversions.{may_at}
use Rattle.starlark_tree.proofs.Steps.{may_left}
use Rattle.starlark_uniplate_mut.specs.AllExprs.{own_expr_calls}
use Rattle.starlark_uniplate_mut.specs.Forms.{forms, forms_of, nesting_of}
use Rattle.starlark_uniplate_mut.proofs.Filled.{exprs_in_forms, same_entered}
use Rattle.starlark_uniplate_mut.proofs.NestedWrites.{kept_through, write_through}
use Rattle.starlark_uniplate_mut.specs.FormFrames.{children_frame, entered_frame_of, exprs_frame, exprs_frame_of, stmts_frame, stmts_frame_of}
use Rattle.starlark_uniplate_mut.proofs.Writing.{may_after, write_at}

module _ {Q : t.Payloads} where
  pub exprs_stay : (form : t.Form Q) → own_exprs (stmts_frame form) ≡ own_exprs form
  exprs_stay (t.Block ss) = refl
  exprs_stay form = refl

  pub either_first : (form : t.Form Q) → exprs_frame (stmts_frame form) ≡ children_frame form
  either_first (t.Block ss) = refl
  either_first form = refl

module _ {P A B C D E S R : Type 0} {by : Writing S (t.Expression (payloads A B C D E)) R} {s u : S} {r : Result (Unit {0}) R} where
  -- a statement's own expressions, changed as those of the statement without the statements in it
  pub own_called : (x y : StmtP P A B C D E) → WritesIn exprs_of_stmt exprs_frame_of by s x y r u → WritesIn own_exprs exprs_frame by s (stmts_frame_of x)
      (stmts_frame_of y) r u
  own_called x y p = record {
    calls = write_at (sym (exprs_stay (form_seen x))) (sym (exprs_stay (form_seen y))) p.calls;
    rest = either_first (form_seen y) ∙ ap stmts_frame p.rest ∙ sym (either_first (form_seen x));
  }

  pub all_written : (x y : StmtP P A B C D E) → WritesIn forms_of nesting_of (own_expr_calls by) s x y r u
      → WritesIn exprs_in_stmt entered_frame_of by s x y r u
  all_written x y p = record {
    calls = write_at (sym (exprs_in_forms (form_seen x))) (sym (exprs_in_forms (form_seen y))) (write_through p.calls (λ s x y r t q. q.calls));
    rest = same_entered (form_seen x) (form_seen y) p.rest (kept_through exprs_frame p.calls (λ s x y r t q. q.rest));
  }

module _ {Q : t.Payloads} {S R : Type 0} (by : Writing S (t.Expression Q) R) where
  each_may : (s : S) (xs : List (t.Form Q)) → MayWriteBy by s (flat_map own_exprs xs)
      → may_walk (own_expr_calls by).may (λ s x u. (y : t.Form Q) × (own_expr_calls by).call s x y (Ok tt) u) s xs
  each_may s [] p = tt
  each_may s (x ∷ xs) p = (may_left (own_exprs x) (flat_map own_exprs xs) p, λ u c. each_may u xs (may_after c.1.calls (flat_map own_exprs xs) p))

  pub all_may : (s : S) (form : t.Form Q) → MayWriteBy by s (form_exprs form) → MayWriteBy (own_expr_calls by) s (forms form)
  all_may s form p = record { each = each_may s (forms form) (may_at (exprs_in_forms form) p) }
