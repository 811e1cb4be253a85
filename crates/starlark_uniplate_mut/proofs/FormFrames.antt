-- Statements by their gaps and by what is at these.
use Rattle.std.proofs.Common.{◌≡◌, List, [], ◌∷◌, length, refl, sym, ap, ◌∙◌, arith}
use Rattle.starlark_tree.specs.Ast as t
use Rattle.starlark_tree.specs.Ast.{statements_of}
use Rattle.starlark_tree.specs.Children.{own_exprs, own_stmts}
use Rattle.starlark_uniplate_mut.specs.FormFrames.{children_frame, exprs_frame, gaps, stmt_gap, stmts_frame}

module _ {Q : t.Payloads} where
  -- gaps for one kind of children leave the others unchanged
  stmts_stay : (form : t.Form Q) → own_stmts (exprs_frame form) ≡ own_stmts form
  stmts_stay t.Break = refl
  stmts_stay t.Continue = refl
  stmts_stay t.Pass = refl
  stmts_stay (t.Return e) = refl
  stmts_stay (t.Evaluate e) = refl
  stmts_stay (t.Assign x ty e) = refl
  stmts_stay (t.AssignModify x op e) = refl
  stmts_stay (t.Block ss) = refl
  stmts_stay (t.IfThen e s) = refl
  stmts_stay (t.IfElse e s other) = refl
  stmts_stay (t.For x e s) = refl
  stmts_stay (t.Def w p ps ty s q) = refl
  stmts_stay (t.Load path names p) = refl

  exprs_stay : (form : t.Form Q) → own_exprs (stmts_frame form) ≡ own_exprs form
  exprs_stay t.Break = refl
  exprs_stay t.Continue = refl
  exprs_stay t.Pass = refl
  exprs_stay (t.Return e) = refl
  exprs_stay (t.Evaluate e) = refl
  exprs_stay (t.Assign x ty e) = refl
  exprs_stay (t.AssignModify x op e) = refl
  exprs_stay (t.Block ss) = refl
  exprs_stay (t.IfThen e s) = refl
  exprs_stay (t.IfElse e s other) = refl
  exprs_stay (t.For x e s) = refl
  exprs_stay (t.Def w p ps ty s q) = refl
  exprs_stay (t.Load path names p) = refl

  either_first : (form : t.Form Q) → exprs_frame (stmts_frame form) ≡ children_frame form
  either_first t.Break = refl
  either_first t.Continue = refl
  either_first t.Pass = refl
  either_first (t.Return e) = refl
  either_first (t.Evaluate e) = refl
  either_first (t.Assign x ty e) = refl
  either_first (t.AssignModify x op e) = refl
  either_first (t.Block ss) = refl
  either_first (t.IfThen e s) = refl
  either_first (t.IfElse e s other) = refl
  either_first (t.For x e s) = refl
  either_first (t.Def w p ps ty s q) = refl
  either_first (t.Load path names p) = refl

  pub same_stmts : (old new : t.Form Q) → exprs_frame new ≡ exprs_frame old → own_stmts new ≡ own_stmts old
  same_stmts old new e = sym (stmts_stay new) ∙ ap own_stmts e ∙ stmts_stay old

  pub same_exprs : (old new : t.Form Q) → stmts_frame new ≡ stmts_frame old → own_exprs new ≡ own_exprs old
  same_exprs old new e = sym (exprs_stay new) ∙ ap own_exprs e ∙ exprs_stay old

  pub both_frames : (old mid new : t.Form Q) → exprs_frame mid ≡ exprs_frame old → stmts_frame new ≡ stmts_frame mid → children_frame new ≡ children_frame old
  both_frames old mid new e d = sym (either_first new) ∙ ap exprs_frame d ∙ either_first mid ∙ ap stmts_frame e

  pub same_gaps : (xs ys : List (t.Statement Q)) → length xs ≡ length ys → gaps (statements_of xs) ≡ gaps (statements_of ys)
  same_gaps [] [] e = refl
  same_gaps [] (y ∷ ys) e = absurd (cc)
  same_gaps (x ∷ xs) [] e = absurd (cc)
  same_gaps (x ∷ xs) (y ∷ ys) e = ap (t.statements stmt_gap) (same_gaps xs ys (omega (arith, e)))
