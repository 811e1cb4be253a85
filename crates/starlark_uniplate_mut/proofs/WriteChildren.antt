-- Mutable walks over a statement's children: its expressions, then the statements in it.
use Rattle.std.proofs.Common.{◌≡◌, List, [], ◌∷◌, ◌++◌, map, Result, Ok, Err, inl, inr, refl, sym, ap}
use Rattle.starlark_tree.specs.Ast as t
use Rattle.starlark_tree.specs.Children.{expr, own_exprs, own_stmts, stmt, stmt_children}
use Rattle.starlark_uniplate_mut.specs.FormFrames.{exprs_frame, stmts_frame}
use Rattle.starlark_tree.specs.Walks.{MayWalk, MayWriteBy, Write, WriteBy, Writing, may_walk, write}
use Rattle.starlark_uniplate_mut.specs.WrittenChildren.{child_calls}
use Rattle.starlark_uniplate_mut.proofs.FormFrames.{same_exprs, same_stmts}
use Rattle.starlark_tree.proofs.WalkConversions.{may_at}
use Rattle.starlark_tree.proofs.Steps.{may_left}
use Rattle.starlark_uniplate_mut.proofs.Writing.{may_after, write_at, write_on, write_stops}

-- walks over nodes each of which is seen as something else
module _ {S X Y E : Type 0} (show : X → Y) (call : S → Y → Y → Result (Unit {0}) E → S → Type 0) where
  shown : (s : S) (xs ys : List X) (r : Result (Unit {0}) E) (t : S) → write (λ s x y r t. call s (show x) (show y) r t) s xs ys r t
      → write call s (map show xs) (map show ys) r t
  shown s [] [] r t p = p
  shown s [] (y ∷ ys) r t p = absurd p
  shown s (x ∷ xs) [] r t p = absurd p
  shown s (x ∷ xs) (y ∷ ys) r t (inl p) = inl (p.0, p.1, p.2, ap (map show) p.3)
  shown s (x ∷ xs) (y ∷ ys) r t (inr p) = inr (p.0, p.1, shown p.0 xs ys r t p.2)

  pub write_shown : {s : S} {xs ys : List X} {r : Result (Unit {0}) E} {t : S} → Write (λ s x y r t. call s (show x) (show y) r t) s xs ys r t
      → Write call s (map show xs) (map show ys) r t
  write_shown {s} {xs} {ys} {r} {t} p = record { calls = shown s xs ys r t p.calls }

-- a condition for all that may be left is one for all that is seen
module _ {S X Y : Type 0} (show : X → Y) (may : S → Y → Type 0) (goes : S → Y → S → Type 0) (once : S → X → S → Type 0) (same : (s : S) (x : X) (t : S)
    → once s x t → goes s (show x) t) where
  may_each : (s : S) (xs : List X) → may_walk may goes s (map show xs) → may_walk (λ s x. may s (show x)) once s xs
  may_each s [] p = tt
  may_each s (x ∷ xs) p = (p.0, λ t c. may_each t xs (p.1 t (same s x t c)))

  pub may_shown : {s : S} {xs : List X} → MayWalk may goes s (map show xs) → MayWalk (λ s x. may s (show x)) once s xs
  may_shown {s} {xs} p = record { each = may_each s xs p.each }

module _ {Q : t.Payloads} {S E : Type 0} (stmts : Writing S (t.Statement Q) E) (exprs : Writing S (t.Expression Q) E) {s : S} where
  pub may_exprs : (old : t.Form Q) → MayWriteBy (child_calls stmts exprs) s (stmt_children old) → MayWriteBy exprs s (own_exprs old)
  may_exprs old p =
      may_shown expr (child_calls stmts exprs).may _ (λ s x v. (y : t.Expression Q) × exprs.call s x y (Ok tt) v) (λ s x v c. (expr c.0, c.1))
      (may_left (map expr (own_exprs old)) (map stmt (own_stmts old)) p)

  pub may_stmts : {u : S} (old mid : t.Form Q) → exprs_frame mid ≡ exprs_frame old → WriteBy exprs s (own_exprs old) (own_exprs mid) (Ok tt) u
      → MayWriteBy (child_calls stmts exprs) s (stmt_children old) → MayWriteBy stmts u (own_stmts mid)
  may_stmts {u} old mid e w p =
      may_at (sym (same_stmts old mid e))
      (may_shown stmt (child_calls stmts exprs).may _ (λ s x v. (y : t.Statement Q) × stmts.call s x y (Ok tt) v) (λ s x v c. (stmt c.0, c.1))
      (may_after (write_shown expr (child_calls stmts exprs).call w) (map stmt (own_stmts old)) p))

  pub children_walk : {u : S} (old mid new : t.Form Q) → exprs_frame mid ≡ exprs_frame old → stmts_frame new ≡ stmts_frame mid
      → {r : Result (Unit {0}) E} {v : S}
      → WriteBy exprs s (own_exprs old) (own_exprs mid) (Ok tt) u → WriteBy stmts u (own_stmts mid) (own_stmts new) r v
      → WriteBy (child_calls stmts exprs) s (stmt_children old) (stmt_children new) r v
  children_walk old mid new e d p q =
      write_at
      (ap (λ ss. map expr (own_exprs old) ++ map stmt ss) (same_stmts old mid e))
      (ap (λ es. map expr es ++ map stmt (own_stmts new)) (sym (same_exprs mid new d)))
      (write_on (write_shown expr (child_calls stmts exprs).call p) (write_shown stmt (child_calls stmts exprs).call q))

  pub children_stop : {u : S} (old mid : t.Form Q) → exprs_frame mid ≡ exprs_frame old → {e : E} → WriteBy exprs s (own_exprs old) (own_exprs mid) (Err e) u
      → WriteBy (child_calls stmts exprs) s (stmt_children old) (stmt_children mid) (Err e) u
  children_stop old mid f p =
      write_at refl (ap (λ ss. map expr (own_exprs mid) ++ map stmt ss) (sym (same_stmts old mid f)))
      (write_stops (map stmt (own_stmts old)) (write_shown expr (child_calls stmts exprs).call p))
