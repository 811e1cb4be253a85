-- The lexemes of a guard are in order, and end, as those of the iterator in it do.
use Rattle.std.proofs.Common.{◌≡◌, ℕ, List, [], ◌∷◌, Option, Some, Ok, Err, Bool, false, refl, sym, ◌∙◌, arith}
use Rattle.std.proofs.lemmas.Bool.{false≢true}
use Rattle.std.specs.Iterator.{Count, MakesProgress, Yields}
use Rattle.starlark_lexer.specs.Lexer.{CodeLexeme}
use Rattle.starlark_parse_cursor.specs.Order.{IsInOrder, ComesInOrder}
use Rattle.starlark_parse_cursor.proofs.Order.{first_in_order, rest_in_order, in_order_earlier}
use Rattle.starlark_depth.specs.Guarding.{Gives, Passes, passes}
use Rattle.starlark_depth.specs.declared.depth.Depth.{Depth}
use Rattle.starlark_depth.specs.declared.guard.DepthGuard.{DepthGuard}

module _ {S : Type 0} {steps : S → Option CodeLexeme → S → Type 0} where
  pub one_in_order : {s t : S} {from : ℕ} {x : CodeLexeme} → ComesInOrder steps s from → steps s (Some x) t → IsInOrder from (x ∷ [])
  one_in_order {t = t} {x = x} o h = o.at (x ∷ []) t (t, h, refl)

  -- after a lexeme that was passed on and is not an error
  pub continues : {s t : S} (x : CodeLexeme) (old new : Depth) (failed : Bool) → ComesInOrder steps s 0 → steps s (Some x) t → Passes x old new failed
      → failed ≡ false → ComesInOrder steps t 0
  continues (Ok x) old new failed o h p e = in_order_earlier 0 x.2 (rest_in_order o h) (omega arith)
  continues (Err x) old new failed o h p e = absurd (false≢true (sym e ∙ p))

-- a guard makes progress as the iterator in it does
pub nearer : {S A B : Type 0} (can : S → Type 0) (left : S → Count) (may : DepthGuard S → Type 0) (old new : DepthGuard S) (x : A) (given : B)
    → MakesProgress can left old.lexemes.now (Some x) new.lexemes.now → (can new.lexemes.now → may new)
    → MakesProgress may (λ g. left g.lexemes.now) old (Some given) new
nearer can left may old new x given goes may_go_on = record {
  on = λ finite. let next = goes.on finite in (may_go_on next.0, next.1, next.2);
  keeps = may_go_on goes.keeps;
  rests = λ _. tt;
}

-- the lexemes of a guard are in order
module _ {S : Type 0} (steps : S → Option CodeLexeme → S → Type 0) where
  ordered : (g : DepthGuard S) (from : ℕ) (xs : List CodeLexeme) (t : DepthGuard S) → ComesInOrder steps g.lexemes.now from → Yields (Gives steps) g xs t
      → IsInOrder from xs
  ordered g from [] t o y = tt
  ordered g from (Ok x ∷ xs) t o (next, passes z running same one counted, more) =
      let first = first_in_order o one in
      (first.0, first.1, first.2, ordered next x.2 xs t (rest_in_order o one) more)
  ordered g from (Err e ∷ xs) t o y = tt

  pub guard_in_order : (g : DepthGuard S) (from : ℕ) → ComesInOrder steps g.lexemes.now from → ComesInOrder (Gives steps) g from
  guard_in_order g from o = record { at = λ xs t y. ordered g from xs t o y }
