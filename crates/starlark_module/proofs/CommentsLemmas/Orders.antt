-- A keeper's lexemes come in order, and come to an end, as those of the iterator in it do.
use Rattle.std.proofs.Common.{◌≡◌, ℕ, [], ◌∷◌, Option, Some, Ok, Err, false, refl, sym, arith}
use Rattle.std.proofs.lemmas.Bool.{false≢true}
use Rattle.std.specs.Iterator.{Count, MakesProgress}
use Rattle.starlark_lexer.specs.Lexer.{CodeLexeme}
use Rattle.starlark_parse_cursor.specs.Order.{IsInOrder, ComesInOrder}
use Rattle.starlark_parse_cursor.proofs.Order.{rest_in_order, in_order_earlier}
use Rattle.starlark_module.specs.Comments.Keeping.{is_error}
use Rattle.starlark_module.specs.declared.comments.comment_keeper.CommentKeeper.{CommentKeeper}

module _ {S : Type 0} {steps : S → Option CodeLexeme → S → Type 0} where
  pub one_in_order : {s t : S} {from : ℕ} {x : CodeLexeme} → ComesInOrder steps s from → steps s (Some x) t → IsInOrder from (x ∷ [])
  one_in_order {t = t} {x = x} o h = o.at (x ∷ []) t (t, h, refl)

  -- after a lexeme that is not an error
  pub goes_on : {s t : S} (x : CodeLexeme) → ComesInOrder steps s 0 → steps s (Some x) t → is_error x ≡ false → ComesInOrder steps t 0
  goes_on (Ok x) o h e = in_order_earlier 0 x.2 (rest_in_order o h) (omega arith)
  goes_on (Err x) o h e = absurd (false≢true (sym e))

-- a keeper comes nearer to the end as the iterator in it does
pub nearer : {S A B : Type 0} (can : S → Type 0) (left : S → Count) (may : CommentKeeper S → Type 0) (old new : CommentKeeper S) (x : A) (given : B)
    → MakesProgress can left old.lexemes.now (Some x) new.lexemes.now → (can new.lexemes.now → may new) → MakesProgress may (λ k. left k.lexemes.now) old
    (Some given) new
nearer can left may old new x given goes may_go_on = record {
  on = λ finite. let next = goes.on finite in (may_go_on next.0, next.1, next.2);
  keeps = may_go_on goes.keeps;
  rests = λ _. tt;
}
